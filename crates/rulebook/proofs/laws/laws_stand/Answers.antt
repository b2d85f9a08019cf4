use Rattle.rulebook.proofs.Obeying.{nothing_obeys, front_obeys, longer_obeys, last_lawful}
use Rattle.rulebook.proofs.Lawful.{stays_lawful, precharge_in_time, activate_in_time, column_in_time}
use Rattle.rulebook.proofs.laws.laws_stand.Goals as goal

pub returns : goal.returns
returns c = record {
  nothing = nothing_obeys;
  prefixes = front_obeys;
  extend = longer_obeys;
  last = last_lawful;
  stays = stays_lawful;
  precharge = precharge_in_time;
  activate = activate_in_time;
  column = column_in_time;
}
