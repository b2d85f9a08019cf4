-- The promises together.
use Rattle.machine.specs.Promises.{KeepsItsPromises}
use Rattle.machine.specs.Opens.{WheneverOpened}
use Rattle.machine.proofs.Kept.{within_the_rules, accounted_for, numbers_apart, cells_apart, served_once_in_time}
use Rattle.machine.proofs.Frames.{one_a_frame}
use Rattle.machine.proofs.Apart.{apart_from_others}

pub keeps_its_promises : WheneverOpened KeepsItsPromises
keeps_its_promises s k last p f = record {
  within_the_rules = within_the_rules s k last p f;
  accounted_for = accounted_for s k last p f;
  numbers_apart = numbers_apart s k last p f;
  cells_apart = cells_apart s k last p f;
  served_once_in_time = served_once_in_time s k last p f;
  apart_from_others = apart_from_others s k last p f;
  one_a_frame = one_a_frame s k last p f;
}
