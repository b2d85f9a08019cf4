-- A small session that exists: the premises of the promises are met, and a request is served in its slot.
use Rattle.std.specs.Prelude.{◌≡◌, ℕ, true, List, [], ◌∷◌, length, take, Some, None}
use Rattle.std.proofs.Common.{arith}
use Rattle.sheet.specs.Units.{cycles}
use Rattle.sheet.specs.declared.accepted.Sheet.{Sheet}
use Rattle.sheet.specs.declared.geometry.Chip.{Chip}
use Rattle.rulebook.specs.declared.command.Command.{Command}
use Rattle.rulebook.specs.declared.command.Kind.TheVariants.{Activate, Read}
use Rattle.policy.specs.declared.entry.Request.{Request}
use Rattle.policy.specs.Meaning.{Meaning, turn_order}
use Rattle.policy.specs.Orders.{ordered}
use Rattle.machine.specs.Machine.{Machine, opened, offer, tick, accepted, ticked, refused, Exchange, Chain}
use Rattle.machine.specs.Promises.{commands, columns_for}
use Rattle.machine.specs.Opens.{Fits}

-- Every timing is one cycle, so the stretches are 3, 1 and 3 and the span is 7.
abbrev pub small_sheet : Sheet
small_sheet = record {
  rcd = cycles 1;
  rp = cycles 1;
  ras = cycles 1;
  rc = cycles 1;
  rrd = cycles 1;
  faw = cycles 1;
  ccd = cycles 1;
  rtp = cycles 1;
  wr = cycles 1;
  wtr = cycles 1;
  rl = cycles 1;
  wl = cycles 1;
  burst = cycles 1;
  rcd_in = (omega arith, omega arith);
  rp_in = (omega arith, omega arith);
  ras_in = (omega arith, omega arith);
  rc_in = (omega arith, omega arith);
  rrd_in = (omega arith, omega arith);
  faw_in = (omega arith, omega arith);
  ccd_in = (omega arith, omega arith);
  rtp_in = (omega arith, omega arith);
  wr_in = (omega arith, omega arith);
  wtr_in = (omega arith, omega arith);
  rl_in = (omega arith, omega arith);
  wl_in = (omega arith, omega arith);
  burst_in = (omega arith, omega arith);
  latencies = omega arith;
}

-- Two banks of four rows and four columns.
abbrev pub small_chip : Chip
small_chip = record { banks = 2; rows = 4; columns = 4; banks_in = (omega arith, omega arith); rows_in = (omega arith, omega arith); columns_in = (omega arith, omega arith) }

-- Turn order for one requester with one place.
abbrev pub small_policy : Meaning
small_policy = ordered turn_order true 1 1 7 2 0 []

-- A requester's read of bank 1, row 2, column 3.
abbrev pub small_request : ℕ → Request
small_request requester = record { requester = requester; kind = 3; bank = 1; row = 2; column = 3 }

-- Its activate, in cycle 1.
abbrev pub small_activate : Command
small_activate = record { cycle = 1; kind = Activate; bank = 1; row = 2; column = 0; requester = 0; number = 0 }

-- Its read, in cycle 7, the end of its slot.
abbrev pub small_read : Command
small_read = record { cycle = 7; kind = Read; bank = 1; row = 2; column = 3; requester = 0; number = 0 }

-- A stranger is refused, the request is accepted with deadline 7, the activate goes out at once, and the read is held until the deadline.
abbrev pub small_log : List Exchange
small_log =
    record { event = offer (small_request 1); answer = refused 10 }
    ∷ record { event = offer (small_request 0); answer = accepted 0 7 }
    ∷ record { event = tick; answer = ticked (Some small_activate) }
    ∷ record { event = tick; answer = ticked None }
    ∷ record { event = tick; answer = ticked None }
    ∷ record { event = tick; answer = ticked None }
    ∷ record { event = tick; answer = ticked None }
    ∷ record { event = tick; answer = ticked None }
    ∷ record { event = tick; answer = ticked (Some small_read) }
    ∷ []

-- What it opens with fits, the log is a chain, and the request has been served once, by the promise; a cycle before its deadline it had not been, so no earlier deadline could be promised.
pub record ExampleStands : Type 0 where
  pub fits : Fits small_sheet small_chip 100 small_policy
  pub ends : Machine
  pub chain : Chain (opened small_sheet small_chip 100 small_policy) small_log ends
  pub clock_is : ends.clock ≡ 8
  pub served : length (columns_for 0 0 (commands small_log)) ≡ 1
  pub not_sooner : length (columns_for 0 0 (commands (take 8 small_log))) ≡ 0
