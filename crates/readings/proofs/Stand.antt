-- The worked values together.
use Rattle.readings.specs.Stand.{ReadingsStand}
use Rattle.readings.proofs.Sizes.{small_sizes, rounding_up}
use Rattle.readings.proofs.Window.{activate_window}
use Rattle.readings.proofs.Deadlines.{first_come_deadlines, turn_order_fills, turn_order_deadlines, late_in_the_session}
use Rattle.readings.proofs.Listing.{two_request_listing}

pub all_stand : ReadingsStand
all_stand = record {
  small_sizes = small_sizes;
  rounding_up = rounding_up;
  first_come_deadlines = first_come_deadlines;
  turn_order_fills = turn_order_fills;
  turn_order_deadlines = turn_order_deadlines;
  activate_window = activate_window;
  late_in_the_session = late_in_the_session;
  two_request_listing = two_request_listing;
}
