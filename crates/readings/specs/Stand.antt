-- The worked values together.
use Rattle.readings.specs.Sizes.{SmallSizes, RoundingUp}
use Rattle.readings.specs.Window.{ActivateWindow}
use Rattle.readings.specs.Deadlines.{FirstComeDeadlines, TurnOrderFills, TurnOrderDeadlines, LateInTheSession}
use Rattle.readings.specs.Listing.{TwoRequestListing}

-- Every worked value stands.
pub record ReadingsStand : Type 0 where
  pub small_sizes : SmallSizes
  pub rounding_up : RoundingUp
  pub first_come_deadlines : FirstComeDeadlines
  pub turn_order_fills : TurnOrderFills
  pub turn_order_deadlines : TurnOrderDeadlines
  pub activate_window : ActivateWindow
  pub late_in_the_session : LateInTheSession
  pub two_request_listing : TwoRequestListing
