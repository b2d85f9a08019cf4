-- What the contracts of this crate cite.
pub mod Units
pub mod Limits
pub mod First
pub mod Given
pub mod Making
pub mod Spans
pub mod Inside
