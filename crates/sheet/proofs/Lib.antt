-- Lemmas of this crate.
pub mod First
pub mod InOrder
pub mod Rounding
