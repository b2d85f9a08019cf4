-- Lemmas of this crate.
pub mod Calls
