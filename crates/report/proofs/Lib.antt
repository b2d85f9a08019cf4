-- Lemmas of this crate.
pub mod Backwards
pub mod Cut
pub mod Digits
pub mod Latest
pub mod Named
pub mod Sheets
pub mod Sorts
