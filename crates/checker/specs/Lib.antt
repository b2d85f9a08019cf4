-- What the contracts of this crate cite.
pub mod Judging
pub mod Packing
pub mod Refusals
pub mod Words
