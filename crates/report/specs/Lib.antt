-- What the contracts of this crate cite.
pub mod Gaps
pub mod Judging
pub mod Sizing
