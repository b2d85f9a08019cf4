-- What the contracts of this crate cite.
pub mod Refusals
pub mod Engine
pub mod Counts
pub mod Requests
pub mod Session
pub mod Opening
pub mod Offering
pub mod Ticking
