-- Lemmas of this crate.
pub mod Lists
pub mod Told
pub mod Obeying
pub mod Newest
pub mod Elsewhere
pub mod Four
pub mod Recorded
pub mod Tested
pub mod Judged
pub mod Lawful
pub mod Answered
