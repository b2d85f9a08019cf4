-- Lemmas of this crate.
pub mod Exact
pub mod LineSteps
pub mod Places
pub mod Steps
