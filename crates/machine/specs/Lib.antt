-- What the contracts of this crate cite.
pub mod Machine
pub mod Promises
pub mod Spans
pub mod Answering
pub mod Determined
pub mod Opens
pub mod Example
