-- Lemmas of this crate.
pub mod Sizes
pub mod Known
pub mod Window
pub mod Board
pub mod Deadlines
pub mod Listing
pub mod Stand
