-- What the contract of this crate cites.
pub mod Small
pub mod Sizes
pub mod Window
pub mod Calls
pub mod Deadlines
pub mod Listing
pub mod Stand
