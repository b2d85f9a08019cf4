pub mod Opened
pub mod Chained
pub mod Offered
pub mod Going
pub mod Passed
