-- What the contracts of this crate cite.
pub mod Digits
pub mod Fields
pub mod Line
pub mod Reading
pub mod SheetLine
pub mod Text
pub mod Board
pub mod Writing
