-- What the contracts of this crate cite.
pub mod Kinds
pub mod Book
pub mod Record
pub mod Answer
pub mod Summary
pub mod Laws
pub mod Sentences
