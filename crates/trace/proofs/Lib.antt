-- Lemmas of this crate.
pub mod Correspond
pub mod Fieldwise
pub mod Filling
pub mod Numbers
pub mod Parts
pub mod ReadLaws
pub mod SheetLaws
pub mod TextLaws
pub mod Timings
pub mod Told
pub mod Values
pub mod WriteLaws
