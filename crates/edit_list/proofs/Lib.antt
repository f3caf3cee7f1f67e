-- The files of lemmas of this crate.
pub mod Numerals
pub mod Digits
pub mod Words
pub mod Parsing
pub mod Lengths
pub mod Showing
pub mod Going
pub mod Leading
pub mod GoingOn
