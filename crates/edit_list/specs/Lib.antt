-- The files of definitions of this crate.
pub mod Said
pub mod Numerals
pub mod Refusals
pub mod Adding
pub mod Lengths
pub mod Showing
pub mod Lists
pub mod Pending
pub mod NoInputs
