-- The files of definitions of this crate.
pub mod Words
pub mod Registers
pub mod Causes
pub mod Operations
pub mod Fields
pub mod Table
pub mod Encoding
