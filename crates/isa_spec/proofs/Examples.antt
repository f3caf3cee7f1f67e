-- The files of worked examples.
pub mod Decoding
pub mod Encoding
pub mod Computing
pub mod Holding
