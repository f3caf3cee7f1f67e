-- The files of lemmas of this crate.
pub mod Due
pub mod Best
pub mod Mapped
pub mod Keeping
pub mod Choosing
pub mod Appending
pub mod Executing
pub mod Making
pub mod InStep
