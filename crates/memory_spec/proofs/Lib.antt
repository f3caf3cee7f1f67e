-- The files of lemmas and examples of this crate.
pub mod WithStores
pub mod Examples
