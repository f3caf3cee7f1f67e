-- The files of lemmas of this crate.
pub mod Words
pub mod Pages
pub mod Zero
