-- The files of lemmas of this crate.
pub mod Complete
pub mod Making
pub mod Going
pub mod Promises
pub mod Done
pub mod Generated
pub mod Counted
