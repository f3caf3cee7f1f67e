-- The files of definitions of this crate.
pub mod Gives
pub mod WritingErrors
pub mod WritingPool
pub mod WritingSizes
pub mod WritingMasks
pub mod Filling
pub mod Seen
pub mod Growth
pub mod Heads
pub mod Setups
pub mod Wholes
