-- The files of definitions of this crate.
pub mod Statuses
pub mod Files
pub mod Contents
pub mod Rounds
pub mod Explaining
pub mod Ends
pub mod Counting
pub mod Playing
pub mod Refusals
pub mod Searching
pub mod Walking
