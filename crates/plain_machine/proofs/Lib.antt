-- The files of lemmas of this crate.
mod Fetching
mod Laying
mod Merging
mod Offsets
mod Placing
mod Putting
mod Schedules
mod Sharing
mod Stepping
mod Turning
