-- The files of definitions of this crate.
pub mod Numbers
pub mod Answers
pub mod Effect
pub mod Queues
pub mod Tables
pub mod Mutexes
pub mod Semaphores
pub mod Barriers
pub mod Conditions
pub mod RwLocks
pub mod Threads
pub mod Objects
pub mod Locality
