-- The files of definitions of this crate.
pub mod Counting
pub mod Rules
pub mod TicketViews
pub mod Views
