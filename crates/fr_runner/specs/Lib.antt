pub mod Trace
pub mod Listed
pub mod Machine
pub mod View
