pub mod Refuted
pub mod Report
pub mod Trace
pub mod Waits
