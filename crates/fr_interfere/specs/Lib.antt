pub mod Staying
pub mod Spoilers
pub mod Interference
pub mod Hull
pub mod Rows
pub mod IndexLaw
