mod Added
pub mod Passed
mod Beginnings
