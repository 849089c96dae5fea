pub mod Found
pub mod Words
pub mod Ran
