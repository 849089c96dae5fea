pub mod Found
pub mod Refuted
