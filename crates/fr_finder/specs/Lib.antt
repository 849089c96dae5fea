pub mod Found
pub mod Spots
