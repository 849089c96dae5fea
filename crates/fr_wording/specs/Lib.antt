pub mod Lines
pub mod Listing
pub mod Names
pub mod Sources
pub mod Standings
