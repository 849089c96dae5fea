pub mod Sums
pub mod Outcomes
pub mod Steps
pub mod Ends
