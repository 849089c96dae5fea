pub mod Least
pub mod Sizes
pub mod Verdicts
