pub mod Beside
pub mod Means
