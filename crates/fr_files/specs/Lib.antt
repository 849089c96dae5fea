pub mod Named
pub mod Replaced
pub mod Apart
