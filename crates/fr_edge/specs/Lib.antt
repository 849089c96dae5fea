pub mod Own
pub mod Alternatives
pub mod FirstOwn
pub mod Starts
