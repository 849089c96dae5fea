pub mod Listing
pub mod Shallow
pub mod Replaying
