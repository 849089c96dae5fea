mod Terms
pub mod Following
