pub mod Workers
pub mod Failing
