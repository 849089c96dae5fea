pub mod Crew
pub mod Assignments
pub mod Bytes
