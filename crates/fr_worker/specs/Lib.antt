pub mod Worked
pub mod Kept
