pub mod OneAnswer
pub mod Theorem
