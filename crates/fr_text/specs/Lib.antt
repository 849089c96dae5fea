pub mod Texts
pub mod Theorem
