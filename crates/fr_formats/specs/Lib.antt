pub mod Answers
pub mod Json
pub mod Junit
pub mod Names
pub mod Reports
pub mod Sarif
pub mod Tokens
