pub mod State
pub mod Rule
pub mod Step
pub mod Landing
pub mod Choices
pub mod Run
