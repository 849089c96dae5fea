pub mod Refusals
pub mod WordsLaws
