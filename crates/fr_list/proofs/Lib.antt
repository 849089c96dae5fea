pub mod WordLaws
pub mod LineLaws
