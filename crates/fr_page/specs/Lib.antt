pub mod Markup
pub mod Whole
