pub mod Breached
pub mod Unforbidden
pub mod Begins
pub mod Named
pub mod Chosen
pub mod Spanned
