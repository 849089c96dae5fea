pub mod Pages
pub mod Printing
