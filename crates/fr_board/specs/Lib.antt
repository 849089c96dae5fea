pub mod Drawn
pub mod Progress
pub mod Rule
pub mod Tells
pub mod Values
pub mod Tally
