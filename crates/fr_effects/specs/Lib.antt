pub mod Undisturbed
pub mod Disturbance
pub mod Effects
pub mod Index
pub mod IndexView
pub mod Listing
