pub mod Subject
pub mod Shown
pub mod Hunt
pub mod Spot
pub mod Witness
pub mod Refutes
