pub mod Lists
pub mod Alike
pub mod Effects
pub mod Operands
pub mod Rows
pub mod Breaches
pub mod CutDown
pub mod Divides
