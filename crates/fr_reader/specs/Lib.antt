pub mod Keys
pub mod Texts
pub mod Views
pub mod Faults
pub mod Meaning
pub mod Stands
pub mod FaultText
