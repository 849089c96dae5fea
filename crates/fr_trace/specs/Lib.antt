pub mod Args
pub mod Means
pub mod Reads
pub mod Said
pub mod Views
