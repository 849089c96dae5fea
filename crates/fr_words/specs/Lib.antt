pub mod Found
pub mod Asked
