pub mod Names
pub mod Shows
