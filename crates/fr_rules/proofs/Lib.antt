pub mod Built
pub mod Contents
pub mod Formed
pub mod Rows
pub mod Places
pub mod Free
pub mod Endings
