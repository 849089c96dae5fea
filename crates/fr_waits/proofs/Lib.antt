pub mod Cycles
pub mod Trail
pub mod Turned
pub mod Whom
pub mod Stuck
pub mod Forever
