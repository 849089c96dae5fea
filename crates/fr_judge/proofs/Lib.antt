mod Terms
pub mod Turns
pub mod Induction
pub mod Failing
pub mod Unique
pub mod Here
pub mod WorkedVerdicts
pub mod Telling
pub mod Walks
pub mod Deletes
pub mod Points
pub mod Firsts
