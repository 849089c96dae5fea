mod Terms
pub mod GraphLemmas
pub mod PeelLemmas
pub mod EndLemmas
pub mod WalkLemmas
pub mod EdgeLemmas
pub mod Climbs
pub mod DeadlockLaw
