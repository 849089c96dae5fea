pub mod GuardLaws
pub mod NearLaws
pub mod TurnLemmas
pub mod TwiceLemmas
