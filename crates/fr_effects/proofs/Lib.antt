pub mod Terms
pub mod Lists
pub mod EffectLaws
pub mod DisturbanceLaws
pub mod BearLaws
pub mod IndexLaws
