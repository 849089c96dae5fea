mod Terms
pub mod StayLaws
pub mod UnsaidLaws
pub mod SpoilerLaws
pub mod HullLaws
pub mod RowLaws
pub mod ClosedLaws
pub mod Exactness
