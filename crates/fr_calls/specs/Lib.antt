pub mod View
pub mod FirstBreach
pub mod Moves
pub mod Ways
pub mod Laws
