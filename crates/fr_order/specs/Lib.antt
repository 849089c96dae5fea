pub mod Graph
pub mod Peeled
pub mod Settled
pub mod Order
pub mod Edges
