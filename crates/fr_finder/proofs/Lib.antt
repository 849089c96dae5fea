pub mod EndLists
pub mod Items
