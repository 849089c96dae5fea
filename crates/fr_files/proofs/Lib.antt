pub mod ApartLemmas
pub mod TreeLemmas
