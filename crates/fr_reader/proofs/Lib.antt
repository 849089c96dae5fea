pub mod EntryLemmas
pub mod FaultLaws
pub mod KeyLemmas
pub mod Laws
pub mod NameLemmas
pub mod OwnerLemmas
pub mod ZipLemmas
