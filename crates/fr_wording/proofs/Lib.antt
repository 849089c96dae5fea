pub mod ListingLemmas
