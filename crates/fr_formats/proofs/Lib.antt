pub mod Chains
pub mod SarifLaws
