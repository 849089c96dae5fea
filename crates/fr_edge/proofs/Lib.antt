mod Terms
pub mod Standing
pub mod Spans
pub mod RuleLaws
pub mod Lists
pub mod StartLaws
pub mod Targets
pub mod Firsts
