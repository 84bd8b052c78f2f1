pub mod DefaultText
mod NameSets
mod Once
pub mod SuffixLists
pub mod RuleBytes
