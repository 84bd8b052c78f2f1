mod NumberLemmas
pub mod PlainWords
pub mod Simple
