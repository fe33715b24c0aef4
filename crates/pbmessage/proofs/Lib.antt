pub mod MessageLemmas
pub mod EntryLemmas
