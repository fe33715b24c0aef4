pub mod ConfigLemmas
pub mod GoodLemmas
pub mod SampleLemmas
