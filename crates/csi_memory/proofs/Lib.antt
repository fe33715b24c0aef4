mod ChangeLemmas
mod KeptLemmas
mod NamesLemmas
mod ReadLemmas
