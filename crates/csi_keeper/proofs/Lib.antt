mod InvariantLemmas
mod ListedLemmas
mod TotalsLemmas
