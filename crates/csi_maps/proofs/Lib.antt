mod DetachLemmas
mod HashLemmas
mod NamingLemmas
mod NodesLemmas
mod RowChangeLemmas
mod WalkLemmas
