mod ReadLemmas
