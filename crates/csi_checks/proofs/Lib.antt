mod LadderLemmas
