mod MakingLemmas
