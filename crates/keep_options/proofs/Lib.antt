mod BadWordLemmas
mod NumberLemmas
mod OptionLemmas
