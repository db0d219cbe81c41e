pub mod AnswerLemmas
pub mod ArmingLemmas
pub mod CascadeLemmas
pub mod KnownLemmas
pub mod ListLines
pub mod MeaningLemmas
pub mod RestoreLemmas
