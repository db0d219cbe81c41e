pub mod CountLemmas
pub mod FirstLine
pub mod LineLemmas
pub mod NextLine
pub mod OpeningLemmas
pub mod RunLemmas
pub mod StatusLemmas
pub mod StepLemmas
