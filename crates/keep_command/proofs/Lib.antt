mod CrewLemmas
pub mod Crossing
mod EndingLemmas
mod ReportLemmas
mod ServingLemmas
mod StoredLemmas
mod UntouchedLemmas
