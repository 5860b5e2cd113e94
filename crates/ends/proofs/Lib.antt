-- The lemmas, by topic. Assumes nothing.
pub mod Cases
