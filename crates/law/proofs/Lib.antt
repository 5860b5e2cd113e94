-- The lemmas, by topic. Assumes nothing.
pub mod Scaled
pub mod Cases
pub mod Saturated
