-- The lemmas, by topic. Assumes nothing.
pub mod Next
pub mod Pulled
