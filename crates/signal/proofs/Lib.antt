-- The lemmas, by topic. Assumes nothing.
pub mod Naming
pub mod Nearest
pub mod Targets
pub mod Same
