-- The definitions that the contracts cite, and the lemmas that show what a control block means, by topic. Assumes nothing.
pub mod Steps
pub mod Control
pub mod Making
pub mod OverEnd
pub mod Sent
