-- The definitions that the contracts cite, and the lemmas that show what an end of one block means, by topic. Assumes nothing.
pub mod Modes
pub mod Shown
pub mod Calls
pub mod Lines
pub mod Meaning
pub mod Asks
pub mod Alone
pub mod AloneMeaning
pub mod Making
