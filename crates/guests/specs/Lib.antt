-- The definitions that the contracts cite, and the lemmas that show what the end means, by topic. Assumes nothing.
pub mod DeadBand
pub mod OnOff
pub mod OnOffFacts
