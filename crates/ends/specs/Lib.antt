-- The definitions that the contracts cite, and the lemmas that show what each end means, by topic. Assumes nothing.
pub mod Round
pub mod Analog
pub mod Pulse
pub mod Thousand
pub mod Making
pub mod Worked
pub mod Rounds
pub mod AnalogFacts
pub mod PulseFacts
