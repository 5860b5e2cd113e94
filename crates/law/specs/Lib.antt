-- The definitions that the contracts cite, and the lemmas that show what each law means, by topic. Assumes nothing.
pub mod Law
pub mod Fault
pub mod Quotient
pub mod Gain
pub mod Pi
pub mod GainBias
pub mod Worked
pub mod Starting
