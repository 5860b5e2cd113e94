-- The definitions that the contracts cite, by topic. Assumes nothing.
pub mod Worked
