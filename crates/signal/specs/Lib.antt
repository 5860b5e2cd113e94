-- The definitions that the contracts cite, by topic. Assumes nothing.
pub mod Nearest
pub mod Value
pub mod Limits
pub mod Status
pub mod Mode
pub mod Codes
