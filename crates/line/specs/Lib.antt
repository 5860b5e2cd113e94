pub mod Appended
pub mod Hex
pub mod Wrote
