pub mod Bytes
pub mod Calls
pub mod OneWay
pub mod Refusals
