pub mod Chips
pub mod Checks
pub mod Meaning
