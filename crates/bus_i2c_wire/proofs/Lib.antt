pub mod Passing
pub mod Fetching
pub mod Recovering
pub mod Arriving
pub mod Effects
