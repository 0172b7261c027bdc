pub mod Correcting
pub mod Auditing
pub mod Running
pub mod Resting
pub mod Planting
pub mod Working
