pub mod Running
pub mod Marking
