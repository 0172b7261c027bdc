pub mod Frames
pub mod Requests
