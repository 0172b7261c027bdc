pub mod Finding
pub mod Placing
pub mod Inserting
pub mod Cutting
