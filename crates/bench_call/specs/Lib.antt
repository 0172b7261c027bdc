pub mod Asked
pub mod Texts
pub mod Rests
