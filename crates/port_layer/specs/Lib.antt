pub mod Errands
pub mod Layer
pub mod Laws
