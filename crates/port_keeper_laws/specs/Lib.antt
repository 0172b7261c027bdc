pub mod Machine
pub mod Laws
