pub mod Places
pub mod Machine
pub mod Laws
