pub mod Told
pub mod Audits
pub mod Wanting
