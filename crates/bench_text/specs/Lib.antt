pub mod Texts
pub mod Noting
pub mod Under
