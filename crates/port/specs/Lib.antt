pub mod Checks
pub mod Views
pub mod Meaning
pub mod OneByOne
pub mod Pieces
