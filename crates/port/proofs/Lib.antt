pub mod Settled
pub mod Replacing
pub mod InPieces
