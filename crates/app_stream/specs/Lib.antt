pub mod Pieces
pub mod Skip
pub mod laws
