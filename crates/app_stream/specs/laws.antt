pub mod Pieces
pub mod Skip
