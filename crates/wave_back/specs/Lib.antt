pub mod Cases
pub mod Line
pub mod Tile
pub mod laws
