pub mod Blocks
pub mod Cases
pub mod Judged
pub mod Tiles
pub mod laws
