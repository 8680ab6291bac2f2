pub mod Cases
pub mod Column
pub mod Level
pub mod Line
pub mod Pass
pub mod Rows
pub mod Tile
