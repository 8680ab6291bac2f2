pub mod Here
pub mod ReadBack
pub mod Tiles
