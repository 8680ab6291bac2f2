pub mod Band
pub mod Cases
pub mod Judge
pub mod Part
pub mod Range
pub mod Rounding
pub mod Steps
