pub mod Compare
pub mod Range
pub mod Waves
