pub mod Compare
pub mod Waves
pub mod laws
