pub mod Zeros
pub mod laws
