pub mod Quants
pub mod laws
