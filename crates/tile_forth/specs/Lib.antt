pub mod TileForth
pub mod laws
