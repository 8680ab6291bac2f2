pub mod TileForth
