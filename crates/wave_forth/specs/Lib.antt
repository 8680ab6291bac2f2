pub mod Cases
pub mod Forth
pub mod Halves
pub mod laws
