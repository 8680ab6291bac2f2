pub mod Bands
pub mod Cases
pub mod Rounding
pub mod laws
