pub mod Gap
pub mod Lines
pub mod Samples
pub mod Twice
pub mod Coefficients
pub mod Rounded
pub mod Length
pub mod Refuses
