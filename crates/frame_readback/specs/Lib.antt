pub mod Own
pub mod Picked
pub mod Request
pub mod laws
