pub mod Cases
pub mod Collect
pub mod Request
pub mod laws
