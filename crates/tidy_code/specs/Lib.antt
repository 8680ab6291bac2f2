pub mod Longer
pub mod Request
pub mod Sent
pub mod laws
