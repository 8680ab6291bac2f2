pub mod Request
pub mod laws
