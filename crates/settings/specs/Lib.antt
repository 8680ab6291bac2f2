pub mod Cases
pub mod Request
pub mod Settings
pub mod laws
