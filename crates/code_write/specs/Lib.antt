pub mod Cases
pub mod Pack
pub mod Write
pub mod laws
