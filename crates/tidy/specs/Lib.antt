pub mod Tidy
pub mod Put
pub mod Headers
pub mod Held
pub mod Request
pub mod laws
