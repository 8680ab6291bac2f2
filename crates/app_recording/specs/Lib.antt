pub mod Filled
pub mod Hash
pub mod laws
