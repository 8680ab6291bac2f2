pub mod Cases
pub mod Component
pub mod Word
pub mod laws
