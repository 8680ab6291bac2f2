pub mod Answer
pub mod Short
pub mod laws
