pub mod Frame
pub mod laws
