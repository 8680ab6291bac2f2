pub mod Le
pub mod Mode
pub mod Refusal
pub mod Wrote
