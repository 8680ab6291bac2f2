pub mod Bits
pub mod Bytes
pub mod Pen
pub mod Word
pub mod laws
