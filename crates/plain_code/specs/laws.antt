pub mod Bit
pub mod Size
pub mod Turn
pub mod Zeros
