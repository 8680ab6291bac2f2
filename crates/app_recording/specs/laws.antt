pub mod Filled
pub mod Hash
