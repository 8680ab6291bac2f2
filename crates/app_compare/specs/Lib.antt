pub mod Outside
pub mod Told
pub mod Files
pub mod Text
pub mod laws
