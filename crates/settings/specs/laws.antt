pub mod Cases
pub mod Good
pub mod Read
pub mod Request
pub mod Store
pub mod Write
