pub mod Cases
pub mod Code
pub mod Fill
pub mod Fold
pub mod OneCode
pub mod Read
pub mod ReadList
pub mod laws
