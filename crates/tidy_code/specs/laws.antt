pub mod Behind
pub mod Cases
pub mod Form
pub mod Longer
pub mod Read
pub mod Request
