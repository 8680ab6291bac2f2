pub mod Cases
pub mod Component
pub mod Judged
pub mod Once
pub mod Word
