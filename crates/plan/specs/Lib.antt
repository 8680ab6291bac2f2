pub mod Answer
pub mod Plan
pub mod Made
pub mod Runs
pub mod Facts
pub mod Request
pub mod laws
