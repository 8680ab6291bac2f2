pub mod Cases
pub mod Clips
pub mod Draw
pub mod Show
pub mod Shown
pub mod Spans
pub mod laws
