pub mod Cases
pub mod Colour
pub mod Near
pub mod Step
pub mod Steps
pub mod Exact
