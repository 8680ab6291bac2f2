pub mod Fit
pub mod Lines
pub mod Making
pub mod Parts
pub mod Same
