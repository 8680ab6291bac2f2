pub mod Days
pub mod Drawn
pub mod ForC
pub mod Front
pub mod Once
pub mod Pixel
pub mod Step
