pub mod Day
pub mod Days
pub mod ForC
pub mod Front
pub mod laws
