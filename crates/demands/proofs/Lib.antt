pub mod DayInstance
pub mod Demands
pub mod Instance
