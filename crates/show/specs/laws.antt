pub mod Day
pub mod Play
