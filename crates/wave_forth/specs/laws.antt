pub mod Cases
pub mod Column
pub mod Forth
pub mod Halves
pub mod Level
pub mod Once
pub mod Row
