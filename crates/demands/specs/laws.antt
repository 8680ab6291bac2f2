pub mod Edge
pub mod EveryCall
pub mod ForC
pub mod Right
pub mod ShortForC
pub mod Unique
