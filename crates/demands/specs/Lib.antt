pub mod Demands
pub mod EveryCall
pub mod ShortForC
pub mod laws
