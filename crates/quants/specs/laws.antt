pub mod Quants
