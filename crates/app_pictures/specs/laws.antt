pub mod Bmp
pub mod Png
pub mod Ppm
