pub mod Encode
pub mod FrameWrite
pub mod Job
pub mod Picked
pub mod Sets
pub mod laws
