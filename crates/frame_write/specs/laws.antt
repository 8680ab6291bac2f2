pub mod Encode
pub mod FrameWrite
pub mod Numbers
pub mod OneSet
pub mod Picked
pub mod Put
pub mod Stops
