pub mod Grey
pub mod OurFrames
pub mod OurTiles
pub mod Own
pub mod Request
pub mod TwoSets
