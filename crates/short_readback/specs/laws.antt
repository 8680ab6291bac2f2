pub mod AllTiles
pub mod Full
pub mod Instance
pub mod Request
pub mod Room
pub mod Shows
