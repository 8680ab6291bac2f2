pub mod Among
pub mod Frame
pub mod Glass
pub mod Numbers
pub mod Sound
