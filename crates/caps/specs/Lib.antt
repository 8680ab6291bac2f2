pub mod Ack
pub mod AckCap
pub mod Calls
pub mod Caps
pub mod Request
pub mod Step
pub mod Walk
pub mod laws
