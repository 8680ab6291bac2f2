pub mod Cabinet
pub mod Capabilities
pub mod Collector
pub mod Differ
pub mod Edge
pub mod Short
pub mod Tidy
