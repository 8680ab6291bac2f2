pub mod Both
pub mod Pair
pub mod Stream
