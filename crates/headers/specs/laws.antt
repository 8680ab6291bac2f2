pub mod Headers
pub mod ReadBack
