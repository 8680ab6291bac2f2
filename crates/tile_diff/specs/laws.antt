pub mod Words
pub mod Count
pub mod Mark
pub mod Picture
pub mod Listed
pub mod Request
pub mod Pictures
pub mod Cases
