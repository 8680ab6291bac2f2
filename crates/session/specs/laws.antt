pub mod Cases
pub mod Header
pub mod Numbers
pub mod Right
