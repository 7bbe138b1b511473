pub mod Promise
pub mod State
pub mod Staging
pub mod Reading
pub mod Answer
pub mod Lawful
