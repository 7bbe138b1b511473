pub mod Lawful
pub mod Staging
pub mod Promise
pub mod FourAsked
