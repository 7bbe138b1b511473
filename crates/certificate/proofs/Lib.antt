pub mod Rounds
pub mod Promise
pub mod FourAsked
