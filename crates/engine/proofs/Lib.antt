pub mod Along
pub mod Together
pub mod Standing
pub mod Passes
pub mod Rounds
