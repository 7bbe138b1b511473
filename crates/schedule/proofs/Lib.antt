pub mod Sums
pub mod Uses
pub mod Registers
pub mod Invariant
pub mod Rotation
pub mod Steps
pub mod Outcomes
pub mod Orders
