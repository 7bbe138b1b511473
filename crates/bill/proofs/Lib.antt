pub mod Prices
pub mod Orders
pub mod Reordered
pub mod Writing
pub mod Promise
