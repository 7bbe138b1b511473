pub mod Prices
pub mod Order
pub mod Promise
pub mod Examples
