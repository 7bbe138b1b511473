pub mod Row
pub mod Uses
pub mod Search
pub mod Promise
pub mod Tracing
pub mod Lowest
pub mod Examples
