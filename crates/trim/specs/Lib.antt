pub mod Trimmed
pub mod Order
pub mod Promise
pub mod Unread
pub mod Visits
pub mod Ready
pub mod Cells
pub mod Examples
