pub mod Call
pub mod Asks
pub mod Rooms
