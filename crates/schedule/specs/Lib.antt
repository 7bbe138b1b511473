pub mod Schedule
pub mod Shown
pub mod Walk
