pub mod Parts
pub mod Contents
pub mod Answers
pub mod Rooms
