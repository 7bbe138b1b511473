pub mod Text
pub mod Pieces
pub mod Writer
pub mod Prints
pub mod Reports
pub mod Words
