pub mod Decimal
pub mod Pieces
pub mod Rows
pub mod Answers
pub mod Words
pub mod Told
pub mod Reading
