pub mod Cells
pub mod Behind
pub mod Own
