pub mod Kept
pub mod Store
