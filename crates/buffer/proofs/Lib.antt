pub mod Filled
pub mod Layouts
pub mod Store
