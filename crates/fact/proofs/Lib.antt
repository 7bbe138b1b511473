pub mod Zeros
pub mod Order
pub mod Claims
pub mod Certificate
pub mod Cells
pub mod Rules
pub mod Cases
