pub mod Fact
pub mod Cells
pub mod Rule
pub mod Certificate
pub mod TwoRuns
pub mod Cases
pub mod RequestCases
