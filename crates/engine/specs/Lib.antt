pub mod Facts
pub mod Plans
pub mod Ready
pub mod Registers
pub mod Rules
