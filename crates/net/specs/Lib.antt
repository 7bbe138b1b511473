pub mod Tests
pub mod Net
pub mod Loop
pub mod Machine
pub mod Reach
pub mod Chosen
pub mod Examples
