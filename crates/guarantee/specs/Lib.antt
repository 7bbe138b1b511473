pub mod TwoRuns
pub mod Guarantee
pub mod Witness
pub mod Trimmed
pub mod TrimmedWitness
