pub mod Arrays
pub mod Verdicts
pub mod Faults
pub mod Refusals
pub mod Steps
