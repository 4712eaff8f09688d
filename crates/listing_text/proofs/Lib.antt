pub mod Chains
pub mod Numerals
pub mod Splits
pub mod Reading
