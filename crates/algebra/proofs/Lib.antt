pub mod Synthetic
pub mod Unique
pub mod Base
