pub mod Bounds
pub mod Writing
pub mod Values
pub mod Locating
pub mod Finding
pub mod InPlace
pub mod Choosing
pub mod Parts
