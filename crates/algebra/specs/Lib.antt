pub mod Polynomials
pub mod Units
pub mod Interpolation
pub mod Digits
pub mod Theorems
