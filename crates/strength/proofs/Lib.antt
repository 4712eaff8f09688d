pub mod Rows
pub mod Refusing
pub mod Tuples
pub mod Tallies
pub mod Balance
pub mod Sorting
pub mod Choosing
pub mod Deciding
