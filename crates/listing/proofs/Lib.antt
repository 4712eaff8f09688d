pub mod RowCells
pub mod Wholes
