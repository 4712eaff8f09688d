pub mod Grammar
pub mod Appends
pub mod Texts
