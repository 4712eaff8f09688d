pub mod Table
pub mod Laws
pub mod Names
