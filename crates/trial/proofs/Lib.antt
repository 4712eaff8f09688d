pub mod Shares
pub mod Grading
pub mod Replying
pub mod Covering
pub mod Promising
