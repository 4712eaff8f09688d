pub mod Faults
pub mod Finished
pub mod Replies
pub mod Trials
