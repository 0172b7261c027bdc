pub mod Replies
pub mod Names
