pub mod Calling
pub mod Crashing
pub mod Growing
pub mod Offering
pub mod Replies
pub mod Sound
