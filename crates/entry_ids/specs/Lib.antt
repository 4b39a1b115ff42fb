pub mod Entry
pub mod Ids
