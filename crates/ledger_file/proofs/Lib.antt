pub mod FewBlocks
pub mod Lists
pub mod Loaded
pub mod Loads
