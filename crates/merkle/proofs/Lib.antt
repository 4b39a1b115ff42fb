pub mod Bits
pub mod Lists
pub mod Members
pub mod SetLaws
pub mod Sets
pub mod Steps
