pub mod Digests
pub mod Table
pub mod Functions
