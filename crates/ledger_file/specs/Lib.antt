pub mod Files
pub mod Laws
pub mod Loaded
pub mod Loading
