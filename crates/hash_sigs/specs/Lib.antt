pub mod Key
pub mod Laws
pub mod Nodes
pub mod OneTime
pub mod Signature
pub mod Strings
pub mod Tree
