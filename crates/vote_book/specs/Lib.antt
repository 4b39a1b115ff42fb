pub mod Spelling
pub mod Votes
pub mod Quorum
pub mod Positions
pub mod Laws
