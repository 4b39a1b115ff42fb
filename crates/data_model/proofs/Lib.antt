pub mod BlockRecords
pub mod FrameLengths
pub mod TransactionRecords
