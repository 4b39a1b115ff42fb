pub mod Bits
pub mod Bytes
pub mod Results
pub mod Numbers
pub mod Operators
pub mod Signatures
