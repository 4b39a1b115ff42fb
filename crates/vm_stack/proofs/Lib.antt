pub mod Costs
pub mod Reversed
