pub mod Brought
pub mod Closed
pub mod Fair
pub mod Items
pub mod Opened
pub mod Outcomes
pub mod Payment
pub mod Pushed
pub mod Runs
pub mod Stretches
pub mod Small
mod Wanted
