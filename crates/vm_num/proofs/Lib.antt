pub mod Numbers
pub mod Shifts
