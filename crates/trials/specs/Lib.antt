pub mod Label
pub mod OneValue
pub mod Page
pub mod Written
