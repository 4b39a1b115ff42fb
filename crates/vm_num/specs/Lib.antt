pub mod Failure
pub mod Item
pub mod Numbers
pub mod Operations
pub mod Push
pub mod PushLaws
