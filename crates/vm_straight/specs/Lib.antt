pub mod Operations
pub mod Success
pub mod Laws
pub mod Choice
pub mod ChoiceLaws
pub mod Wrapped
pub mod WrappedLaws
pub mod Known
