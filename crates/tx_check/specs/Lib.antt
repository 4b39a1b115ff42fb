pub mod Contexts
pub mod FirstPlace
pub mod Laws
pub mod Parts
pub mod Table
pub mod Valid
pub mod View
pub mod FirstPlaces
