mod Placing
mod Trying
