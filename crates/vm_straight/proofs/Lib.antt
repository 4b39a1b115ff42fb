mod Places
mod Moves
mod Straight
mod Numbers
mod Jumps
mod Choices
mod Wraps
