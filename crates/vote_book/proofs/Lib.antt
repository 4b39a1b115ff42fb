mod Books
mod Pushes
mod Quorums
mod Votes
