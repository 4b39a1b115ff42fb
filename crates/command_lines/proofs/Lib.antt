pub mod HexWords
