pub mod Rooted
