pub mod Listed
pub mod Values
pub mod Quiet
pub mod Sets
pub mod Clear
pub mod Jump
pub mod Doubts
