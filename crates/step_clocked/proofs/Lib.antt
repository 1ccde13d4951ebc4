pub mod Members
pub mod Rounds
pub mod Rooms
pub mod Sets
pub mod Folds
pub mod Chosen
pub mod Listed
pub mod Order
