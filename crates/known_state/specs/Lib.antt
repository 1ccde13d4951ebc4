pub mod Partly
pub mod Stored
pub mod Join
pub mod Agreed
pub mod Answers
pub mod Choice
pub mod Maybe
