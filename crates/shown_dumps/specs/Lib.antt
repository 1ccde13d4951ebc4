pub mod Said
pub mod Shown
pub mod Rounds
pub mod Bound
pub mod Laws
pub mod Ongoing
pub mod Example
