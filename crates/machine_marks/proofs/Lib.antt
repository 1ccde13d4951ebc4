pub mod Chances
pub mod Marked
pub mod Tests
