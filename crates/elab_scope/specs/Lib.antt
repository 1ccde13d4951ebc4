pub mod Entries
pub mod NameMap
pub mod NameSet
pub mod NameTests
pub mod Tally
pub mod View
