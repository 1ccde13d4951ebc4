pub mod LeftOut
pub mod Parses
pub mod Statements
pub mod Processes
pub mod FaultText
