pub mod Items
pub mod Refusals
pub mod Statements
pub mod Repeated
pub mod Processes
