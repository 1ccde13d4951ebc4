pub mod TokensTaken
pub mod Expressions
pub mod Statements
pub mod Items
pub mod Modules
pub mod Example
