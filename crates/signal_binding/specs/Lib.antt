pub mod Kinds
pub mod Names
pub mod Binding
pub mod Table
