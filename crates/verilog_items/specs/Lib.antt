pub mod Declarations
pub mod Instances
