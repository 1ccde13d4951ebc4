pub mod Unknown
pub mod Making
pub mod Parts
