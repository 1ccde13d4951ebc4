pub mod MemoryHost
pub mod SureHost
