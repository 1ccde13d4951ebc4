pub mod Verilog
pub mod Low
pub mod Measures
