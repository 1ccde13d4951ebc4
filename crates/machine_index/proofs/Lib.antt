pub mod Signals
