pub mod Selfrun
pub mod Source
