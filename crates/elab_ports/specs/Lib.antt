pub mod ConnectionView
pub mod FirstBound
pub mod Outputs
pub mod PortView
