pub mod Machines
pub mod Faults
pub mod Drawn
pub use Rattle.state_machines.specs as state_machines
