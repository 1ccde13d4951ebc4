pub mod Faults
pub mod MachineLists
pub mod AllMachines
pub use Rattle.state_machines.proofs as state_machines
