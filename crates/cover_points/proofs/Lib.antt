pub mod Members
pub mod Orders
pub mod Pieces
pub mod Ranges
pub mod LineMembers
pub mod NodeMembers
pub mod ThingMembers
pub mod NamedOnce
pub mod MachineMembers
pub mod Assembly
pub mod Places
pub mod Seen
pub mod Apart
pub mod PointFaults
pub use Rattle.design_machines.proofs.state_machines as state_machines
