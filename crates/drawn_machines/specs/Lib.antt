pub mod Drawing
pub use Rattle.fsm_extract.specs as fsm_extract
pub use Rattle.state_machines.specs as state_machines
