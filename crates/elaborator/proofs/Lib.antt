pub mod ModuleLemmas
pub mod WalkLemmas
pub mod StepLemmas
pub mod InstanceLemmas
pub mod FreeLemmas
pub mod ProcessLemmas
pub mod NetLemmas
pub mod ElaborateLemmas
pub mod KeptLemmas
pub mod InnerLemmas
pub mod EnterLemmas
pub mod WalkPorts
pub mod WalkItems
pub mod NamedLemmas
pub mod WalkOnes
pub mod RoomLemmas
pub mod JoinedNodes
pub use Rattle.flat_laws.proofs as flat_laws
