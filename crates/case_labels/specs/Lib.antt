pub mod Labels
pub use Rattle.scene_laws.specs as scene_laws
