pub mod Sound
pub mod SoundTargets
