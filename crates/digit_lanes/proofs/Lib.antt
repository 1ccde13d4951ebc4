mod LaneLemmas
mod RunLemmas
mod MaskLemmas
