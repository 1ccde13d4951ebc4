-- The designs made of inputs alone.
use Rattle.std.specs.Prelude.{◌≡◌, true, [], All}
use Rattle.design_model.specs.Design.{Design}

-- no process, no memory, and each signal an input of the top
pub record HasInputsAlone (d : Design) : Type 0 where
  pub processes : d.processes ≡ []
  pub memories : d.memories ≡ []
  pub signals : All (λ s. s.input ≡ true) d.signals
