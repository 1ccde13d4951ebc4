-- The signals that names have in an instance of a module.
use Rattle.std.specs.Prelude.{◌≡◌, ℕ, List}
use Rattle.design_model.specs.Design.{Design, signal_at}
use Rattle.design_model.specs.Points.{IsInstanceOf, IsNameOf}
use Rattle.state_machines.specs.Values.{IsNamedSignal}

-- in instance i the name is that of no signal
abbrev pub NamesNone : Design → ℕ → List ℕ → Type 0
NamesNone d i name = (s : ℕ) → IsNameOf d i name s → ⊥

-- instance i is of the module, and in it the names are those of the signals s and t, which have one width
pub record IsMachine (d : Design) (of_module : List ℕ) (i : ℕ) (current next : List ℕ) (s t : ℕ) : Type 0 where
  pub instance : IsInstanceOf d i of_module
  pub current_is : IsNamedSignal d i current s
  pub next_is : IsNamedSignal d i next t
  pub one_width : (signal_at d s).width ≡ (signal_at d t).width

-- in instance i the name is that of no signal with the width of signal s
abbrev pub NamesNoneAs : Design → ℕ → List ℕ → ℕ → Type 0
NamesNoneAs d i name s = (t : ℕ) → IsNameOf d i name t → (signal_at d s).width ≡ (signal_at d t).width → ⊥
