-- Dumps that may lack inputs, and the times that a dump does not list.
use Rattle.std.specs.Prelude.{◌≡◌, ◌⊎◌, ◌==◌, ◌≤◌, ℕ, suc, Bool}
use Rattle.std.specs.List.{list_any}
use Rattle.design_model.specs.Design.{Design}
use Rattle.design_model.specs.Shows.{AreStretches, BindsSignals, BoundDump, IsListed, IsWindow}
use Rattle.design_model.specs.StillLaw.{BindsInputs}

-- a dump of the design, which may lack inputs: the times rise, only signals are bound, and between listed times the dump's values stay
pub record IsAnyDumpOf (d : Design) (p : BoundDump) : Type 0 where
  pub rising : AreStretches p.stretches
  pub signals : BindsSignals d p
  pub stays : (t : ℕ) → (IsListed p (suc t) → ⊥) → p.values (suc t) ≡ p.values t

-- whether a stretch of the dump lists the time
abbrev pub is_listed : BoundDump → ℕ → Bool
is_listed dump t = list_any (λ times. list_any (λ u. u == t) times) dump.stretches

-- from t to v the times are of the window, and the dump lists none
pub record IsHiddenOn (dump : BoundDump) (t v : ℕ) : Type 0 where
  pub later : t ≤ v
  pub first : IsWindow dump t
  pub last : IsWindow dump v
  pub none : (u : ℕ) → t ≤ u → u ≤ v → IsListed dump u → ⊥

-- v is t, or a later one of its hidden times: to the replay they are one time
abbrev pub IsSameTime : BoundDump → ℕ → ℕ → Type 0
IsSameTime dump t v = (v ≡ t) ⊎ IsHiddenOn dump t v

-- after t nothing moves until the dump lists a time, or t is hidden and represents the hidden times after it
abbrev pub IsCalm : Design → BoundDump → ℕ → Type 0
IsCalm d dump t = BindsInputs d dump ⊎ (IsListed dump t → ⊥)
