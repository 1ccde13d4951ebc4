-- Whether each input is bound.
use Rattle.std.proofs.Common.{◌≡◌, ◌∙◌, ◌⊎◌, ◌↔◌, ℕ, ◌<◌, ◌≤◌, ◌||◌, Bool, true, false, not, List, length, Option, Some, None, IfNone, IfSome, is_some, refl, sym, ap, inl, inr}
use Rattle.std.proofs.lemmas.Bool.{and_parts, cases_lt, false≢true}
use Rattle.std.proofs.lemmas.List.{get_or_past}
use Rattle.design_model.specs.Design.{Design, no_signal, signal_at}
use Rattle.design_model.specs.Shows.{BoundDump}
use Rattle.design_model.specs.StillLaw.{BindsInputs}
use Rattle.design_model.specs.declared.design.Signal.{Signal}
use Rattle.first_step.specs.step_values.Loose.{has_code}
use Rattle.replay_core.specs.Codes.{flags_of}
use Rattle.replay_core.specs.Fits.{HasInputs, IsUnbound}
use Rattle.replay_core.proofs.Codes.{flags_are}

-- what the search for an input that is not bound says
pub lacks_is : (signals : List Signal) (bound : List Bool) (found : Option ℕ) → IfSome found (IsUnbound signals bound) → IfNone found (HasInputs signals bound) → (is_some found ≡ false) ↔ HasInputs signals bound
lacks_is signals bound None first none = (λ e. none, λ has. refl)
lacks_is signals bound (Some s) first none = (λ e. absurd (false≢true (sym e)), λ has. absurd (false≢true (sym first.unbound ∙ has s first.listed)))

by_test : (input flag : Bool) → (not input || flag) ≡ true → input ≡ true → flag ≡ true
by_test true flag h e = h
by_test false flag h e = absurd (false≢true e)

-- a dump with these codes binds them
pub binds_inputs : (d : Design) (codes : List (Option ℕ)) (dump : BoundDump) → ((s : ℕ) → dump.bound s ≡ has_code codes s) → HasInputs d.signals (flags_of codes) → BindsInputs d dump
binds_inputs d codes dump bound has c is = bound c.thing ∙ sym (flags_are codes c.thing) ∙ flagged (cases_lt c.thing (length d.signals))
  where
    input : (signal_at d c.thing).input ≡ true
    input = (and_parts (signal_at d c.thing).input _ is).0

    flagged : (c.thing < length d.signals) ⊎ (length d.signals ≤ c.thing) → Rattle.std.specs.Prelude.slice_index_or (flags_of codes) c.thing false ≡ true
    flagged (inl within) = by_test (signal_at d c.thing).input _ (has c.thing within) input
    flagged (inr past) = absurd (false≢true (sym (ap (λ (s : Signal). s.input) (get_or_past d.signals c.thing no_signal past)) ∙ input))
