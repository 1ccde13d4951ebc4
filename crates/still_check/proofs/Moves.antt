-- What the Clocked have left of one signal, beside what the dump says of it.
use Rattle.std.proofs.Common.{◌≡◌, ◌∙◌, ℕ, true, false, List, map, Option, Some, None, sym, ap₂}
use Rattle.std.proofs.lemmas.Bool.{both_ways}
use Rattle.four_state.specs.Vector.{Vector}
use Rattle.known_state.specs.Partly.{Partly, allows_bits}
use Rattle.design_model.specs.Design.{signal_cells}
use Rattle.dump_check.specs.declared.order.Difference.{Difference}
use Rattle.step_values.specs.body_store.declared.store.Store.{Store}
use Rattle.early_sets.specs.Has.{is_in}
use Rattle.early_sets.specs.WakeState.{WakeState}
use Rattle.step_values.specs.replay_model.Step.{Closing}
use Rattle.step_values.specs.Dumped.{AreDumped, dumped_of}
use Rattle.step_values.specs.Loose.{has_code}
use Rattle.step_values.specs.Starts.{left_by_clocked}
use Rattle.step_values.proofs.Dumps.{said, value_bits}
use Rattle.still_check.specs.Stays.{Agrees, IsAfterClocked, IsDifferent, IsDifferentOr, IsMovedOr, Stays}

module _ (st : Closing) (codes : List (Option ℕ)) (last : List (Option Vector)) (s : ℕ) (dumped : AreDumped st.design codes last st.new) (coded : has_code codes s ≡ true) where
  -- the dump says something of it
  pub not_said : dumped_of codes last s ≡ None → Agrees st s
  not_said none = absurd (let v = said st.design codes last st.new s dumped coded in let no : None ≡ Some v.value = sym none ∙ v.is in cc)

  module _ (q : Partly) (v : Vector) (is : dumped_of codes last s ≡ Some v) (known : q.bits ≡ map (left_by_clocked st) (signal_cells st.design s)) where
    -- what is known allows it
    pub allows : allows_bits q.bits v.bits ≡ true → Agrees st s
    allows e = ap₂ allows_bits (sym known) (sym (value_bits st.design codes last st.new s v dumped coded is)) ∙ e

    -- or it does not
    pub apart : allows_bits q.bits v.bits ≡ false → IsDifferent st (record { signal = s; dumped = v; computed = q })
    apart e = record { known = known; dumped = value_bits st.design codes last st.new s v dumped coded is; differ = e }

module _ (st : Closing) (x : Store) (sets : WakeState) (codes : List (Option ℕ)) (last : List (Option Vector)) (s : ℕ) (at : IsAfterClocked st x sets codes last) where
  -- it may move
  pub may_move : is_in sets.moves s ≡ true → Stays st s
  may_move moves still = absurd (both_ways _ still (at.moves s ∙ moves))

  -- or it may not, and agrees or differs
  pub moved_or : is_in sets.moves s ≡ false → (o : Option Difference) → IsDifferentOr st s o → IsMovedOr st s o
  moved_or still None agrees = λ h. agrees
  moved_or still (Some d) h = (h.0, at.moves s ∙ still, h.1)
