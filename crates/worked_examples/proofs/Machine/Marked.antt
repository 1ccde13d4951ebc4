-- The examples of the marks of a state machine.
use Rattle.std.proofs.Common.{◌≡◌, ◌↔◌, ◌<◌, ℕ, zero, suc, true, false, List, [], ◌∷◌, Some, None, refl, sym, ap, subst, arith, lit<}
use Rattle.std.specs.List.{Contains}
use Rattle.std.proofs.lemmas.Bool.{false≢true}
use Rattle.index_sets.specs.Rows.{row_at}
use Rattle.four_state.specs.declared.bit.Bit.TheVariants.{One, Zero}
use Rattle.cover_points.specs.declared.listing.Points.{Points}
use Rattle.cover_points.specs.declared.machine_point.MachinePoint.{MachinePoint}
use Rattle.cover_points.specs.declared.machine_point.MachinePoint.TheVariants.{Arc, State}
use Rattle.point_marks.specs.declared.verdict.Verdict.{Verdict}
use Rattle.point_marks.specs.declared.verdict.Verdict.TheVariants.{Hit, Missed, Undetermined}
use Rattle.machine_index.specs.Index.{HasSignal, IsIndexOf}
use Rattle.machine_marks.specs.Marked.{chances_of, is_of_machine, is_point, is_state_of, marked_if}
use Rattle.worked_examples.specs.Machine.Marked.{HasOneMachine, IsChanceExample, IsIndexExample, IsMarksExample, IsTestExample, light, no_rows, perhaps, rows}
use Rattle.worked_examples.proofs.Machine.Points.{mark_at, marks_each}

pub chance_example : IsChanceExample
chance_example =
    record {
      state = refl;
      no_state = refl;
      open_state = refl;
      closed_state = refl;
      arc = refl;
      turned = refl;
      open_arc = refl;
      from_sure = refl;
      from_open = refl;
      from_no_state = refl;
      hit = refl;
      left_open = refl;
      kept = refl;
      missed = refl;
      other = refl;
    }

pub test_example : IsTestExample
test_example =
    record {
      point = refl;
      turned_point = refl;
      other_state = refl;
      other_machine = refl;
      other_kind = refl;
      state = refl;
      past_state = refl;
      no_state = refl;
      below = refl;
      not_below = refl;
      past = refl;
      arc = refl;
      no_arc = refl;
      from = refl;
      not_from = refl;
      of_state = refl;
      of_arc = refl;
      of_other = refl;
    }

-- no verdict is another one
pub hit_missed : Hit ≡ Missed → ⊥
hit_missed e = absurd (cc)

missed_open : Missed ≡ Undetermined (record { thing = 1; time = 5 }) → ⊥
missed_open e = absurd (cc)

-- what becomes of a verdict: by the whole machine, by its states, and by the arc alone
abbrev by_machine : MachinePoint → Verdict → Verdict
by_machine p v = marked_if (is_of_machine 0 2 p) 1 5 (chances_of light.values (Some Zero ∷ []) (Some One ∷ []) p) v

abbrev by_states : MachinePoint → Verdict → Verdict
by_states p v = marked_if (is_state_of 0 2 p) 1 5 (chances_of light.values (Some One ∷ []) (Some One ∷ []) p) v

abbrev by_arc : MachinePoint → Verdict → Verdict
by_arc p v = marked_if (is_point (Arc 0 0 1) p) 1 5 perhaps v

module _ (ps : Points) (h : HasOneMachine ps) where
  pub marks_example : IsMarksExample ps
  marks_example =
      record {
        machine = marks_each ps h by_machine Missed Missed Missed Missed Hit Hit refl refl refl;
        not_first = λ m. hit_missed (mark_at ps h by_machine (Missed ∷ Missed ∷ Missed ∷ []) (Hit ∷ Hit ∷ Hit ∷ []) 0 (lit< tt) m);
        not_passed = λ m. hit_missed (sym (mark_at ps h by_machine (Missed ∷ Missed ∷ Missed ∷ []) (Missed ∷ Missed ∷ Hit ∷ []) 1 (lit< tt) m));
        states = marks_each ps h by_states Missed Missed Missed Missed Hit Missed refl refl refl;
        no_arc = λ m. hit_missed (mark_at ps h by_states (Missed ∷ Missed ∷ Missed ∷ []) (Missed ∷ Hit ∷ Hit ∷ []) 2 (lit< tt) m);
        one = marks_each ps h by_arc Hit Missed Missed Hit Missed (Undetermined (record { thing = 1; time = 5 })) refl refl refl;
        not_one = λ m. missed_open (mark_at ps h by_arc (Hit ∷ Missed ∷ Missed ∷ []) (Hit ∷ Missed ∷ Missed ∷ []) 2 (lit< tt) m);
      }

-- the machines in a row
in_row : (k : ℕ) → Contains (0 ∷ []) k → HasSignal (light ∷ []) k 1
in_row k (zero, l, e) = subst (λ x. HasSignal (light ∷ []) x 1) e (lit< tt, refl)
in_row k (suc i, l, e) = absurd (let f : ⊥ = omega (arith, l) in f)

row_has : (k : ℕ) → HasSignal (light ∷ []) k 1 → Contains (0 ∷ []) k
row_has zero g = (0, lit< tt, refl)
row_has (suc k) g = absurd (let f : ⊥ = omega (arith, g.0) in f)

no_signal : (k : ℕ) → HasSignal (light ∷ []) k 0 → ⊥
no_signal zero g = omega (arith, g.1)
no_signal (suc k) g = omega (arith, g.0)

each_row : (s k : ℕ) → s < 2 → Contains (row_at rows.rows s) k ↔ HasSignal (light ∷ []) k s
each_row zero k l = (λ c. absurd (let f : ⊥ = omega (arith, c.1) in f), λ g. absurd (no_signal k g))
each_row (suc zero) k l = (in_row k, row_has k)
each_row (suc (suc s)) k l = absurd (let f : ⊥ = omega (arith, l) in f)

pub index_example : IsIndexExample
index_example =
    record {
      signal = (lit< tt, refl);
      other_signal = no_signal 0;
      past = λ g. omega (arith, g.0);
      index = record { count_is = refl; has = each_row };
      left_out = λ x. (let c : Contains {X = ℕ} [] 0 = (x.has 1 0 (lit< tt)).1 (lit< tt, refl) in omega (arith, c.1));
      too_few = λ x. (let e : 2 ≡ 3 = x.count_is in omega (arith, e));
      value = refl;
      other_value = λ e. false≢true e;
    }
