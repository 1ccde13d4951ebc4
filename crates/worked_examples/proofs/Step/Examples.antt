-- The examples of a closing step.
use Rattle.std.proofs.Common.{◌≡◌, ◌∙◌, ◌&&◌, ℕ, zero, suc, Bool, true, false, [], ◌∷◌, Some, refl, ◌<◌, length, sym, ap, subst, arith, lit<}
use Rattle.std.specs.List.{Contains}
use Rattle.std.proofs.lemmas.Bool.{false≢true}
use Rattle.std.proofs.lemmas.List.Elements.{All-nil}
use Rattle.four_state.specs.declared.bit.Bit.TheVariants.{One, Zero}
use Rattle.four_state.specs.Masks.{is_set}
use Rattle.four_state.proofs.Places.{is_set-zero}
use Rattle.code_values.specs.Values.{IsChanged}
use Rattle.index_sets.specs.Rows.{row_at}
use Rattle.step_check.specs.step_changes.Changes.{lowest}
use Rattle.step_check.specs.Checks.{checked}
use Rattle.settling.specs.Runs.{HasRows}
use Rattle.worked_examples.specs.Step.Rows.{IsActingExample, IsChangeExample, IsCheckExample, IsLeftExample, IsRowsExample, IsWakeExample, bare, code_list, row, values}

and_false : (b : Bool) → (b && false) ≡ false
and_false true = refl
and_false false = refl

one_changes : IsChanged values 0
one_changes e = let q : One ≡ Zero = sym (ap lowest e) in absurd (cc)

pub change : IsChangeExample
change =
    record {
      none = refl;
      some = refl;
      changed = refl;
      uncoded = refl;
      too_few = λ h. (let m : Contains {X = ℕ} [] 4 = (h 4).1 (0, refl, one_changes) in omega (arith, m.1));
      too_many = λ h. (let m = (h 3).0 (1, lit< tt, refl) in let q : Some 1 ≡ Some m.0 = m.1 in let e : m.0 ≡ 1 = cc in subst (λ k. IsChanged values k) e m.2 refl);
    }

pub wake : IsWakeExample
unfolding is_set
wake =
    record {
      own = record { places = λ k. is_set-zero k ∙ sym (and_false _); mentioned = refl };
      not_own = λ h. false≢true (sym (h.places 0));
      not_left_out = λ h. false≢true (h.places 0);
      not_mentioned = λ h. false≢true (sym h.mentioned);
    }

pub left : IsLeftExample
unfolding is_set
left =
    record {
      kept = refl;
      not_held = refl;
      dumped = refl;
      other_bit = refl;
      other_signal = refl;
      made = refl;
      not_made = refl;
      other_made = refl;
      named = refl;
      hidden = refl;
      not_hidden = refl;
    }

pub acting : IsActingExample
acting = record { sees = refl; listed = refl; memory = refl; not_yet = refl; quietly = refl; by_change = refl; surely = refl; acted = refl }

each_row : (p : ℕ) → row_at {T = ℕ} ((3 ∷ []) ∷ []) p ≡ checked code_list (row_at (row ∷ []) p)
each_row zero = refl
each_row (suc p) = refl

pub check : IsCheckExample
check =
    record {
      checked = refl;
      rows = record { count = refl; each = each_row };
      too_few = λ h. (let q : 0 ≡ 1 = ap length (h.each 0) in omega (arith, q));
      too_many = λ h. (let q : 2 ≡ 1 = ap length (h.each 0) in omega (arith, q));
    }

no_rows : HasRows bare [] [] []
no_rows =
    record {
      targets = record { count = refl; each = λ p. record { bits = record { once = tt; inside = All-nil _; has = λ c l. refl }; named = λ s l. refl } };
      written_count = refl;
      written = λ p x n. refl;
      wakes_count = refl;
      things = λ p. All-nil _;
    }

pub rows : IsRowsExample
rows =
    record {
      none = no_rows;
      too_few = λ written wakes h. (let q : 0 ≡ 2 = h.targets.count in omega (arith, q));
      unnamed = λ targets wakes h. false≢true (h.written 0 4 (λ e. e));
      no_signal = λ targets written h. (let q : 5 < 5 = h.things 0 1 (record { thing = 0; mask = 0; mentioned = false }) (lit< tt) in omega (arith, q));
    }
