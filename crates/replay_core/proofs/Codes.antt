-- The codes of the signals as tests and as rows.
use Rattle.std.proofs.Common.{◌≡◌, ◌∙◌, ℕ, ◌<◌, ◌≤◌, true, false, List, [], ◌∷◌, length, map, Option, Some, None, refl, sym, ap, subst, arith, inl, inr}
use Rattle.std.specs.Prelude.{is_some, nat_lt, slice_index_or}
use Rattle.std.specs.List.{Contains}
use Rattle.std.proofs.Math.ListN.{get_or-map}
use Rattle.std.proofs.Math.Path.{fun_ext}
use Rattle.std.proofs.lemmas.Bool.{both_ways, cases_Bool}
use Rattle.std.proofs.lemmas.Bool.Decides.{nat_tests}
use Rattle.std.proofs.lemmas.List.{get_or_past}
use Rattle.design_wakes.specs.Transpose.{IsTranspose}
use Rattle.index_sets.specs.Rows.{row_at}
use Rattle.process_order.proofs.Distinct.{contains_in}
use Rattle.process_order.specs.Needs.{is_bound}
use Rattle.first_step.specs.step_changes.Changes.{AreSignalsOf}
use Rattle.first_step.specs.step_values.Loose.{has_code}
use Rattle.replay_core.specs.Codes.{code_list, flags_of}

-- the flags say which signals have a code
pub flags_are : (codes : List (Option ℕ)) (s : ℕ) → slice_index_or (flags_of codes) s false ≡ has_code codes s
flags_are codes s = get_or-map is_some codes s None

pub bound_is : (codes : List (Option ℕ)) → is_bound (flags_of codes) ≡ has_code codes
bound_is codes = fun_ext (flags_are codes)

-- only the signals that are listed have one
pub coded_below : (codes : List (Option ℕ)) (s : ℕ) → has_code codes s ≡ true → s < length codes
coded_below codes s h = elim (cases_Bool (nat_lt s (length codes))) [
  | inl e ↦ grind (arith, nat_tests, e)
  | inr e ↦
      let past : length codes ≤ s = grind (arith, nat_tests, e) in
      absurd (both_ways _ (ap is_some (get_or_past codes s None past)) h)
]

-- ---- the rows of signals by code

in_code : (o : Option ℕ) (code : ℕ) → Contains (code_list o) code → o ≡ Some code
in_code None code (k, l, e) = absurd (omega (arith, l))
in_code (Some n) code m = elim (contains_in code (n ∷ []) m) [
  | inl e ↦ ap Some e
  | inr e ↦ absurd e
]

code_in : (o : Option ℕ) (code : ℕ) → o ≡ Some code → Contains (code_list o) code
code_in o code e = subst (λ p. Contains (code_list p) code) (sym e) (0, omega arith, refl)

pub signals_are : (codes : List (Option ℕ)) (lists rows : List (List ℕ)) (count : ℕ) → lists ≡ map code_list codes → IsTranspose lists count rows
    → ((s code : ℕ) → slice_index_or codes s None ≡ Some code → code < count) → AreSignalsOf codes rows
signals_are codes lists rows count are turned within code s = (to, from)
  where
    row_is : row_at lists s ≡ code_list (slice_index_or codes s None)
    row_is = ap (λ xs. row_at xs s) are ∙ get_or-map code_list codes s None

    to : Contains (row_at rows code) s → slice_index_or codes s None ≡ Some code
    to m = elim (cases_Bool (nat_lt code count)) [
      | inl e ↦
          let below : code < count = grind (arith, nat_tests, e) in
          in_code (slice_index_or codes s None) code (subst (λ row. Contains row code) row_is ((turned.has code s below).0 m))
      | inr e ↦
          let size = turned.count_is in
          let past : count ≤ code = grind (arith, nat_tests, e) in
          let none : row_at rows code ≡ [] = get_or_past rows code [] (omega (arith, size, past)) in
          let some = subst (λ row. Contains row s) none m in
          let l = some.1 in
          absurd (omega (arith, l))
    ]

    from : slice_index_or codes s None ≡ Some code → Contains (row_at rows code) s
    from e = (turned.has code s (within s code e)).1 (subst (λ row. Contains row code) (sym row_is) (code_in (slice_index_or codes s None) code e))
