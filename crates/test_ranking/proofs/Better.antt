-- The better of two tables, and the best of all.
use Rattle.std.proofs.Common.{◌≡◌, ℕ, ◌+◌, ◌<◌, ◌≤◌, ◌⊎◌, Bool, true, false, ◌&&◌, eqb, ltb, List, [], length, get_or, set, refl, sym, ap, subst, ◌∙◌, inl, inr, arith, get_or-set_same, get_or-set_other}
use Rattle.std.specs.Prelude.{All, replicate}
use Rattle.std.proofs.lemmas.List.{get_or-replicate}
use Rattle.std.proofs.lemmas.Bool.{and_cases, and_parts, cases_Bool, cases_eq, cond-false, cond-true, eqb-false, eqb-true, false_from_ne_true, ltb-false, ltb-true, or_cases, or_parts}
use Rattle.test_ranking.specs.Candidate.{AreBounds, IsBest, better, goes_before}
use Rattle.test_ranking.specs.PointSet.{size, union}
use Rattle.test_ranking.specs.Ranking.{IsNext, NoneAdds, gain, set_at}
use Rattle.test_ranking.specs.declared.candidate.Candidate.{Candidate}
use Rattle.test_ranking.specs.declared.ranking.Use.{Use}
use Rattle.test_ranking.proofs.SetLaws.{fewer_than_all, length-union, size-le-length, size-union}
use Rattle.test_ranking.proofs.Uses.{gain_less}

before : (table added : ℕ) (best : Candidate) → goes_before table added best ≡ true → (best.added < added) ⊎ ((added ≡ best.added) × (table < best.table))
before table added best is =
    elim (or_cases (ltb best.added added) (eqb added best.added && ltb table best.table) is) [
      | inl more ↦ inl (ltb-true best.added added more)
      | inr both ↦ let parts = and_parts (eqb added best.added) (ltb table best.table) both in inr (eqb-true added best.added parts.0, ltb-true table best.table parts.1)
    ]

not_equal : (table added : ℕ) (best : Candidate) → goes_before table added best ≡ false → added ≡ best.added → best.table ≤ table
not_equal table added best not same =
    let parts = or_parts (ltb best.added added) (eqb added best.added && ltb table best.table) not in
    elim (and_cases (eqb added best.added) (ltb table best.table) parts.1) [
      | inl other ↦ absurd (eqb-false added best.added other same)
      | inr later ↦ ltb-false table best.table later
    ]

not_before : (table added : ℕ) (best : Candidate) → goes_before table added best ≡ false → (added ≤ best.added) × (added ≡ best.added → best.table ≤ table)
not_before table added best not =
    let parts = or_parts (ltb best.added added) (eqb added best.added && ltb table best.table) not in
    (ltb-false best.added added parts.0, not_equal table added best not)

-- what does not go before by a bound of what it adds does not by what it adds
bound_decides : (table added bound : ℕ) (best : Candidate) → added ≤ bound → goes_before table bound best ≡ false → goes_before table added best ≡ false
bound_decides table added bound best less not =
    let by_bound = not_before table bound best not in
    false_from_ne_true (goes_before table added best) (λ is. elim (before table added best is) [
      | inl more ↦ omega (arith, more, by_bound.0, less)
      | inr both ↦
          let same : bound ≡ best.added = omega (arith, both.0, by_bound.0, less) in
          omega (arith, both.1, by_bound.1 same)
    ])

pub kept_by_bound : (table added bound : ℕ) (best : Candidate) → added ≤ bound → goes_before table bound best ≡ false → best ≡ better best table added
kept_by_bound table added bound best less not =
    sym (cond-false {A = Candidate} (goes_before table added best) (record { table = table; added = added }) best (bound_decides table added bound best less not))

-- the best so far, and one table more
takes : (tables : List (List Bool)) (hit : List Bool) (place : ℕ) (best : Candidate) → IsBest tables hit place best → place < length tables → goes_before place (gain tables hit place) best ≡ true
    → IsBest tables hit (place + 1) (record { table = place; added = gain tables hit place })
takes tables hit place best is listed goes = record {
  listed = listed;
  added = refl;
  most = λ other below. elim (cases_eq other place) [
    | inl same ↦ subst (λ (t : ℕ). gain tables hit t ≤ gain tables hit place) (sym same) (omega arith)
    | inr apart ↦ elim (before place (gain tables hit place) best goes) [
      | inl more ↦ omega (arith, is.most other (omega arith), more)
      | inr both ↦ omega (arith, is.most other (omega arith), both.0)
    ]
  ];
  first = λ other below earlier. elim (before place (gain tables hit place) best goes) [
    | inl more ↦ omega (arith, is.most other earlier, more)
    | inr both ↦ let before_best : other < best.table = omega (arith, earlier, both.1) in omega (arith, is.first other earlier before_best, both.0)
  ];
}

keeps : (tables : List (List Bool)) (hit : List Bool) (place : ℕ) (best : Candidate) → IsBest tables hit place best → goes_before place (gain tables hit place) best ≡ false → IsBest tables hit (place + 1) best
keeps tables hit place best is not =
    let own = not_before place (gain tables hit place) best not in
    record {
      listed = is.listed;
      added = is.added;
      most = λ other below. elim (cases_eq other place) [
        | inl same ↦ subst (λ (t : ℕ). gain tables hit t ≤ best.added) (sym same) own.0
        | inr apart ↦ is.most other (omega arith)
      ];
      first = λ other below earlier. elim (cases_eq other place) [
        | inl same ↦ subst (λ (t : ℕ). gain tables hit t < best.added) (sym same) (less other place earlier same own)
        | inr apart ↦ is.first other (omega arith) earlier
      ];
    }
  where
    less : (other at : ℕ) → other < best.table → other ≡ at → (gain tables hit at ≤ best.added) × (gain tables hit at ≡ best.added → best.table ≤ at) → gain tables hit at < best.added
    less other at earlier same own = elim (cases_eq (gain tables hit at) best.added) [
      | inl equal ↦ absurd (omega (arith, earlier, same, own.1 equal))
      | inr apart ↦ omega (arith, own.0, apart)
    ]

pub better_best : (tables : List (List Bool)) (hit : List Bool) (place : ℕ) (best new : Candidate) → IsBest tables hit place best → place < length tables → new ≡ better best place (gain tables hit place) → IsBest tables hit (place + 1) new
better_best tables hit place best new is listed same =
    elim (cases_Bool (goes_before place (gain tables hit place) best)) [
      | inl goes ↦ subst (IsBest tables hit (place + 1)) (sym (same ∙ cond-true {A = Candidate} (goes_before place (gain tables hit place) best) (record { table = place; added = gain tables hit place }) best goes)) (takes tables hit place best is listed goes)
      | inr not ↦ subst (IsBest tables hit (place + 1)) (sym (same ∙ cond-false {A = Candidate} (goes_before place (gain tables hit place) best) (record { table = place; added = gain tables hit place }) best not)) (keeps tables hit place best is not)
    ]

pub first_best : (tables : List (List Bool)) (hit : List Bool) (start : Candidate) → start.table < length tables → start.added ≡ gain tables hit start.table → IsBest tables hit 0 start
first_best tables hit start listed added = record {
  listed = listed;
  added = added;
  most = λ other below. absurd (omega (arith, below));
  first = λ other below earlier. absurd (omega (arith, below));
}

-- a count is set to a bound
pub bounds_set : (tables : List (List Bool)) (hit : List Bool) (counts : List ℕ) (place count : ℕ) → place < length counts → gain tables hit place ≤ count → AreBounds tables hit counts → AreBounds tables hit (set counts place count)
bounds_set tables hit counts place count inside bound are table listed =
    elim (cases_eq table place) [
      | inl same ↦ subst (λ (t : ℕ). gain tables hit t ≤ get_or (set counts place count) t 0) (sym same) (rw (get_or-set_same counts place count 0 inside) bound)
      | inr apart ↦ rw (get_or-set_other counts place table count 0 apart) (are table listed)
    ]

-- bounds stay bounds as more points are hit
pub bounds_stay : (tables : List (List Bool)) (hit set : List Bool) (counts : List ℕ) → AreBounds tables hit counts → AreBounds tables (union hit set) counts
bounds_stay tables hit set counts are table listed = omega (arith, are table listed, gain_less tables hit set table)

-- ---- the next table

union_short : (tables : List (List Bool)) (hit : List Bool) (table : ℕ) → All (λ set. length hit ≡ length set) tables → table < length tables → size (union hit (set_at tables table)) ≤ length hit
union_short tables hit table sets listed =
    omega (arith, size-le-length (union hit (set_at tables table)), length-union hit (set_at tables table) (sets table [] listed))

-- all points that are hit with a table are no more than there are
pub total_fits : (tables : List (List Bool)) (hit : List Bool) (table : ℕ) → All (λ set. length hit ≡ length set) tables → table < length tables → size hit + gain tables hit table ≤ length hit
total_fits tables hit table sets listed = omega (arith, union_short tables hit table sets listed, size-union hit (set_at tables table))

pub best_is_next : (tables : List (List Bool)) (hit : List Bool) (best : Candidate) (total : ℕ) → IsBest tables hit (length tables) best → total ≡ size hit → 1 ≤ best.added
    → IsNext tables hit (record { table = best.table; added = best.added; total = total + best.added })
best_is_next tables hit best total is total_is some = record {
  listed = is.listed;
  added = is.added;
  some = some;
  most = is.most;
  first = λ other earlier. is.first other (omega (arith, is.listed, earlier)) earlier;
  total = omega (arith, total_is, is.added, size-union hit (set_at tables best.table));
}

pub none_better : (tables : List (List Bool)) (hit : List Bool) (best : Candidate) → IsBest tables hit (length tables) best → best.added ≡ 0 → NoneAdds tables hit
none_better tables hit best is none place listed = omega (arith, is.most place listed, none)

-- the next table adds to the total
pub next_total : (tables : List (List Bool)) (hit : List Bool) (next : Use) → IsNext tables hit next → next.total ≡ size hit + next.added
next_total tables hit next is = omega (arith, is.total, is.added, size-union hit (set_at tables next.table))

-- at first the number of points is a bound
pub first_bounds : (points : ℕ) (tables : List (List Bool)) (hit : List Bool) (counts : List ℕ) → All (λ set. length set ≡ points) tables → counts ≡ replicate (length tables) points → AreBounds tables hit counts
first_bounds points tables hit counts sets is table listed =
    let count : get_or counts table 0 ≡ points = ap (λ (cs : List ℕ). get_or cs table 0) is ∙ get_or-replicate (length tables) table points 0 listed in
    omega (arith, count, fewer_than_all (set_at tables table) hit, size-le-length (set_at tables table), sets table [] listed)
