-- The processes that have a place in an order.
use Rattle.std.proofs.Common.{◌≡◌, ◌↔◌, ◌⊎◌, inl, inr, ℕ, ◌<◌, Bool, true, false, List, [], ◌∷◌, ◌++◌, length, Option, Some, None, refl, sym, ap, subst, ◌∙◌}
use Rattle.std.specs.Prelude.{is_some, slice_index_or}
use Rattle.std.specs.List.{Contains}
use Rattle.std.proofs.lemmas.Bool.{both_ways, cases_lt, false≢true}
use Rattle.std.proofs.lemmas.List.{get_or_default, get_or_past}
use Rattle.std.proofs.lemmas.List.Elements.{Contains-append_left, Contains-push, Contains-push_cases}
use Rattle.design_model.specs.Design.{In}
use Rattle.run_order.specs.Ranked.{AreRanksOf}
use Rattle.step_parts.proofs.process_order.Distinct.{contains_in, in_contains}
use Rattle.step_start.specs.Settles.{ArePlaced}

-- the process has a place
abbrev pub has_place : List (Option ℕ) → ℕ → Bool
has_place ranks p = is_some (slice_index_or ranks p None)

place_of : (o : Option ℕ) → is_some o ≡ true → (k : ℕ) × (o ≡ Some k)
place_of None none = absurd (false≢true none)
place_of (Some k) some = (k, refl)

pub place_below : (ranks : List (Option ℕ)) (p : ℕ) → has_place ranks p ≡ true → p < length ranks
place_below ranks p some = elim (cases_lt p (length ranks)) [
  | inl l ↦ l
  | inr past ↦ absurd (false≢true (sym (ap is_some (get_or_past ranks p None past)) ∙ some))
]

ranked_in : (ranks : List (Option ℕ)) (order : List ℕ) (count p : ℕ) → AreRanksOf order count ranks → has_place ranks p ≡ true → In p order
ranked_in ranks order count p ranked some =
    let k = place_of (slice_index_or ranks p None) some in
    let r = ranked.others p k.0 k.1 in
    contains_in p order (k.0, r.0, sym (get_or_default order k.0 0 p r.0) ∙ r.1)

in_ranked : (ranks : List (Option ℕ)) (order : List ℕ) (count p : ℕ) → AreRanksOf order count ranks → In p order → has_place ranks p ≡ true
in_ranked ranks order count p ranked i =
    let m = in_contains p order i in
    let is : slice_index_or order m.0 0 ≡ p = get_or_default order m.0 0 p m.1 ∙ m.2 in
    ap is_some (subst (λ q. slice_index_or ranks q None ≡ Some m.0) is (ranked.ranked m.0 m.1))

-- those that are woken and have a place in an order are those of the order that are woken
pub placed_in : (ranks : List (Option ℕ)) (order : List ℕ) (count : ℕ) (woken running : List ℕ) → AreRanksOf order count ranks → ArePlaced ranks woken running → (p : ℕ) → In p running ↔ (In p order × In p woken)
placed_in ranks order count woken running ranked placed p = (to, from)
  where
    to : In p running → In p order × In p woken
    to i = let m = (placed p).0 (in_contains p running i) in (ranked_in ranks order count p ranked m.1, contains_in p woken m.0)

    from : In p order × In p woken → In p running
    from i = contains_in p running ((placed p).1 (in_contains p woken i.1, in_ranked ranks order count p ranked i.0))

-- ---- one process more

module _ (ranks : List (Option ℕ)) (front xs : List ℕ) (p : ℕ) (placed : ArePlaced ranks front xs) where
  -- one that has a place
  pub placed_put : (ys : List ℕ) → has_place ranks p ≡ true → ((q : ℕ) → Contains ys q ↔ (Contains xs q ⊎ (p ≡ q))) → ArePlaced ranks (front ++ p ∷ []) ys
  placed_put ys some one q = (
    λ c. elim ((one q).0 c) [
      | inl a ↦ let r = (placed q).0 a in (Contains-append_left front (p ∷ []) q r.0, r.1)
      | inr e ↦ (subst (Contains (front ++ p ∷ [])) e (Contains-push front p), subst (λ z. has_place ranks z ≡ true) e some)
    ],
    λ r. elim (Contains-push_cases front p q r.0) [
      | inl a ↦ (one q).1 (inl ((placed q).1 (a, r.1)))
      | inr e ↦ (one q).1 (inr e)
    ],
  )

  -- and one that has no place
  pub placed_left : has_place ranks p ≡ false → ArePlaced ranks (front ++ p ∷ []) xs
  placed_left none q = (
    λ c. let r = (placed q).0 c in (Contains-append_left front (p ∷ []) q r.0, r.1),
    λ r. elim (Contains-push_cases front p q r.0) [
      | inl a ↦ (placed q).1 (a, r.1)
      | inr e ↦ absurd (both_ways _ (subst (λ z. has_place ranks z ≡ false) e none) r.1)
    ],
  )
