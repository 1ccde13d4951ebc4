-- What passes a test, and the first item of a row.
use Rattle.std.proofs.Common.{◌≡◌, ◌∙◌, ⊎_elim, ℕ, ◌<◌, Bool, true, false, cond, ◌==◌, List, [], ◌∷◌, ◌++◌, length, get_or, Some, refl, sym, ap, subst, arith}
use Rattle.std.specs.List.{All, Contains, filter, list_any}
use Rattle.std.proofs.lemmas.Bool.{both_ways, cases_lt, eqb-true, or_cases, or_left, or_right}
use Rattle.std.proofs.lemmas.List.{get_or_past}
use Rattle.std.proofs.lemmas.List.Elements.{All-contains, All-contains_itself, All-filter, filter-append, filter_passes}
use Rattle.std.proofs.lemmas.Option.{none-some, same_Some}
use Rattle.early_sets.proofs.Membership.{is_in_from, is_in_gives}
use Rattle.once_writers.specs.Lists.{first_of}
use Rattle.once_writers.specs.Writers.{flag_at}

module _ (p : ℕ → Bool) (y : ℕ) where
  pub passed : (xs : List ℕ) → Contains (filter p xs) y → (p y ≡ true) × Contains xs y
  passed xs c = (All-contains (λ x. p x ≡ true) (filter p xs) y (filter_passes p xs) c, All-contains (Contains xs) (filter p xs) y (All-filter p (Contains xs) xs (All-contains_itself xs)) c)

  keeps : (xs : List ℕ) → p y ≡ true → list_any (λ z. z == y) xs ≡ true → list_any (λ z. z == y) (filter p xs) ≡ true
  keeps [] e h = h
  keeps (x ∷ xs) e h = go (λ r. keeps xs e r) (p x) refl
    where
      go : (list_any (λ z. z == y) xs ≡ true → list_any (λ z. z == y) (filter p xs) ≡ true) → (t : Bool) → p x ≡ t → list_any (λ z. z == y) (cond t (x ∷ filter p xs) (filter p xs)) ≡ true
      go later true q = ⊎_elim (λ s. or_left (x == y) _ s) (λ r. or_right (x == y) _ (later r)) (or_cases (x == y) _ h)
      go later false q = ⊎_elim (λ s. absurd (both_ways (p x) q (subst (λ z. p z ≡ true) (sym (eqb-true x y s)) e))) later (or_cases (x == y) _ h)

  pub passes : (xs : List ℕ) → p y ≡ true → Contains xs y → Contains (filter p xs) y
  passes xs e c = is_in_gives (filter p xs) y (keeps xs e (is_in_from xs y c.0 c.1 c.2))

-- the first item of a row is in it, and a row with an item has a first one
pub first_in : (xs : List ℕ) (p : ℕ) → first_of xs ≡ Some p → Contains xs p
first_in [] p e = absurd (none-some p e)
first_in (x ∷ xs) p e = (0, omega arith, same_Some x p e)

pub has_first : (xs : List ℕ) (p : ℕ) → Contains xs p → (q : ℕ) × (first_of xs ≡ Some q)
has_first [] p c = absurd (omega (arith, c.1))
has_first (x ∷ xs) p c = (x, refl)

module _ (wanted : List Bool) where
  -- what is marked has a flag
  pub flagged : (x : ℕ) → flag_at wanted x ≡ true → x < length wanted
  flagged x h = ⊎_elim (λ l. l) (λ past. absurd (both_ways (flag_at wanted x) (get_or_past wanted x false past) h)) (cases_lt x (length wanted))

  abbrev pub marks : List ℕ → List ℕ → List ℕ
  marks xs ys = filter (flag_at wanted) xs ++ filter (flag_at wanted) ys

  -- one list and the other
  pub marks_are : (xs ys first second third : List ℕ) → first ≡ [] → second ≡ first ++ filter (flag_at wanted) xs → third ≡ second ++ filter (flag_at wanted) ys → third ≡ marks xs ys
  marks_are xs ys first second third a b c = c ∙ ap (λ zs. zs ++ filter (flag_at wanted) ys) (b ∙ ap (λ zs. zs ++ filter (flag_at wanted) xs) a)

  pub marks_within : (xs ys : List ℕ) (n : ℕ) → n ≡ length wanted → All (λ x. x < n) (marks xs ys)
  marks_within xs ys n e = subst (All (λ x. x < n)) (filter-append (flag_at wanted) xs ys) below
    where
      below : All (λ x. x < n) (filter (flag_at wanted) (xs ++ ys))
      below k d l = let f = flagged (get_or (filter (flag_at wanted) (xs ++ ys)) k d) (filter_passes (flag_at wanted) (xs ++ ys) k d l) in omega (arith, f, e)
