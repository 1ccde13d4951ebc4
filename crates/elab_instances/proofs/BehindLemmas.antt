-- Names that are bound one after the other; of equal names the first counts.
use Rattle.std.proofs.Common.{◌≡◌, ℕ, suc, ◌+◌, ◌<◌, Bool, true, false, cond, List, [], ◌∷◌, ◌++◌, map, length, drop, drop-cons, get_or, add-one, Option, Some, None, Result, Ok, Err, refl, sym, ap, ◌∙◌, inl, inr}
use Rattle.std.specs.Prelude.{bytes_eq, filter, if◌then◌else◌, is_some, OnOk}
use Rattle.std.specs.Option.{option_or}
use Rattle.std.proofs.lemmas.Bool.{cases_Bool}
use Rattle.std.proofs.lemmas.List.Elements.{filter-append}
use Rattle.std.proofs.lemmas.Slice.Eq.{bytes_eq-Decides}
use Rattle.elab_const.proofs.ScopeLemmas.{fun_ext}
use Rattle.elab_scope.specs.NameMap.{bound_to, with_binding}
use Rattle.elab_instances.specs.Behind.{or_bound}

or_nothing : {V : Type 0} (o : Option V) → option_or o None ≡ o
or_nothing None = refl
or_nothing (Some v) = refl

or_in_turn : {V : Type 0} (o p q : Option V) → option_or (option_or o p) q ≡ option_or o (option_or p q)
or_in_turn None p q = refl
or_in_turn (Some v) p q = refl

bound_append : {V : Type 0} (bs cs : List (List ℕ × V)) (x : List ℕ) → bound_to (bs ++ cs) x ≡ option_or (bound_to bs x) (bound_to cs x)
bound_append [] cs x = refl
bound_append (b ∷ bs) cs x = by (bytes_eq x b.0) (bound_append bs cs x)
  where
    by : (t : Bool) → bound_to (bs ++ cs) x ≡ option_or (bound_to bs x) (bound_to cs x) → cond t (Some b.1) (bound_to (bs ++ cs) x) ≡ option_or (cond t (Some b.1) (bound_to bs x)) (bound_to cs x)
    by true rest = refl
    by false rest = rest

-- some and then others
pub or_append : {V : Type 0} (g : List ℕ → Option V) (bs cs : List (List ℕ × V)) → or_bound (or_bound g bs) cs ≡ or_bound g (bs ++ cs)
or_append g bs cs = fun_ext (λ x. or_in_turn (g x) (bound_to bs x) (bound_to cs x) ∙ ap (option_or (g x)) (sym (bound_append bs cs x)))

-- none
pub or_none : {V : Type 0} (g : List ℕ → Option V) → or_bound g [] ≡ g
or_none g = fun_ext (λ x. or_nothing (g x))

none_of : {A : Type 0} (o : Option A) → is_some o ≡ false → o ≡ None
none_of None h = refl
none_of (Some x) h = absurd cc

or_some : {V : Type 0} (o p : Option V) → is_some o ≡ true → o ≡ option_or o p
or_some None p h = absurd cc
or_some (Some v) p h = refl

module _ {V : Type 0} (g : List ℕ → Option V) (x : List ℕ) (v : V) where
  -- a name that was not bound
  pub bound_new : is_some (g x) ≡ false → with_binding x v g ≡ or_bound g ((x, v) ∷ [])
  bound_new new = fun_ext at
    where
      at : (y : List ℕ) → (if bytes_eq y x then Some v else g y) ≡ option_or (g y) (if bytes_eq y x then Some v else None)
      at y =
          elim (cases_Bool (bytes_eq y x)) [
            | inl same ↦
                let none : g y ≡ None = ap g ((bytes_eq-Decides y x).0 same) ∙ none_of (g x) new in
                rw (none, same) refl
            | inr other ↦ rw other (sym (or_nothing (g y)))
          ]

  -- a name that was bound
  pub bound_old : is_some (g x) ≡ true → g ≡ or_bound g ((x, v) ∷ [])
  bound_old old = fun_ext at
    where
      at : (y : List ℕ) → g y ≡ option_or (g y) (if bytes_eq y x then Some v else None)
      at y =
          elim (cases_Bool (bytes_eq y x)) [
            | inl same ↦ or_some (g y) _ (ap (λ z. is_some (g z)) ((bytes_eq-Decides y x).0 same) ∙ old)
            | inr other ↦ rw other (sym (or_nothing (g y)))
          ]

-- one of the rest
pub bound_at : {A V : Type 0} (F : A → List ℕ × V) (xs : List A) (i : ℕ) (d : A) (g h : List ℕ → Option V) → i < length xs → h ≡ or_bound g (F (get_or xs i d) ∷ []) → or_bound h (map F (drop (i + 1) xs)) ≡ or_bound g (map F (drop i xs))
bound_at F xs i d g h within here = rw (drop-cons xs i d within, add-one i, here) (or_append g (F (get_or xs i d) ∷ []) (map F (drop (suc i) xs)))

-- the same where the one is at hand
pub bound_next : {A V : Type 0} (F : A → List ℕ × V) (xs : List A) (i : ℕ) (x : A) (g h : List ℕ → Option V) → i < length xs → x ≡ get_or xs i x → h ≡ or_bound g (F x ∷ []) → or_bound h (map F (drop (i + 1) xs)) ≡ or_bound g (map F (drop i xs))
bound_next F xs i x g h within is here = bound_at F xs i x g h within (here ∙ ap (λ y. or_bound g (F y ∷ [])) is)

-- the same of those that pass a test
pub passing_next : {A V : Type 0} (p : List ℕ × V → Bool) (F : A → List ℕ × V) (xs : List A) (i : ℕ) (x : A) (g h : List ℕ → Option V) → i < length xs → x ≡ get_or xs i x → h ≡ or_bound g (filter p (F x ∷ [])) →
    or_bound h (filter p (map F (drop (i + 1) xs))) ≡ or_bound g (filter p (map F (drop i xs)))
passing_next p F xs i x g h within is here =
    let others = map F (drop (suc i) xs) in
    rw (drop-cons xs i x within, ← is, add-one i, here) (or_append g (filter p (F x ∷ [])) (filter p others) ∙ ap (or_bound g) (sym (filter-append p (F x ∷ []) others)))

-- the same where a call binds it
pub bound_on_ok : {A E V : Type 0} (r : Result A E) (h g : List ℕ → Option V) (x : List ℕ) (v : V) → is_some (g x) ≡ false → OnOk r (h ≡ with_binding x v g) → OnOk r (h ≡ or_bound g ((x, v) ∷ []))
bound_on_ok (Ok a) h g x v new is = is ∙ bound_new g x v new
bound_on_ok (Err e) h g x v new is = is
