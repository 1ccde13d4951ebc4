-- What a code is given, and the close of a step.
use Rattle.std.proofs.Common.{◌≡◌, ◌≢◌, ◌⊎◌, inl, inr, ⊎_elim, ◌∙◌, ℕ, ◌+◌, ◌<◌, ◌≤◌, Bool, true, false, cond, List, [], ◌∷◌, ◌++◌, Option, None, length, get_or, set, refl, sym, ap, subst, arith}
use Rattle.std.specs.List.{Contains}
use Rattle.std.proofs.lemmas.Bool.{cases_lt}
use Rattle.std.proofs.lemmas.List.{get_or-set_same, get_or-set_other, length-set, same_lists, get_or_default}
use Rattle.std.proofs.lemmas.List.Elements.{Contains-append_left, Contains-push}
use Rattle.four_state.specs.Vector.{Vector}
use Rattle.index_sets.specs.Members.{Members}
use Rattle.code_values.specs.Values.{AreChanged, Values, value_of}

-- the values by code
abbrev pub the_values : List (Option Vector) → List (Option Vector) → Values
the_values closed last = record { closed = closed; last = last }

cases_same : (m n : ℕ) → (m ≡ n) ⊎ (m ≢ n)
cases_same m n = ⊎_elim (λ l. inr (λ e. absurd (omega arith))) (λ l. ⊎_elim (λ k. inr (λ e. absurd (omega arith))) (λ k. inl (omega arith)) (cases_lt n m)) (cases_lt m n)

-- a member that is put in, or was there
pub inserted : (xs ys : List ℕ) (n : ℕ) (r : Bool) → (r ≡ false → Contains xs n) → ys ≡ cond r (xs ++ n ∷ []) xs → Contains ys n
inserted xs ys n true there is = subst (λ zs. Contains zs n) (sym is) (Contains-push xs n)
inserted xs ys n false there is = subst (λ zs. Contains zs n) (sym is) (there refl)

pub kept_in : (xs ys : List ℕ) (n : ℕ) (r : Bool) (x : ℕ) → ys ≡ cond r (xs ++ n ∷ []) xs → Contains xs x → Contains ys x
kept_in xs ys n true x is c = subst (λ zs. Contains zs x) (sym is) (Contains-append_left xs (n ∷ []) x c)
kept_in xs ys n false x is c = subst (λ zs. Contains zs x) (sym is) c

-- the value of a code is another one now
pub taken_more : (closed last : List (Option Vector)) (before after : Members) (code : ℕ) (value : Option Vector) (r : Bool) → AreChanged closed last before → (r ≡ false → Contains before.items code)
    → after.size ≡ before.size → after.items ≡ cond r (before.items ++ code ∷ []) before.items → AreChanged closed (set last code value) after
taken_more closed last before after code value r h there size is =
    record {
      as_many = h.as_many ∙ sym (length-set last code value);
      size = size ∙ h.size ∙ sym (length-set last code value);
      others = λ other. ⊎_elim (λ e. inl (subst (Contains after.items) (sym e) (inserted before.items after.items code r there is))) (λ d. ⊎_elim (λ c. inl (kept_in before.items after.items code r other is c)) (λ e. inr (e ∙ sym (get_or-set_other last code other value None d))) (h.others other)) (cases_same other code);
    }

-- so many of the codes are closed
pub record AreClosed (closed last now : List (Option Vector)) (given : List ℕ) (place : ℕ) : Type 0 where
  pub as_many : length now ≡ length closed
  pub so_far : (k : ℕ) → k < place → k < length given → value_of now (get_or given k 0) ≡ value_of last (get_or given k 0)
  pub either : (code : ℕ) → (value_of now code ≡ value_of closed code) ⊎ (value_of now code ≡ value_of last code)

pub closed_none : (closed last : List (Option Vector)) (given : List ℕ) → AreClosed closed last closed given 0
closed_none closed last given = record { as_many = refl; so_far = λ k l m. absurd (omega arith); either = λ code. inl refl }

pub closed_more : (closed last now : List (Option Vector)) (given : List ℕ) (place code : ℕ) → AreClosed closed last now given place → place < length given → code ≡ get_or given place 0 → code < length now
    → AreClosed closed last (set now code (value_of last code)) given (place + 1)
closed_more closed last now given place code h l is below =
    let at : (x : ℕ) → (value_of (set now code (value_of last code)) x ≡ value_of now x) ⊎ (value_of (set now code (value_of last code)) x ≡ value_of last x) = λ x. ⊎_elim (λ e. inr (subst (λ y. value_of (set now code (value_of last code)) y ≡ value_of last y) (sym e) (get_or-set_same now code (value_of last code) None below))) (λ d. inl (get_or-set_other now code x (value_of last code) None d)) (cases_same x code) in
    record {
      as_many = length-set now code (value_of last code) ∙ h.as_many;
      so_far = λ k m n. ⊎_elim (λ j. ⊎_elim (λ e. e ∙ h.so_far k j n) (λ e. e) (at (get_or given k 0))) (λ j. let e : k ≡ place = omega arith in subst (λ y. value_of (set now code (value_of last code)) y ≡ value_of last y) (is ∙ ap (λ y. get_or given y 0) (sym e)) (get_or-set_same now code (value_of last code) None below)) (cases_lt k place);
      either = λ x. ⊎_elim (λ e. ⊎_elim (λ f. inl (e ∙ f)) (λ f. inr (e ∙ f)) (h.either x)) (λ e. inr e) (at x);
    }

-- all of them are
pub all_closed : (closed last now : List (Option Vector)) (given : Members) (place : ℕ) → AreChanged closed last given → length given.items ≤ place → AreClosed closed last now given.items place → now ≡ last
all_closed closed last now given place h end a =
    same_lists now last (a.as_many ∙ h.as_many) (λ k d l. let
    here : value_of now k ≡ value_of last k = ⊎_elim (λ c. let
    e : get_or given.items c.0 0 ≡ k = get_or_default given.items c.0 0 k c.1 ∙ c.2 in
    subst (λ x. value_of now x ≡ value_of last x) e (a.so_far c.0 (omega (arith, c.1, end)) c.1)) (λ e. ⊎_elim (λ f. f ∙ e) (λ f. f) (a.either k)) (h.others k) in
    get_or_default now k d None l ∙ here ∙ get_or_default last k None d (omega (arith, l, a.as_many, h.as_many)))

-- nothing was given since
pub none_changed : (last : List (Option Vector)) (given : Members) → given.size ≡ length last → AreChanged last last given
none_changed last given size = record { as_many = refl; size = size; others = λ code. inr refl }

-- the values once a step is closed
pub closed_values : (closed last : List (Option Vector)) (t : Values) → closed ≡ t.last → last ≡ t.last → the_values closed last ≡ the_values t.last t.last
closed_values closed last t e f = ap (λ xs. the_values xs last) e ∙ ap (the_values t.last) f
