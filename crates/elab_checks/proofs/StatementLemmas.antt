-- What is met in statements, one part after another.
use Rattle.std.proofs.Common.{◌≡◌, ℕ, ◌+◌, ◌<◌, List, ◌∷◌, ◌++◌, length, get_or, drop, add-one, drop-cons, Result, Ok, Err, refl, sym, ap, ◌∙◌}
use Rattle.std.specs.Prelude.{OnOk, flat_map}
use Rattle.flat_design.specs.Bodies.{Met, met_faults}
use Rattle.flat_design.specs.Fault.{Fault}
use Rattle.elab_scope.specs.Tally.{Tally, after, after_all, after_faults}
use Rattle.elab_scope.proofs.TallyLemmas.{after_all-append}

-- what holds, whatever a call gives
pub on_ok : {A E P : Type 0} (r : Result A E) → P → OnOk r P
on_ok (Ok a) p = p
on_ok (Err e) p = tt

-- an equal value, where a call gives one
pub ok_along : {A E V : Type 0} (r : Result A E) (v y z : V) → y ≡ z → OnOk r (v ≡ y) → OnOk r (v ≡ z)
ok_along (Ok a) v y z e h = h ∙ e
ok_along (Err x) v y z e h = h

-- what is met in one part, and then in another
pub all_then : (t u v : Tally) (ms ns : List Met) → u ≡ after_all t ms → v ≡ after_all u ns → v ≡ after_all t (ms ++ ns)
all_then t u v ms ns one two = two ∙ ap (λ s. after_all s ns) one ∙ sym (after_all-append t ms ns)

-- a statement and its text, and then faults
pub front_met : (t u v w : Tally) (m n : Met) (fs : List Fault) → u ≡ after t m → v ≡ after u n → w ≡ after_faults v fs → w ≡ after_all t (m ∷ n ∷ met_faults fs)
front_met t u v w m n fs one two three = three ∙ ap (λ s. after_faults s fs) (two ∙ ap (λ s. after s n) one)

-- the next part of the rest
pub all_next : (t u w : Tally) (ms ns all : List Met) → all ≡ ms ++ ns → after_all t all ≡ w → u ≡ after_all t ms → after_all u ns ≡ w
all_next t u w ms ns all is whole here = ap (λ s. after_all s ns) here ∙ sym (after_all-append t ms ns) ∙ ap (after_all t) (sym is) ∙ whole

-- the rest of a list is its next item and what follows
pub flat_map_next : {A B : Type 0} (f : A → List B) (xs : List A) (i : ℕ) (x : A) → i < length xs → x ≡ get_or xs i x → flat_map f (drop i xs) ≡ f x ++ flat_map f (drop (i + 1) xs)
flat_map_next f xs i x within is = rw (add-one, drop-cons xs i x within, ← is) refl
