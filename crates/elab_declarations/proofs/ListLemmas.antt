-- Lists that grow at their end, while the rest is gone through.
use Rattle.std.proofs.Common.{◌≡◌, ℕ, ◌+◌, ◌<◌, List, [], ◌∷◌, ◌++◌, map, length, drop, drop-cons, get_or, suc, add-one, append_assoc, Result, Ok, Err, ap, sym, ◌∙◌}
use Rattle.std.specs.Prelude.{OnOk, flat_map}
use Rattle.flat_design.specs.Fault.{Fault}
use Rattle.elab_scope.specs.Tally.{Tally, after_faults}
use Rattle.elab_scope.proofs.TallyLemmas.{after_faults-append}

-- one item of the rest goes to the end of the list
pub pushed_more : {A B C : Type 0} (f : A → C) (h : B → C) (done : List A) (xs : List B) (i : ℕ) (a : A) (x : B) → i < length xs → x ≡ get_or xs i x → f a ≡ h x →
    map f (done ++ a ∷ []) ++ map h (drop (i + 1) xs) ≡ map f done ++ map h (drop i xs)
pushed_more f h [] xs i a x within is same = rw (drop-cons xs i x within, ← is, add-one i) (ap (λ c. c ∷ map h (drop (suc i) xs)) same)
pushed_more f h (d ∷ done) xs i a x within is same = ap (λ cs. f d ∷ cs) (pushed_more f h done xs i a x within is same)

-- the same over what the rest represents
pub viewed_more : {A B C D : Type 0} (f : A → C) (v : B → D) (h : D → C) (done : List A) (xs : List B) (i : ℕ) (a : A) (x : B) → i < length xs → x ≡ get_or xs i x → f a ≡ h (v x) →
    map f (done ++ a ∷ []) ++ map h (map v (drop (i + 1) xs)) ≡ map f done ++ map h (map v (drop i xs))
viewed_more f v h [] xs i a x within is same = rw (drop-cons xs i x within, ← is, add-one i) (ap (λ c. c ∷ map h (map v (drop (suc i) xs))) same)
viewed_more f v h (d ∷ done) xs i a x within is same = ap (λ cs. f d ∷ cs) (viewed_more f v h done xs i a x within is same)

-- the faults of one item of the rest
pub met_more : {B D : Type 0} (v : B → D) (F : D → List Fault) (xs : List B) (i : ℕ) (x : B) (t : Tally) → i < length xs → x ≡ get_or xs i x →
    after_faults (after_faults t (F (v x))) (flat_map F (map v (drop (i + 1) xs))) ≡ after_faults t (flat_map F (map v (drop i xs)))
met_more v F xs i x t within is = rw (drop-cons xs i x within, ← is, add-one i) (sym (after_faults-append t (F (v x)) (flat_map F (map v (drop (suc i) xs)))))

-- what one item of the rest gives goes to the end of the list
pub joined_more : {B C D : Type 0} (v : B → D) (F : D → List C) (done : List C) (xs : List B) (i : ℕ) (x : B) → i < length xs → x ≡ get_or xs i x →
    (done ++ F (v x)) ++ flat_map F (map v (drop (i + 1) xs)) ≡ done ++ flat_map F (map v (drop i xs))
joined_more v F done xs i x within is = rw (drop-cons xs i x within, ← is, add-one i) (append_assoc done (F (v x)) (flat_map F (map v (drop (suc i) xs))))

-- an equal tally, where a call gives a value
pub met_along : {A E : Type 0} (r : Result A E) (x y z : Tally) → y ≡ z → OnOk r (x ≡ y) → OnOk r (x ≡ z)
met_along (Ok a) x y z e h = h ∙ e
met_along (Err a) x y z e h = h
