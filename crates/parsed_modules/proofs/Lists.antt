-- Lists of which each element is such.
use Rattle.std.proofs.Common.{List, [], ◌∷◌, ◌++◌, map, subst, inl, inr}
use Rattle.std.specs.Prelude.{flat_map}
use Rattle.design_model.specs.Design.{In}
use Rattle.grammar_rules.proofs.Holds.{AllOf}

pub all_append : {A : Type 0} (P : A → Type 0) (xs ys : List A) → AllOf P xs → AllOf P ys → AllOf P (xs ++ ys)
all_append P [] ys h k = k
all_append P (x ∷ xs) ys h k = (h.0, all_append P xs ys h.1 k)

-- each that a function makes is such
pub all_map : {A B : Type 0} (P : A → Type 0) (Q : B → Type 0) (f : A → B) → ((x : A) → P x → Q (f x)) → (xs : List A) → AllOf P xs → AllOf Q (map f xs)
all_map P Q f step [] h = tt
all_map P Q f step (x ∷ xs) h = (step x h.0, all_map P Q f step xs h.1)

-- so are those of which it makes such
pub all_made : {A B : Type 0} (Q : B → Type 0) (f : A → B) (xs : List A) → AllOf Q (map f xs) → AllOf (λ x. Q (f x)) xs
all_made Q f [] h = tt
all_made Q f (x ∷ xs) h = (h.0, all_made Q f xs h.1)

pub all_flat_map : {A B : Type 0} (P : A → Type 0) (Q : B → Type 0) (f : A → List B) → ((x : A) → P x → AllOf Q (f x)) → (xs : List A) → AllOf P xs → AllOf Q (flat_map f xs)
all_flat_map P Q f step [] h = tt
all_flat_map P Q f step (x ∷ xs) h = all_append Q (f x) (flat_map f xs) (step x h.0) (all_flat_map P Q f step xs h.1)

-- what is in the list is such
pub all_in : {A : Type 0} (P : A → Type 0) (xs : List A) → AllOf P xs → (x : A) → In x xs → P x
all_in P [] h x k = absurd k
all_in P (y ∷ ys) h x (inl e) = subst P e h.0
all_in P (y ∷ ys) h x (inr k) = all_in P ys h.1 x k
