-- Names that a sink takes, one list after the other.
use Rattle.std.proofs.Common.{ℕ, List, [], ◌++◌, append-nil, append_assoc, subst, sym}
use Rattle.body_names.specs.Taken.{TakesNames}

module _ {T S : Type 0} (named : T → List ℕ → S → Type 0) where
  pub names_none : (s : S) → TakesNames named s [] s
  names_none s = record { taken = λ start earlier h. subst (λ xs. named start xs s) (sym (append-nil earlier)) h }

  pub names_then : (s t u : S) (xs ys : List ℕ) → TakesNames named s xs t → TakesNames named t ys u → TakesNames named s (xs ++ ys) u
  names_then s t u xs ys a b = record { taken = λ start earlier h. subst (λ zs. named start zs u) (append_assoc earlier xs ys) (b.taken start (earlier ++ xs) (a.taken start earlier h)) }

-- with the names of the rest the sink takes all
pub record TakesOn {T S : Type 0} (named : T → List ℕ → S → Type 0) (before : S) (all : List ℕ) (now : S) (rest : List ℕ) : Type 0 where
  pub goes : (after : S) → TakesNames named now rest after → TakesNames named before all after

module _ {T S : Type 0} (named : T → List ℕ → S → Type 0) (before : S) (all : List ℕ) where
  pub takes_start : TakesOn named before all before all
  takes_start = record { goes = λ after a. a }

  pub takes_further : (now next : S) (xs rest : List ℕ) → TakesOn named before all now (xs ++ rest) → TakesNames named now xs next → TakesOn named before all next rest
  takes_further now next xs rest h a = record { goes = λ after b. h.goes after (names_then named now next after xs rest a b) }

  pub takes_end : (now : S) → TakesOn named before all now [] → TakesNames named before all now
  takes_end now h = h.goes now (names_none named now)
