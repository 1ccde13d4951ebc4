-- A lawful design has few memories.
use Rattle.std.proofs.Common.{ℕ, ◌≤◌, List, [], ◌∷◌, length, arith}
use Rattle.std.specs.Prelude.{sum_by}
use Rattle.std.proofs.lemmas.List.Sums.{sum_by-cons}
use Rattle.design_model.specs.Design.{Design}
use Rattle.design_model.specs.declared.design.Memory.{Memory}
use Rattle.design_model.specs.Lawful.{IsLawfulDesign, span}

at_least : {T : Type 0} (f : T → ℕ) (xs : List T) → ((x : T) → 1 ≤ f x) → length xs ≤ sum_by f xs
at_least f [] one = omega arith
at_least f (x ∷ xs) one = let rest = at_least f xs one in let here = one x in let both = sum_by-cons f x xs in omega (arith, rest, here, both)

pub few_memories : (d : Design) → IsLawfulDesign d → length d.memories ≤ 262144
few_memories d lawful =
    let few = lawful.few_words in
    let counted = at_least (λ (m : Memory). span m.first m.last) d.memories (λ m. omega arith) in
    omega (arith, few, counted)
