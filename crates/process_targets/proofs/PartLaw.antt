-- The cells that a part inside of a signal writes.
use Rattle.std.proofs.Common.{◌≡◌, ◌∙◌, ℕ, zero, suc, ◌+◌, ◌==◌, ◌&&◌, ◌||◌, false, if◌then◌else◌, ◌∷◌, ◌++◌, [], pos, ◌+ℤ◌, Some, None, refl, sym, ap, ap₂, arith, eq-eqb}
use Rattle.std.specs.Prelude.{nat_le, nat_lt}
use Rattle.std.proofs.lemmas.Bool.{lt-ltb}
use Rattle.std.proofs.lemmas.Bool.Decides.{nat_tests}
use Rattle.four_state.specs.Vector.{fill}
use Rattle.four_state.specs.declared.bit.Bit.TheVariants.{X}
use Rattle.design_model.specs.Assignment.{bit_writes, option_cell, writes_to}
use Rattle.design_model.specs.Design.{cell}
use Rattle.design_model.specs.Mentions.{has_cell}
use Rattle.process_targets.specs.Laws.{PartLaw}

one_more : (k w i : ℕ) → ((k == i) || (nat_le (k + 1) i && nat_lt i (k + 1 + w))) ≡ (nat_le k i && nat_lt i (k + suc w))
one_more k w i = grind (arith, nat_tests)

no_place : (k i : ℕ) → (nat_le k i && nat_lt i (k + 0)) ≡ false
no_place k i = grind (arith, nat_tests)

pub part_law : PartLaw
part_law s n zero k i h = sym (no_place k i)
part_law s n (suc w) k i h =
    ap (λ b. has_cell (writes_to (option_cell s (if b then Some k else None)) (X ∷ []) ++ bit_writes s n (pos k +ℤ pos 1) (fill w X)) (cell s i)) (lt-ltb k n (omega (arith, h)))
    ∙ ap₂ (λ p q. (p && (k == i)) || q) (eq-eqb s s refl) (part_law s n w (k + 1) i (omega (arith, h)))
    ∙ one_more k w i
