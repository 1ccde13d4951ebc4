-- Where the bit with an index is in a signal, and what a part from there may write.
use Rattle.std.proofs.Common.{◌≡◌, ◌∙◌, ⊎_elim, ℕ, zero, suc, ◌+◌, ◌<◌, ◌≤◌, ◌==◌, ◌&&◌, ◌||◌, Bool, true, false, not, List, [], ◌∷◌, length, get_or, ℤ, pos, Option, Some, None, refl, sym, ap, ap₂, subst, arith, eq-eqb}
use Rattle.std.specs.Prelude.{nat_le, nat_lt, slice_get}
use Rattle.std.specs.List.{list_all}
use Rattle.std.proofs.lemmas.Bool.{and_from, and_parts, cases_lt, eqb-true, leb-true}
use Rattle.std.proofs.lemmas.Bool.Decides.{nat_tests}
use Rattle.std.proofs.lemmas.List.{get_or_past}
use Rattle.std.proofs.lemmas.Option.{get_or_from_slice_get, slice_get-get_or, slice_get_within}
use Rattle.four_state.specs.Parts.{index}
use Rattle.four_state.specs.Vector.{Vector, fill}
use Rattle.four_state.specs.declared.bit.Bit.TheVariants.{X}
use Rattle.design_model.specs.Assignment.{bit_writes_option, signal_range}
use Rattle.design_model.specs.Design.{Design, cell, no_signal, signal_at}
use Rattle.design_model.specs.declared.design.Signal.{Signal}
use Rattle.design_model.specs.Lawful.{IsLawfulDesign, is_signal, span}
use Rattle.design_model.specs.Mentions.{blank, has_cell, is_constant, may_write}
use Rattle.design_model.specs.Tree.{Term, bits_of}
use Rattle.design_model.specs.Value.{head, offset_option, value}
use Rattle.design_model.specs.WellFormed.{are_among}
use Rattle.design_targets.specs.Written.{IsConstantValue, smallest_design}
use Rattle.design_targets.proofs.Constants.{same_value}
use Rattle.process_targets.specs.Targets.{IsRightLeaf, is_sized, range_in}
use Rattle.process_targets.proofs.PartLaw.{part_law}

pub sized_parts : (s : Signal) → is_sized s ≡ true → (1 ≤ s.width) × (s.width ≤ 128) × (s.width ≡ span s.high s.low)
sized_parts s h =
    let p = and_parts (nat_le 1 s.width) _ h in
    let q = and_parts (nat_le s.width 128) _ p.1 in
    (leb-true 1 s.width p.0, leb-true s.width 128 q.0, eqb-true s.width (span s.high s.low) q.1)

and_true : (b : Bool) → (b && true) ≡ b
and_true true = refl
and_true false = refl

pub and_none : (b : Bool) → (b && false) ≡ false
and_none true = refl
and_none false = refl

both_inside : (i k w n : ℕ) → k + w ≤ n → (nat_lt i n && (nat_le k i && nat_lt i (k + w))) ≡ (nat_le k i && nat_lt i (k + w))
both_inside i k w n h = grind (arith, nat_tests, h)

module _ (d : Design) (s : ℕ) (low : Term) (w i : ℕ) where
  abbrev n : ℕ
  n = (signal_at d s).width

  abbrev pub begins : Option ℤ
  begins = offset_option (signal_range d s) (index (head low).signed (value d blank low))

  pub may_part : (b : Bool) (o : Option ℤ) → is_constant low ≡ b → begins ≡ o → may_write d (bits_of s low w) (cell s i) ≡ (nat_lt i n && (not b || has_cell (bit_writes_option s n o (fill w X)) (cell s i)))
  may_part b o c e =
      ap (λ p. p && (nat_lt i n && (not (is_constant low) || has_cell (bit_writes_option s n begins (fill w X)) (cell s i)))) (eq-eqb s s refl)
      ∙ ap₂ (λ q z. nat_lt i n && (not q || has_cell (bit_writes_option s n z (fill w X)) (cell s i))) c e

  -- a part by an index that is not constant may write any bit
  pub any_part : is_constant low ≡ false → may_write d (bits_of s low w) (cell s i) ≡ nat_lt i n
  any_part c = may_part false begins c refl ∙ and_true (nat_lt i n)

  -- one by a constant index writes the bits from there
  pub known_part : (k : ℕ) → is_constant low ≡ true → begins ≡ Some (pos k) → k + w ≤ n → may_write d (bits_of s low w) (cell s i) ≡ (nat_le k i && nat_lt i (k + w))
  known_part k c e h = may_part true (Some (pos k)) c e ∙ ap (λ b. nat_lt i n && b) (part_law s n w k i h) ∙ both_inside i k w n h

  -- and by one with an x or z none
  pub no_part : is_constant low ≡ true → begins ≡ None → may_write d (bits_of s low w) (cell s i) ≡ false
  no_part c e = may_part true None c e ∙ and_none (nat_lt i n)

all_at : (f : Signal → Bool) (xs : List Signal) (s : ℕ) → list_all f xs ≡ true → s < length xs → f (get_or xs s no_signal) ≡ true
all_at f [] s all below = absurd (omega (arith, below))
all_at f (x ∷ xs) zero all below = (and_parts (f x) (list_all f xs) all).0
all_at f (x ∷ xs) (suc s) all below = all_at f xs s (and_parts (f x) (list_all f xs) all).1 (omega (arith, below))

-- the signals of a lawful design have their sizes
pub signal_sized : (d : Design) (s : ℕ) → IsLawfulDesign d → s < length d.signals → is_sized (signal_at d s) ≡ true
signal_sized d s lawful below =
    let p4 = and_parts _ _ (all_at (is_signal d) d.signals s lawful.signals below) in
    let p3 = and_parts _ ((signal_at d s).width == span (signal_at d s).high (signal_at d s).low) p4.0 in
    let p2 = and_parts _ (nat_le (signal_at d s).width 128) p3.0 in
    let p1 = and_parts (nat_lt (signal_at d s).instance (length d.instances)) (nat_le 1 (signal_at d s).width) p2.0 in
    and_from (nat_le 1 (signal_at d s).width) _ p1.1 (and_from (nat_le (signal_at d s).width 128) _ p2.1 p3.1)

-- none has more than 128 bits
pub signal_narrow : (d : Design) (s : ℕ) → IsLawfulDesign d → (signal_at d s).width ≤ 128
signal_narrow d s lawful =
    ⊎_elim (λ l. (sized_parts (signal_at d s) (signal_sized d s lawful l)).1) (λ l. ap_width (get_or_past d.signals s no_signal l)) (cases_lt s (length d.signals))
  where
    ap_width : signal_at d s ≡ no_signal → (signal_at d s).width ≤ 128
    ap_width e = omega (arith, ap (λ x. x.width) e)

-- a signal that was found
pub found_signal : (d : Design) (s : ℕ) (x : Signal) → Some x ≡ slice_get d.signals s → x ≡ signal_at d s
found_signal d s x e = sym (get_or_from_slice_get d.signals s x no_signal (sym e))

-- has its size
pub is_sized_found : (d : Design) (s : ℕ) (x : Signal) → IsLawfulDesign d → Some x ≡ slice_get d.signals s → is_sized x ≡ true
is_sized_found d s x lawful e = subst (λ y. is_sized y ≡ true) (sym (found_signal d s x e)) (signal_sized d s lawful (slice_get_within d.signals s x (sym e)))

pub sized_found : (d : Design) (s : ℕ) (x : Signal) → IsLawfulDesign d → Some x ≡ slice_get d.signals s → (1 ≤ x.width) × (x.width ≤ 128) × (x.width ≡ span x.high x.low)
sized_found d s x lawful e =
    sized_parts x (is_sized_found d s x lawful e)

none_below : (i : ℕ) → nat_lt i 0 ≡ false
none_below i = grind (arith, nat_tests)

-- the places from the first one up
pub from_zero : (i n : ℕ) → (nat_le 0 i && nat_lt i (0 + n)) ≡ nat_lt i n
from_zero i n = grind (arith, nat_tests)

some_none : (x : Signal) → None ≡ Some x → ⊥
some_none x e = cc

-- one that was not found has no places
pub no_places : (d : Design) (s i : ℕ) → None ≡ slice_get d.signals s → nat_lt i (signal_at d s).width ≡ false
no_places d s i e =
    ⊎_elim (λ l. absurd (some_none (get_or d.signals s no_signal) (e ∙ slice_get-get_or d.signals s no_signal l))) (λ past. ap (λ x. nat_lt i x.width) (get_or_past d.signals s no_signal past) ∙ none_below i) (cases_lt s (length d.signals))

-- a part of no signal
pub part_of_none : (d : Design) (s : ℕ) (low : Term) (w i : ℕ) → None ≡ slice_get d.signals s → may_write d (bits_of s low w) (cell s i) ≡ false
part_of_none d s low w i e = may_part d s low w i (is_constant low) (begins d s low w i) refl refl ∙ ap (λ b. b && (not (is_constant low) || has_cell (bit_writes_option s (signal_at d s).width (begins d s low w i) (fill w X)) (cell s i))) (no_places d s i e)

-- a part of a signal that was found, by a constant index of this value
module _ (d : Design) (s : ℕ) (low : Term) (w : ℕ) (x : Signal) (v : Vector) (e : x ≡ signal_at d s) (c : is_constant low ≡ true) (is : IsConstantValue low v) where
  pub begins_at : offset_option (range_in x) (index v.signed v.bits) ≡ offset_option (signal_range d s) (index (head low).signed (value d blank low))
  begins_at =
      ap (λ y. offset_option (range_in y) (index v.signed v.bits)) e
      ∙ ap₂ (λ g bs. offset_option (signal_range d s) (index g bs)) is.1 (is.0 ∙ same_value smallest_design d low c)

  pub inside_found : IsRightLeaf d (s, Some (low, w)) → are_among x.width w (offset_option (range_in x) (index v.signed v.bits)) ≡ true
  inside_found right =
      ap₂ (λ (y : Signal) o. are_among y.width w o) e begins_at
      ∙ ap (λ b. not b || are_among (signal_at d s).width w (offset_option (signal_range d s) (index (head low).signed (value d blank low)))) (sym c)
      ∙ right.2

  pub fits_found : IsRightLeaf d (s, Some (low, w)) → (k : ℕ) → Some (pos k) ≡ offset_option (range_in x) (index v.signed v.bits) → k + w ≤ (signal_at d s).width
  fits_found right k at =
      leb-true (k + w) (signal_at d s).width (ap (λ (y : Signal). nat_le (k + w) y.width) (sym e) ∙ ap (are_among x.width w) at ∙ inside_found right)
