-- Partly known bits: each is sure with its value, or not known. What the operators give on them.
use Rattle.std.specs.Prelude.{◌≡◌, ℕ, zero, suc, Bool, true, false, not, ◌&&◌, ◌||◌, ◌==◌, if◌then◌else◌, List, [], ◌∷◌, ◌++◌, map, length, replicate, ℤ, Option, Some, None, ⊤}
use Rattle.std.specs.List.{list_all, list_any}
use Rattle.design_model.specs.four_state.declared.bit.Bit.{Bit}
use Rattle.design_model.specs.four_state.declared.bit.Bit.TheVariants.{Zero, One, X, Z}
use Rattle.design_model.specs.four_state.declared.truth.Truth.{Truth}
use Rattle.design_model.specs.four_state.declared.truth.Truth.TheVariants.{True, False, Strange}
use Rattle.design_model.specs.four_state.Vector.{same_bit, is_one, all_known, truth, fill, extend}
use Rattle.design_model.specs.four_state.Operators.{merge_bit, zip_bits, unary_value, binary_value, takes_same_shape, is_any}
use Rattle.design_model.specs.four_state.declared.operator.Unary.{Unary}
use Rattle.design_model.specs.four_state.declared.operator.Binary.{Binary}
use Rattle.design_model.specs.four_state.declared.operator.CaseKind.{CaseKind}
use Rattle.design_model.specs.four_state.Parts.{bits_from}
use Rattle.known_state.specs.Partly.{filled, are_sure}
use Rattle.known_state.specs.Join.{joined}
use Rattle.known_state.specs.Agreed.{agreed, moved, both_moved, both_agreed}
use Rattle.known_state.specs.Answers.{is_shift}

-- bits of which some are sure
abbrev pub KnownBits : Type 0
KnownBits = List (Option Bit)

-- the bit is one that may be there: any where nothing is known, else the sure one
abbrev pub Allows : Option Bit → Bit → Type 0
Allows None b = ⊤
Allows (Some a) b = a ≡ b

-- the vector is one of those that the sure bits allow
abbrev pub AllAllow : KnownBits → List Bit → Type 0
AllAllow [] [] = ⊤
AllAllow [] (b ∷ bs) = ⊥
AllAllow (p ∷ ps) [] = ⊥
AllAllow (p ∷ ps) (b ∷ bs) = Allows p b × AllAllow ps bs

-- the values that a bit can have
abbrev pub can : Option Bit → List Bit
can None = Zero ∷ One ∷ X ∷ Z ∷ []
can (Some b) = b ∷ []

-- the vector with one more bit at its low end, if there is one
abbrev pub prepend : Bit → Option (List Bit) → Option (List Bit)
prepend b None = None
prepend b (Some bs) = Some (b ∷ bs)

-- the vector, if all bits are sure
abbrev pub whole_bits : KnownBits → Option (List Bit)
whole_bits [] = Some []
whole_bits (None ∷ ps) = None
whole_bits (Some b ∷ ps) = prepend b (whole_bits ps)

-- there is a vector
abbrev pub is_whole : Option (List Bit) → Bool
is_whole None = false
is_whole (Some bs) = true

-- all bits are sure
abbrev pub all_sure : KnownBits → Bool
all_sure ps = is_whole (whole_bits ps)

-- a vector of which all bits are sure
abbrev pub sure : List Bit → KnownBits
sure bs = map Some bs

-- so many bits of which none is sure
abbrev pub unknown : ℕ → KnownBits
unknown n = replicate n None

-- what f gives of the vector, or x if not all bits are sure
abbrev pub on_whole : {A : Type 0} → Option (List Bit) → (List Bit → A) → A → A
on_whole None f x = x
on_whole (Some bs) f x = f bs

-- the bit is surely 1
abbrev pub is_sure_one : Option Bit → Bool
is_sure_one None = false
is_sure_one (Some b) = is_one b

-- the truth of the whole vector if all bits are sure; else True if some bit is surely 1
abbrev pub truth_from : Option (List Bit) → Bool → Option Truth
truth_from (Some bs) one = Some (truth bs)
truth_from None true = Some True
truth_from None false = None

-- the truth, if all allowed values have the same
abbrev pub known_truth : KnownBits → Option Truth
known_truth ps = truth_from (whole_bits ps) (list_any is_sure_one ps)

-- whether the truth is True
abbrev pub holds : Option Truth → Option Bool
holds None = None
holds (Some True) = Some true
holds (Some False) = Some false
holds (Some Strange) = Some false

-- where one answer is sure to be false, so is the whole
abbrev pub both : Option Bool → Option Bool → Option Bool
both (Some true) y = y
both (Some false) y = Some false
both None (Some false) = Some false
both None (Some true) = None
both None None = None

-- the answer that all of these give, if they agree
abbrev pub agreed_test : List Bool → Option Bool
agreed_test [] = None
agreed_test (b ∷ bs) = if b then (if list_all (λ c. c) bs then Some true else None) else (if list_any (λ c. c) bs then None else Some false)

-- whether a bit of a label matches a bit of the selector (IEEE 1364-2001, 9.5)
abbrev pub match_bit : CaseKind → Bit → Bit → Bool
match_bit kind b c = is_any kind b || is_any kind c || same_bit b c

-- whether they match, for each pair of values that the two bits can have
abbrev pub match_pairs : CaseKind → List Bit → List Bit → List Bool
match_pairs kind [] cs = []
match_pairs kind (b ∷ bs) cs = map (match_bit kind b) cs ++ match_pairs kind bs cs

-- whether a label matches, if all allowed values say the same
abbrev pub known_match : CaseKind → KnownBits → KnownBits → Option Bool
known_match kind [] [] = Some true
known_match kind (p ∷ ps) (q ∷ qs) = both (agreed_test (match_pairs kind (can p) (can q))) (known_match kind ps qs)
known_match kind _ _ = Some false

-- cut, or filled up by the top bit if signed and else by 0
abbrev pub extend_partly : ℕ → Bool → KnownBits → KnownBits
extend_partly w signed ps = moved (extend w signed) ps

-- an operator with one operand: each bit that is the same for all allowed values
abbrev pub unary_partly : Unary → KnownBits → KnownBits
unary_partly op ps = agreed (unary_value op) ps

-- a shift by an amount of which some bit is not sure, and none is sure to be x or z
abbrev pub is_unsure_shift : Binary → KnownBits → Bool
is_unsure_shift op qs = is_shift op && (not (are_sure qs) && all_known (filled Zero qs))

-- an operator with two operands: each bit that is the same for all allowed values; of a shift by an unsure amount none
abbrev pub binary_partly : Binary → Bool → KnownBits → KnownBits → KnownBits
binary_partly op signed ps qs = if is_unsure_shift op qs then unknown (length ps) else both_agreed (binary_value op signed) ps qs

-- the operands have the widths that the operator takes, or all their bits are sure
abbrev pub fits : Binary → KnownBits → KnownBits → Bool
fits op ps qs = (are_sure ps && are_sure qs) || (not (takes_same_shape op) || (length ps == length qs))

-- c ? a : b, of operands of equal width
abbrev pub choose_partly : Option Truth → KnownBits → KnownBits → KnownBits
choose_partly (Some True) ps qs = ps
choose_partly (Some False) ps qs = qs
choose_partly (Some Strange) ps qs = both_moved (zip_bits merge_bit) ps qs
choose_partly None ps qs = joined (joined ps qs) (both_moved (zip_bits merge_bit) ps qs)

-- so many bits from this offset up; outside they read x
abbrev pub select_option : KnownBits → Option ℤ → ℕ → KnownBits
select_option ps None w = sure (fill w X)
select_option ps (Some from) w = moved (λ xs. bits_from xs from w) ps

-- so many copies of the bits, one above the other
abbrev pub copies_partly : ℕ → KnownBits → KnownBits
copies_partly zero ps = []
copies_partly (suc n) ps = ps ++ copies_partly n ps
