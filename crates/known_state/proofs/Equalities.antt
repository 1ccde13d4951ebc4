-- Equality of two operands, for all vectors that are allowed.
use Rattle.std.proofs.Common.{◌≡◌, Bool, true, false, not, ◌&&◌, ◌||◌, if◌then◌else◌, List, [], ◌∷◌, length, Option, refl, ap, ap₂, sym, ◌∙◌, ⊎_elim}
use Rattle.std.specs.List.{list_any}
use Rattle.std.proofs.lemmas.Bool.{and_parts, or_parts, cases_Bool}
use Rattle.std.specs.Option.{unwrap_or}
use Rattle.four_state.specs.declared.bit.Bit.{Bit}
use Rattle.four_state.specs.declared.bit.Bit.TheVariants.{Zero, One, X, Z}
use Rattle.four_state.specs.Vector.{same_bit, same_bits, is_one, is_known, all_known}
use Rattle.four_state.specs.Operators.{not_bit, or_bit, xor_bit, reduce, zip_bits, equal, matches}
use Rattle.four_state.specs.declared.operator.CaseKind.TheVariants.{Exact}
use Rattle.four_state.proofs.ReductionLaws.{or_of_all}
use Rattle.four_state.proofs.MatchLaws.{exact_law}
use Rattle.known_state.specs.Partly.{allows_bits, allows_bit, filled, filled_from}
use Rattle.known_state.proofs.Cases.{implies, implied, both_true, same_bit_eq}
use Rattle.known_state.proofs.Matched.{on_pair, match_crossed, match_all}

-- whether two vectors differ in a 0 against a 1, and whether none of their bits is x or z
abbrev differs : List Bit → List Bit → Bool
differs bs cs = list_any is_one (zip_bits xor_bit bs cs)

abbrev known : List Bit → List Bit → Bool
known bs cs = all_known (zip_bits xor_bit bs cs)

or_more : (p q r s : Bool) → (p || q) ≡ true → (p ≡ true → r ≡ true) → (q ≡ true → s ≡ true) → (r || s) ≡ true
or_more true q r s h left right = let e = left refl in rw e refl
or_more false q true s h left right = refl
or_more false q false s h left right = right h

neither : (p q : Bool) → p ≡ false → q ≡ false → (p || q) ≡ false
neither false q h k = k
neither true q h k = cc

not_false : (p : Bool) → p ≡ false → not p ≡ true
not_false false h = refl
not_false true h = cc

not_true : (p : Bool) → not p ≡ true → p ≡ false
not_true false h = refl
not_true true h = cc

-- ---- what a few vectors say of all, at one place

abbrev differs_surely : Option Bit → Option Bit → Bit → Bit → Bool
differs_surely p q b c = implies (is_one (xor_bit (unwrap_or p X) (unwrap_or q X))) (is_one (xor_bit b c))

abbrev differs_nowhere : Option Bit → Option Bit → Bit → Bit → Bool
differs_nowhere p q b c =
    implies (not (is_one (xor_bit (unwrap_or p Zero) (unwrap_or q Zero)))) (implies (not (is_one (xor_bit (unwrap_or p One) (unwrap_or q One)))) (implies (not (is_one (xor_bit (unwrap_or p Zero) (unwrap_or q One)))) (not (is_one (xor_bit b c)))))

abbrev only_known : Option Bit → Option Bit → Bit → Bit → Bool
only_known p q b c = implies (is_known (xor_bit (unwrap_or p X) (unwrap_or q X))) (same_bit b (unwrap_or p X) && same_bit c (unwrap_or q X))

abbrev known_with_zero : Option Bit → Option Bit → Bit → Bit → Bool
known_with_zero p q b c = implies (is_known (xor_bit b c)) (is_known (xor_bit (unwrap_or p Zero) (unwrap_or q Zero)))

-- ---- and for whole vectors

surely : (ps qs : List (Option Bit)) (bs cs : List Bit) → allows_bits ps bs ≡ true → allows_bits qs cs ≡ true → differs (filled X ps) (filled X qs) ≡ true → differs bs cs ≡ true
surely [] qs bs cs h k d = cc
surely (p ∷ ps) [] bs cs h k d = cc
surely (p ∷ ps) (q ∷ qs) [] cs h k d = cc
surely (p ∷ ps) (q ∷ qs) (b ∷ bs) [] h k d = cc
surely (p ∷ ps) (q ∷ qs) (b ∷ bs) (c ∷ cs) h k d =
    let left = and_parts (allows_bit p b) (allows_bits ps bs) h in
    let right = and_parts (allows_bit q c) (allows_bits qs cs) k in
    or_more _ _ _ _ d (implied _ _ (on_pair differs_surely refl p q b c left.0 right.0)) (surely ps qs bs cs left.1 right.1)

nowhere : (ps qs : List (Option Bit)) (bs cs : List Bit) → allows_bits ps bs ≡ true → allows_bits qs cs ≡ true → differs (filled Zero ps) (filled Zero qs) ≡ false → differs (filled One ps) (filled One qs) ≡ false → differs (filled Zero ps) (filled One qs) ≡ false → differs bs cs ≡ false
nowhere ps qs [] cs h k u v w = refl
nowhere ps qs (b ∷ bs) [] h k u v w = refl
nowhere [] qs (b ∷ bs) (c ∷ cs) h k u v w = cc
nowhere (p ∷ ps) [] (b ∷ bs) (c ∷ cs) h k u v w = cc
nowhere (p ∷ ps) (q ∷ qs) (b ∷ bs) (c ∷ cs) h k u v w =
    let left = and_parts (allows_bit p b) (allows_bits ps bs) h in
    let right = and_parts (allows_bit q c) (allows_bits qs cs) k in
    let zeros = or_parts (is_one (xor_bit (unwrap_or p Zero) (unwrap_or q Zero))) (differs (filled Zero ps) (filled Zero qs)) u in
    let ones = or_parts (is_one (xor_bit (unwrap_or p One) (unwrap_or q One))) (differs (filled One ps) (filled One qs)) v in
    let mixed = or_parts (is_one (xor_bit (unwrap_or p Zero) (unwrap_or q One))) (differs (filled Zero ps) (filled One qs)) w in
    neither _ _ (not_true _ (implied _ _ (implied _ _ (implied _ _ (on_pair differs_nowhere refl p q b c left.0 right.0) (not_false _ zeros.0)) (not_false _ ones.0)) (not_false _ mixed.0))) (nowhere ps qs bs cs left.1 right.1 zeros.1 ones.1 mixed.1)

only : (ps qs : List (Option Bit)) (bs cs : List Bit) → length ps ≡ length qs → allows_bits ps bs ≡ true → allows_bits qs cs ≡ true → known (filled X ps) (filled X qs) ≡ true → (bs ≡ filled X ps) × (cs ≡ filled X qs)
only [] [] [] [] e h k d = (refl, refl)
only [] [] (b ∷ bs) cs e h k d = cc
only [] [] [] (c ∷ cs) e h k d = cc
only [] (q ∷ qs) bs cs e h k d = cc
only (p ∷ ps) [] bs cs e h k d = cc
only (p ∷ ps) (q ∷ qs) [] cs e h k d = cc
only (p ∷ ps) (q ∷ qs) (b ∷ bs) [] e h k d = cc
only (p ∷ ps) (q ∷ qs) (b ∷ bs) (c ∷ cs) e h k d =
    let left = and_parts (allows_bit p b) (allows_bits ps bs) h in
    let right = and_parts (allows_bit q c) (allows_bits qs cs) k in
    let both = and_parts (is_known (xor_bit (unwrap_or p X) (unwrap_or q X))) (known (filled X ps) (filled X qs)) d in
    let firsts : (same_bit b (unwrap_or p X) ≡ true) × (same_bit c (unwrap_or q X) ≡ true) = and_parts _ _ (implied _ _ (on_pair only_known refl p q b c left.0 right.0) both.0) in
    let rest = only ps qs bs cs (cc) left.1 right.1 both.1 in
    (ap₂ (λ x xs. x ∷ xs) (same_bit_eq _ _ firsts.0) rest.0, ap₂ (λ x xs. x ∷ xs) (same_bit_eq _ _ firsts.1) rest.1)

with_zero : (ps qs : List (Option Bit)) (bs cs : List Bit) → length ps ≡ length qs → allows_bits ps bs ≡ true → allows_bits qs cs ≡ true → known bs cs ≡ true → known (filled Zero ps) (filled Zero qs) ≡ true
with_zero [] qs bs cs e h k d = refl
with_zero (p ∷ ps) [] bs cs e h k d = cc
with_zero (p ∷ ps) (q ∷ qs) [] cs e h k d = cc
with_zero (p ∷ ps) (q ∷ qs) (b ∷ bs) [] e h k d = cc
with_zero (p ∷ ps) (q ∷ qs) (b ∷ bs) (c ∷ cs) e h k d =
    let left = and_parts (allows_bit p b) (allows_bits ps bs) h in
    let right = and_parts (allows_bit q c) (allows_bits qs cs) k in
    let both = and_parts (is_known (xor_bit b c)) (known bs cs) d in
    both_true _ _ (implied _ _ (on_pair known_with_zero refl p q b c left.0 right.0) both.0) (with_zero ps qs bs cs (cc) left.1 right.1 both.1)

-- ---- `==`

equal_by : Bool → Bool → Bit
equal_by d k = not_bit (if d then One else (if k then Zero else X))

equal_is : (bs cs : List Bit) → equal bs cs ≡ equal_by (differs bs cs) (known bs cs)
unfolding equal_by
equal_is bs cs = ap not_bit (or_of_all (zip_bits xor_bit bs cs))

equal_x : (d k : Bool) → equal_by d k ≡ X → (d ≡ false) × (k ≡ false)
unfolding equal_by
equal_x false false h = (refl, refl)
equal_x false true h = cc
equal_x true k h = cc

module _ (ps qs : List (Option Bit)) (bs cs : List Bit) (same : length ps ≡ length qs) (h : allows_bits ps bs ≡ true) (k : allows_bits qs cs ≡ true) (b : Bit) (of_zeros : equal (filled Zero ps) (filled Zero qs) ≡ b) (of_ones : equal (filled One ps) (filled One qs) ≡ b) (of_mixed : equal (filled Zero ps) (filled One qs) ≡ b) (of_strange : equal (filled X ps) (filled X qs) ≡ b) where
  differing : differs (filled X ps) (filled X qs) ≡ true → equal bs cs ≡ b
  unfolding equal_by
  differing d =
      equal_is bs cs ∙ ap (λ t. equal_by t (known bs cs)) (surely ps qs bs cs h k d) ∙ sym (equal_is (filled X ps) (filled X qs) ∙ ap (λ t. equal_by t (known (filled X ps) (filled X qs))) d) ∙ of_strange

  unsure : differs (filled X ps) (filled X qs) ≡ false → known (filled X ps) (filled X qs) ≡ false → equal bs cs ≡ b
  unfolding equal_by
  unsure d n =
      let is_x : b ≡ X = sym of_strange ∙ equal_is (filled X ps) (filled X qs) ∙ ap₂ equal_by d n in
      let at_zeros = equal_x _ _ (sym (equal_is (filled Zero ps) (filled Zero qs)) ∙ of_zeros ∙ is_x) in
      let at_ones = equal_x _ _ (sym (equal_is (filled One ps) (filled One qs)) ∙ of_ones ∙ is_x) in
      let at_mixed = equal_x _ _ (sym (equal_is (filled Zero ps) (filled One qs)) ∙ of_mixed ∙ is_x) in
      let strange : known bs cs ≡ false = ⊎_elim (λ t. let both : true ≡ false = sym (with_zero ps qs bs cs same h k t) ∙ at_zeros.1 in cc) (λ f. f) (cases_Bool (known bs cs)) in
      equal_is bs cs ∙ ap₂ equal_by (nowhere ps qs bs cs h k at_zeros.0 at_ones.0 at_mixed.0) strange ∙ sym is_x

  pub equal_agrees : equal bs cs ≡ b
  equal_agrees =
      ⊎_elim differing (λ d. ⊎_elim (λ n. let o = only ps qs bs cs same h k n in ap₂ equal o.0 o.1 ∙ of_strange) (unsure d) (cases_Bool (known (filled X ps) (filled X qs)))) (cases_Bool (differs (filled X ps) (filled X qs)))

-- ---- `!=`

not_thrice : (b : Bit) → not_bit (not_bit (not_bit b)) ≡ not_bit b
not_thrice Zero = refl
not_thrice One = refl
not_thrice X = refl
not_thrice Z = refl

back : (bs cs : List Bit) (b : Bit) → not_bit (equal bs cs) ≡ b → equal bs cs ≡ not_bit b
back bs cs b e = sym (not_thrice (reduce or_bit Zero (zip_bits xor_bit bs cs))) ∙ ap not_bit e

pub unequal_agrees : (ps qs : List (Option Bit)) (bs cs : List Bit) → length ps ≡ length qs → allows_bits ps bs ≡ true → allows_bits qs cs ≡ true → (b : Bit) → not_bit (equal (filled Zero ps) (filled Zero qs)) ≡ b → not_bit (equal (filled One ps) (filled One qs)) ≡ b → not_bit (equal (filled Zero ps) (filled One qs)) ≡ b → not_bit (equal (filled X ps) (filled X qs)) ≡ b → not_bit (equal bs cs) ≡ b
unequal_agrees ps qs bs cs same h k b p q r s =
    ap not_bit (equal_agrees ps qs bs cs same h k (not_bit b) (back (filled Zero ps) (filled Zero qs) b p) (back (filled One ps) (filled One qs) b q) (back (filled Zero ps) (filled One qs) b r) (back (filled X ps) (filled X qs) b s)) ∙ sym (ap (λ x. not_bit (not_bit x)) p) ∙ not_thrice (equal (filled Zero ps) (filled Zero qs)) ∙ p

-- ---- `===`

-- the tests of what five pairs of vectors give are equal only where all vectors give that
pub exact_agrees : (f : Bool → Bit) → ((s t : Bool) → f s ≡ f t → s ≡ t) → (ps qs : List (Option Bit)) (bs cs : List Bit) → length ps ≡ length qs → allows_bits ps bs ≡ true → allows_bits qs cs ≡ true → (b : Bit) → f (same_bits (filled Zero ps) (filled Zero qs)) ≡ b → f (same_bits (filled One ps) (filled One qs)) ≡ b → f (same_bits (filled Zero ps) (filled One qs)) ≡ b → f (same_bits (filled_from ps (filled Zero qs)) (filled_from qs (filled Zero ps))) ≡ b → f (same_bits bs cs) ≡ b
exact_agrees f one ps qs bs cs same h k b p q r s = ⊎_elim equal other (cases_Bool (same_bits (filled_from ps (filled Zero qs)) (filled_from qs (filled Zero ps))))
  where
    equal : same_bits (filled_from ps (filled Zero qs)) (filled_from qs (filled Zero ps)) ≡ true → f (same_bits bs cs) ≡ b
    equal e =
        let at : (xs ys : List Bit) → f (same_bits xs ys) ≡ b → matches Exact xs ys ≡ true = λ xs ys d. exact_law xs ys ∙ one (same_bits xs ys) (same_bits (filled_from ps (filled Zero qs)) (filled_from qs (filled Zero ps))) (d ∙ sym s) ∙ e in
        ap f (sym (exact_law bs cs) ∙ match_all Exact ps qs bs cs same h k (at (filled Zero ps) (filled Zero qs) p) (at (filled One ps) (filled One qs) q) (at (filled Zero ps) (filled One qs) r)) ∙ sym (ap f e) ∙ s

    other : same_bits (filled_from ps (filled Zero qs)) (filled_from qs (filled Zero ps)) ≡ false → f (same_bits bs cs) ≡ b
    other e =
        ⊎_elim (λ t. let bad : true ≡ false = sym (match_crossed Exact ps qs bs cs h k (exact_law bs cs ∙ t)) ∙ exact_law (filled_from ps (filled Zero qs)) (filled_from qs (filled Zero ps)) ∙ e in cc) (λ t. ap f t ∙ sym (ap f e) ∙ s) (cases_Bool (same_bits bs cs))
