-- `c ? a : b` on partly known vectors.
use Rattle.std.proofs.Common.{◌≡◌, ◌≢◌, ℕ, ◌<◌, Bool, true, false, if◌then◌else◌, List, [], ◌∷◌, length, get_or, Option, Some, None, refl, ap, sym, subst, ◌∙◌}
use Rattle.std.specs.Prelude.{IsTrue}
use Rattle.std.proofs.lemmas.Bool.{and_parts}
use Rattle.std.specs.Option.{unwrap_or}
use Rattle.four_state.specs.declared.bit.Bit.{Bit}
use Rattle.four_state.specs.declared.bit.Bit.TheVariants.{Zero, One, X}
use Rattle.four_state.specs.declared.truth.Truth.{Truth}
use Rattle.four_state.specs.declared.truth.Truth.TheVariants.{True, False, Strange}
use Rattle.four_state.specs.Vector.{Vector, same_bit}
use Rattle.four_state.specs.Operators.{merge_bit, zip_bits, choice_value, choice_vector}
use Rattle.known_state.specs.declared.maybe.KnownTruth.{KnownTruth}
use Rattle.known_state.specs.declared.maybe.KnownTruth.TheVariants as known
use Rattle.known_state.specs.Partly.{Partly, allows, allows_bits, allows_bit, same_sign, filled, is_whole, whole_of, with_blame}
use Rattle.known_state.specs.Join.{join_bit, joined, first_blame}
use Rattle.known_state.specs.Agreed.{sure, both_moved}
use Rattle.known_state.specs.Answers.{IsTight, HaveSameShape}
use Rattle.known_state.specs.Maybe.{same_truth, allows_truth, allow_choice, choice_blame}
use Rattle.known_state.specs.Choice.{chosen_of}
use Rattle.known_state.proofs.Bits.{length-joined, get_or-filled}
use Rattle.known_state.proofs.Allowed.{length-filled, filled_allowed, joined_left, joined_right, same_sign_refl, same_sign_eq}
use Rattle.known_state.proofs.Cases.{both_true}
use Rattle.known_state.proofs.Tight.{IsReached, reached-whole, reached-joined}
use Rattle.known_state.proofs.Matched.{on_pair}
use Rattle.known_state.proofs.Moved.{both_moved_exact}
use Rattle.known_state.proofs.UnarySound.{length-whole, length-two}
use Rattle.known_state.proofs.Widths.{length-zip_bits}
use Rattle.known_state.proofs.BinaryLaws.{vector_allowed, whole_parts}

-- ---- the merge of both sides

abbrev merges : Option Bit → Option Bit → Bit → Bit → Bool
merges p q b c = allows_bit (join_bit (Some (merge_bit (unwrap_or p Zero) (unwrap_or q Zero))) (Some (merge_bit (unwrap_or p One) (unwrap_or q One)))) (merge_bit b c)

merge_sound : (ps qs : List (Option Bit)) (bs cs : List Bit) → length ps ≡ length qs → allows_bits ps bs ≡ true → allows_bits qs cs ≡ true → allows_bits (both_moved (zip_bits merge_bit) ps qs) (zip_bits merge_bit bs cs) ≡ true
merge_sound [] qs [] cs e h k = refl
merge_sound [] qs (b ∷ bs) cs e h k = cc
merge_sound (p ∷ ps) qs [] cs e h k = cc
merge_sound (p ∷ ps) [] (b ∷ bs) cs e h k = cc
merge_sound (p ∷ ps) (q ∷ qs) (b ∷ bs) [] e h k = cc
merge_sound (p ∷ ps) (q ∷ qs) (b ∷ bs) (c ∷ cs) e h k =
    let left = and_parts (allows_bit p b) (allows_bits ps bs) h in
    let right = and_parts (allows_bit q c) (allows_bits qs cs) k in
    both_true _ _ (on_pair merges refl p q b c left.0 right.0) (merge_sound ps qs bs cs (cc) left.1 right.1)

same_truth_eq : (t u : Truth) → same_truth t u ≡ true → t ≡ u
same_truth_eq True True h = refl
same_truth_eq False False h = refl
same_truth_eq Strange Strange h = refl
same_truth_eq True False h = cc
same_truth_eq True Strange h = cc
same_truth_eq False True h = cc
same_truth_eq False Strange h = cc
same_truth_eq Strange True h = cc
same_truth_eq Strange False h = cc

same_truth_refl : (t : Truth) → same_truth t t ≡ true
same_truth_refl True = refl
same_truth_refl False = refl
same_truth_refl Strange = refl

-- the truth that a sure condition allows
sure_allows : (c : KnownTruth) (t u : Truth) → c ≡ known.Sure t → IsTrue (allows_truth c u) → t ≡ u
sure_allows c t u e h = same_truth_eq t u (subst (λ d. allows_truth d u ≡ true) e h)

module _ (a b : Partly) (shape : HaveSameShape a b) where
  filled_width : (c d : Bit) → length (zip_bits merge_bit (filled c a.bits) (filled d b.bits)) ≡ length a.bits
  filled_width c d = length-zip_bits merge_bit (filled c a.bits) (filled d b.bits) (length-filled c a.bits ∙ shape.0 ∙ sym (length-filled d b.bits)) ∙ length-filled c a.bits

  pub merge_widths : length (sure (zip_bits merge_bit (filled Zero a.bits) (filled Zero b.bits))) ≡ length (zip_bits merge_bit (filled One a.bits) (filled One b.bits))
  merge_widths = length-whole _ ∙ filled_width Zero Zero ∙ sym (filled_width One One)

  length-merged : length (both_moved (zip_bits merge_bit) a.bits b.bits) ≡ length a.bits
  length-merged = length-two _ _ (filled_width Zero Zero ∙ sym (filled_width One One)) ∙ filled_width Zero Zero

  pub join_widths : length (joined a.bits b.bits) ≡ length (both_moved (zip_bits merge_bit) a.bits b.bits)
  join_widths = length-joined a.bits b.bits shape.0 ∙ sym length-merged

  -- ---- a condition that is sure

  whole_allows : (u : Truth) (v w : Vector) → IsTrue (allows a v) → IsTrue (allows b w) → IsTrue (allows (chosen_of u a b) (choice_vector u v w))
  whole_allows True v w h k = h
  whole_allows False v w h k =
      let left = and_parts (same_sign a.signed v.signed) (allows_bits a.bits v.bits) h in
      let right = and_parts (same_sign b.signed w.signed) (allows_bits b.bits w.bits) k in
      both_true _ _ (subst (λ s. same_sign b.signed s ≡ true) (sym shape.1 ∙ same_sign_eq a.signed v.signed left.0) (same_sign_refl b.signed)) right.1
  whole_allows Strange v w h k =
      let left = and_parts (same_sign a.signed v.signed) (allows_bits a.bits v.bits) h in
      let right = and_parts (same_sign b.signed w.signed) (allows_bits b.bits w.bits) k in
      both_true _ _ left.0 (merge_sound a.bits b.bits v.bits w.bits shape.0 left.1 right.1)

  pub chosen_allows : (c : KnownTruth) (u : Truth) → c ≡ known.Sure u → (t : Truth) (v w : Vector) → IsTrue (allows_truth c t) → IsTrue (allows a v) → IsTrue (allows b w) → IsTrue (allows (chosen_of u a b) (choice_vector t v w))
  chosen_allows c u e t v w truth h k =
      subst (λ x. IsTrue (allows (chosen_of u a b) (choice_vector x v w))) (sure_allows c u t e truth) (whole_allows u v w h k)

  whole_exact : (u : Truth) (v w : Vector) → a ≡ whole_of v → b ≡ whole_of w → chosen_of u a b ≡ whole_of (choice_vector u v w)
  whole_exact True v w h k = h
  whole_exact False v w h k =
      k ∙ ap (λ s. record { bits = sure w.bits; signed = s; blame = 0 }) (sym (ap (λ (x : Partly). x.signed) k) ∙ sym shape.1 ∙ ap (λ (x : Partly). x.signed) h)
  whole_exact Strange v w h k = both_moved_exact (zip_bits merge_bit) a b v w a.signed (first_blame a b) h k ∙ rw (whole_parts a v h).2

  pub chosen_exact : (c : KnownTruth) (u : Truth) → c ≡ known.Sure u → (t : Truth) (v w : Vector) → c ≡ known.Sure t → a ≡ whole_of v → b ≡ whole_of w → chosen_of u a b ≡ whole_of (choice_vector t v w)
  chosen_exact c u e t v w d h k =
      let same : u ≡ t = let both : known.Sure u ≡ known.Sure t = sym e ∙ d in cc in
      subst (λ x. chosen_of u a b ≡ whole_of (choice_vector x v w)) same (whole_exact u v w h k)

  whole_blame : (u : Truth) → is_whole (chosen_of u a b) ≡ false → (chosen_of u a b).blame ≡ choice_blame (known.Sure u) a b
  whole_blame True h = refl
  whole_blame False h = refl
  whole_blame Strange h = ap (λ t. if t then 0 else first_blame a b) h

  pub chosen_blame : (c : KnownTruth) (u : Truth) → c ≡ known.Sure u → is_whole (chosen_of u a b) ≡ false → (chosen_of u a b).blame ≡ choice_blame c a b
  chosen_blame c u e h = whole_blame u h ∙ ap (λ d. choice_blame d a b) (sym e)

  -- ---- a condition that is not sure

  sides_allow : (t : Truth) (v w : Vector) → allows_bits a.bits v.bits ≡ true → allows_bits b.bits w.bits ≡ true → allows_bits (joined (joined a.bits b.bits) (both_moved (zip_bits merge_bit) a.bits b.bits)) (choice_value t v.bits w.bits) ≡ true
  sides_allow True v w h k = joined_left _ _ v.bits join_widths (joined_left a.bits b.bits v.bits shape.0 h)
  sides_allow False v w h k = joined_left _ _ w.bits join_widths (joined_right a.bits b.bits w.bits shape.0 k)
  sides_allow Strange v w h k = joined_right (joined a.bits b.bits) _ _ join_widths (merge_sound a.bits b.bits v.bits w.bits shape.0 h k)

  pub unsure_allows : (thing : ℕ) (t : Truth) (v w : Vector) → IsTrue (allows a v) → IsTrue (allows b w) → IsTrue (allows (with_blame (joined (joined a.bits b.bits) (both_moved (zip_bits merge_bit) a.bits b.bits)) a.signed thing) (choice_vector t v w))
  unsure_allows thing t v w h k =
      let left = and_parts (same_sign a.signed v.signed) (allows_bits a.bits v.bits) h in
      let right = and_parts (same_sign b.signed w.signed) (allows_bits b.bits w.bits) k in
      both_true _ _ left.0 (sides_allow t v w left.1 right.1)

-- ---- how sharp a choice is

zero_is_not_one : Zero ≢ One
zero_is_not_one e = let same : same_bit Zero One ≡ true = ap (same_bit Zero) (sym e) in cc

module _ (c : KnownTruth) (a b : Partly) (shape : HaveSameShape a b) where
  value_of : Bit → Partly → Vector
  value_of d k = record { bits = filled d k.bits; signed = k.signed }

  value_allowed : (t : Truth) (d : Bit) → IsTrue (allows_truth c t) → IsTrue (allow_choice c a b (t, value_of d a, value_of d b))
  unfolding value_of
  value_allowed t d h = both_true _ _ h (both_true _ _ (vector_allowed a (filled d a.bits) (filled_allowed d a.bits)) (vector_allowed b (filled d b.bits) (filled_allowed d b.bits)))

  -- the side that a truth chooses
  side_reached : (t : Truth) (ps : List (Option Bit)) → IsTrue (allows_truth c t) → ((d : Bit) → choice_value t (filled d a.bits) (filled d b.bits) ≡ filled d ps) → IsReached (allow_choice c a b) (λ p. choice_value p.0 p.1.bits p.2.bits) ps
  unfolding value_of
  side_reached t ps h is =
      record {
        tight = λ i l e. record {
          one = (t, value_of Zero a, value_of Zero b);
          other = (t, value_of One a, value_of One b);
          one_allowed = value_allowed t Zero h;
          other_allowed = value_allowed t One h;
          differ = λ d. zero_is_not_one (sym (at Zero i l ∙ ap (λ o. unwrap_or o Zero) e) ∙ d ∙ at One i l ∙ ap (λ o. unwrap_or o One) e);
        };
        given = λ i x l e. record { value = (t, value_of Zero a, value_of Zero b); is_allowed = value_allowed t Zero h; gives = at Zero i l ∙ ap (λ o. unwrap_or o Zero) e };
      }
    where
      at : (d : Bit) (i : ℕ) → i < length ps → get_or (choice_value t (filled d a.bits) (filled d b.bits)) i X ≡ unwrap_or (get_or ps i None) d
      at d i l = ap (λ xs. get_or xs i X) (is d) ∙ get_or-filled d ps i l

  merged_reached : IsTrue (allows_truth c Strange) → IsReached (allow_choice c a b) (λ p. choice_value p.0 p.1.bits p.2.bits) (both_moved (zip_bits merge_bit) a.bits b.bits)
  unfolding value_of
  merged_reached h =
      reached-joined (allow_choice c a b) (λ p. choice_value p.0 p.1.bits p.2.bits) _ _ (merge_widths a b shape ∙ sym (length-whole _)) (reached-whole (allow_choice c a b) (λ p. choice_value p.0 p.1.bits p.2.bits) (Strange, value_of Zero a, value_of Zero b) (value_allowed Strange Zero h)) (reached-whole (allow_choice c a b) (λ p. choice_value p.0 p.1.bits p.2.bits) (Strange, value_of One a, value_of One b) (value_allowed Strange One h))

  allowed_when : (t : Truth) → c ≡ known.Sure t → IsTrue (allows_truth c t)
  allowed_when t e = subst (λ d. allows_truth d t ≡ true) (sym e) (same_truth_refl t)

  whole_tight : (u : Truth) → IsTrue (allows_truth c u) → IsTight (allow_choice c a b) (λ p. choice_value p.0 p.1.bits p.2.bits) (chosen_of u a b).bits
  whole_tight True h = (side_reached True a.bits h (λ d. refl)).tight
  whole_tight False h = (side_reached False b.bits h (λ d. refl)).tight
  whole_tight Strange h = (merged_reached h).tight

  pub chosen_tight : (u : Truth) → c ≡ known.Sure u → IsTight (allow_choice c a b) (λ p. choice_value p.0 p.1.bits p.2.bits) (chosen_of u a b).bits
  chosen_tight u e = whole_tight u (allowed_when u e)

  pub unsure_tight : (thing : ℕ) → c ≡ known.Unsure thing → IsTight (allow_choice c a b) (λ p. choice_value p.0 p.1.bits p.2.bits) (joined (joined a.bits b.bits) (both_moved (zip_bits merge_bit) a.bits b.bits))
  unsure_tight thing e =
      let any : (t : Truth) → IsTrue (allows_truth c t) = λ t. ap (λ d. allows_truth d t) e in
      (reached-joined (allow_choice c a b) (λ p. choice_value p.0 p.1.bits p.2.bits) _ _ (join_widths a b shape) (reached-joined (allow_choice c a b) (λ p. choice_value p.0 p.1.bits p.2.bits) a.bits b.bits shape.0 (side_reached True a.bits (any True) (λ d. refl)) (side_reached False b.bits (any False) (λ d. refl))) (merged_reached (any Strange))).tight
