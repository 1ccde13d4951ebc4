-- What an operator with one operand gives for a few values of the bits that are not sure is so for all.
use Rattle.std.proofs.Common.{◌≡◌, ℕ, zero, suc, ◌<◌, true, false, if◌then◌else◌, List, [], ◌∷◌, map, length, get_or, Option, Some, None, pos, ◌-ℤ◌, ◌&&◌, refl, ap, arith, sym, subst, ◌∙◌}
use Rattle.std.specs.Prelude.{IsTrue}
use Rattle.std.proofs.lemmas.Bool.{and_parts}
use Rattle.std.proofs.lemmas.List.{length-map, get_or-map}
use Rattle.std.specs.Option.{unwrap_or}
use Rattle.four_state.specs.declared.bit.Bit.{Bit}
use Rattle.four_state.specs.declared.bit.Bit.TheVariants.{Zero, One, X}
use Rattle.four_state.specs.declared.operator.Unary.{Unary}
use Rattle.four_state.specs.declared.operator.Unary.TheVariants.{Positive, Negative, LogicalNot, BitwiseNot, ReduceAnd, ReduceNand, ReduceOr, ReduceNor, ReduceXor, ReduceXnor, ReduceNxor}
use Rattle.four_state.specs.Vector.{Vector, all_known, fill, truth, truth_bit, same_bit}
use Rattle.four_state.specs.Arithmetic.{cut, whole}
use Rattle.four_state.specs.Operators.{not_bit, and_bit, or_bit, xor_bit, reduce, unary_value, unary_vector, unary_keeps_sign}
use Rattle.known_state.specs.Partly.{Partly, allows, allows_bits, allows_bit, same_sign, filled, are_sure, is_whole, whole_of, blame_of, with_blame}
use Rattle.known_state.specs.Join.{join_bit, joined}
use Rattle.known_state.specs.Agreed.{sure, moved, agreed}
use Rattle.known_state.specs.Answers.{IsTight}
use Rattle.known_state.proofs.Bits.{length-joined, get_or-joined}
use Rattle.known_state.proofs.Allowed.{allowed_by_places, length-allowed, length-filled, join_some, joined_same, whole_filled, sure_filled, are_sure_whole, filled_allowed, same_sign_refl, same_sign_eq}
use Rattle.known_state.proofs.Tight.{IsReached, reached-whole, reached-joined}
use Rattle.known_state.proofs.Cases.{every, option_holds, every_holds, implies, implied, both_true, same_bit_refl, same_bit_eq}
use Rattle.known_state.proofs.Strict.{IsStrict, strict_if, strict_place, known_for_one, known_for_x, known-cut}
use Rattle.known_state.proofs.Reduced.{and_agrees, or_agrees, xor_agrees}
use Rattle.known_state.proofs.Truths.{truths, truths_hold}
use Rattle.known_state.proofs.Widths.{width_after, length-cut, length-unary_value}

pub whole_place : (bs : List Bit) (i : ℕ) (b : Bit) → i < length bs → get_or (sure bs) i None ≡ Some b → get_or bs i X ≡ b
whole_place bs i b l e = let k : Some (get_or bs i X) ≡ Some b = sym (get_or-map Some bs i X None l) ∙ e in cc

pub length-whole : (bs : List Bit) → length (sure bs) ≡ length bs
length-whole bs = length-map bs Some

-- two answers joined
pub two_places : (xs ys : List Bit) (i : ℕ) (b : Bit) → length xs ≡ length ys → i < length xs → get_or (joined (sure xs) (sure ys)) i None ≡ Some b → (get_or xs i X ≡ b) × (get_or ys i X ≡ b)
two_places xs ys i b e l h =
    let k = join_some _ _ b (sym (get_or-joined (sure xs) (sure ys) i (length-whole xs ∙ e ∙ sym (length-whole ys)) (rw length-whole l)) ∙ h) in
    (whole_place xs i b l k.0, whole_place ys i b (rw (← e) l) k.1)

-- one more
pub more_places : (ps : List (Option Bit)) (ys : List Bit) (i : ℕ) (b : Bit) → length ps ≡ length ys → i < length ps → get_or (joined ps (sure ys)) i None ≡ Some b → (get_or ps i None ≡ Some b) × (get_or ys i X ≡ b)
more_places ps ys i b e l h =
    let k = join_some _ _ b (sym (get_or-joined ps (sure ys) i (e ∙ sym (length-whole ys)) l) ∙ h) in
    (k.0, whole_place ys i b (rw (← e) l) k.1)

pub length-two : (xs ys : List Bit) → length xs ≡ length ys → length (joined (sure xs) (sure ys)) ≡ length xs
length-two xs ys e = length-joined (sure xs) (sure ys) (length-whole xs ∙ e ∙ sym (length-whole ys)) ∙ length-whole xs

pub length-more : (ps : List (Option Bit)) (ys : List Bit) → length ps ≡ length ys → length (joined ps (sure ys)) ≡ length ps
length-more ps ys e = length-joined ps (sure ys) (e ∙ sym (length-whole ys))

-- answers of one width
module _ (f : List Bit → List Bit) (ps : List (Option Bit)) (w : ℕ) (width : (cs : List Bit) → length cs ≡ length ps → length (f cs) ≡ w) where
  here : (b : Bit) → length (f (filled b ps)) ≡ w
  here b = width (filled b ps) (length-filled b ps)

  pub length-moved : length (moved f ps) ≡ w
  length-moved = length-two (f (filled Zero ps)) (f (filled One ps)) (here Zero ∙ sym (here One)) ∙ here Zero

  pub length-agreed : length (agreed f ps) ≡ w
  length-agreed = length-more (moved f ps) (f (filled X ps)) (length-moved ∙ sym (here X)) ∙ length-moved

  pub agreed_sound : (bs : List Bit) → allows_bits ps bs ≡ true → ((i : ℕ) (b : Bit) → i < w → get_or (f (filled Zero ps)) i X ≡ b → get_or (f (filled One ps)) i X ≡ b → get_or (f (filled X ps)) i X ≡ b → get_or (f bs) i X ≡ b) → allows_bits (agreed f ps) (f bs) ≡ true
  agreed_sound bs h each =
      allowed_by_places (agreed f ps) (f bs) (length-agreed ∙ sym (width bs (sym (length-allowed ps bs h)))) (λ i b l e. let k : i < w = rw length-agreed at l in
      let last = more_places (moved f ps) (f (filled X ps)) i b (length-moved ∙ sym (here X)) (rw length-moved k) e in
      let firsts = two_places (f (filled Zero ps)) (f (filled One ps)) i b (here Zero ∙ sym (here One)) (rw (here Zero) k) last.0 in
      each i b k firsts.0 firsts.1 last.1)

-- one bit
pub one_bit_sound : (g : List Bit → Bit) (ps : List (Option Bit)) (bs : List Bit) → allows_bits ps bs ≡ true → ((b : Bit) → g (filled Zero ps) ≡ b → g (filled One ps) ≡ b → g (filled X ps) ≡ b → g bs ≡ b) → allows_bits (agreed (λ cs. g cs ∷ []) ps) (g bs ∷ []) ≡ true
one_bit_sound g ps bs h each = agreed_sound (λ cs. g cs ∷ []) ps 1 (λ cs e. refl) bs h at
  where
    at : (i : ℕ) (b : Bit) → i < 1 → get_or (g (filled Zero ps) ∷ []) i X ≡ b → get_or (g (filled One ps) ∷ []) i X ≡ b → get_or (g (filled X ps) ∷ []) i X ≡ b → get_or (g bs ∷ []) i X ≡ b
    at zero b l p q r = each b p q r
    at (suc i) b l p q r = absurd (omega arith)

not_case : (p : Option Bit) (b : Bit) → allows_bit p b ≡ true → allows_bit (join_bit (join_bit (Some (not_bit (unwrap_or p Zero))) (Some (not_bit (unwrap_or p One)))) (Some (not_bit (unwrap_or p X)))) (not_bit b) ≡ true
not_case p b h =
    implied (allows_bit p b) _ (every_holds (λ c. implies (allows_bit p c) (allows_bit (join_bit (join_bit (Some (not_bit (unwrap_or p Zero))) (Some (not_bit (unwrap_or p One)))) (Some (not_bit (unwrap_or p X)))) (not_bit c))) (option_holds (λ o. every (λ c. implies (allows_bit o c) (allows_bit (join_bit (join_bit (Some (not_bit (unwrap_or o Zero))) (Some (not_bit (unwrap_or o One)))) (Some (not_bit (unwrap_or o X)))) (not_bit c)))) refl p) b) h

not_sound : (ps : List (Option Bit)) (bs : List Bit) → allows_bits ps bs ≡ true → allows_bits (agreed (map not_bit) ps) (map not_bit bs) ≡ true
not_sound [] [] h = refl
not_sound [] (b ∷ bs) h = cc
not_sound (p ∷ ps) [] h = cc
not_sound (p ∷ ps) (b ∷ bs) h =
    let parts = and_parts (allows_bit p b) (allows_bits ps bs) h in both_true _ _ (not_case p b parts.0) (not_sound ps bs parts.1)

module _ (ps : List (Option Bit)) (bs : List Bit) (h : allows_bits ps bs ≡ true) where
  strict : (g : List Bit → List Bit) → ((cs : List Bit) → length (g cs) ≡ length cs) → ((cs : List Bit) → all_known cs ≡ true → all_known (g cs) ≡ true) → IsStrict (length bs) (if all_known (filled One ps) then g (filled One ps) else fill (length (filled One ps)) X) (if all_known (filled X ps) then g (filled X ps) else fill (length (filled X ps)) X) (if all_known bs then g bs else fill (length bs) X)
  strict g width known =
      strict_if (all_known (filled One ps)) (all_known (filled X ps)) (all_known bs) _ _ (length bs) (g (filled One ps)) (g (filled X ps)) (g bs) (length-filled One ps ∙ length-allowed ps bs h) (length-filled X ps ∙ length-allowed ps bs h)
      (λ k. let e = known_for_x ps bs h k in (ap all_known e ∙ k, ap g e))
      (λ k. let one = known_for_one ps bs h k in (one, known (filled One ps) one))
      (width (filled One ps) ∙ length-filled One ps ∙ length-allowed ps bs h)

  by_strict : (op : Unary) → width_after (unary_keeps_sign op) (length ps) ≡ length ps → IsStrict (length bs) (unary_value op (filled One ps)) (unary_value op (filled X ps)) (unary_value op bs) → allows_bits (agreed (unary_value op) ps) (unary_value op bs) ≡ true
  by_strict op keeps s =
      agreed_sound (unary_value op) ps (length ps) (λ cs e. length-unary_value op cs ∙ ap (width_after (unary_keeps_sign op)) e ∙ keeps) bs h (λ i b l p q r. strict_place (length bs) _ _ _ i b s (rw (← length-allowed ps bs h) l) q r)

  truth_agrees : (b : Bit) → not_bit (truth_bit (truth (filled Zero ps))) ≡ b → not_bit (truth_bit (truth (filled One ps))) ≡ b → not_bit (truth_bit (truth (filled X ps))) ≡ b → not_bit (truth_bit (truth bs)) ≡ b
  truth_agrees b p q r =
      let same : same_bit (not_bit (truth_bit (truth (filled One ps)))) (not_bit (truth_bit (truth (filled X ps)))) ≡ true = ap (same_bit (not_bit (truth_bit (truth (filled One ps))))) (r ∙ sym q) ∙ same_bit_refl _ in
      sym (same_bit_eq _ _ (implied _ _ (truths_hold (λ t0 t1 tx t. implies (same_bit (not_bit (truth_bit t1)) (not_bit (truth_bit tx))) (same_bit (not_bit (truth_bit t1)) (not_bit (truth_bit t)))) refl (truths ps bs h)) same)) ∙ q

  pub unary_sound : (op : Unary) → allows_bits (agreed (unary_value op) ps) (unary_value op bs) ≡ true
  unary_sound Positive = by_strict Positive refl (strict (λ cs. cs) (λ cs. refl) (λ cs k. k))
  unary_sound Negative = by_strict Negative refl (strict (λ cs. cut (length cs) (pos 0 -ℤ whole false cs)) (λ cs. length-cut (length cs) _) (λ cs k. known-cut (length cs) _))
  unary_sound LogicalNot = one_bit_sound (λ cs. not_bit (truth_bit (truth cs))) ps bs h truth_agrees
  unary_sound BitwiseNot = not_sound ps bs h
  unary_sound ReduceAnd = one_bit_sound (reduce and_bit One) ps bs h (λ b p q r. sym (and_agrees ps bs h (ap not_bit (p ∙ sym q))) ∙ p)
  unary_sound ReduceNand = one_bit_sound (λ cs. not_bit (reduce and_bit One cs)) ps bs h (λ b p q r. ap not_bit (sym (and_agrees ps bs h (p ∙ sym q))) ∙ p)
  unary_sound ReduceOr = one_bit_sound (reduce or_bit Zero) ps bs h (λ b p q r. sym (or_agrees ps bs h (ap not_bit (q ∙ sym p))) ∙ q)
  unary_sound ReduceNor = one_bit_sound (λ cs. not_bit (reduce or_bit Zero cs)) ps bs h (λ b p q r. ap not_bit (sym (or_agrees ps bs h (q ∙ sym p))) ∙ q)
  unary_sound ReduceXor = one_bit_sound (reduce xor_bit Zero) ps bs h (λ b p q r. sym (xor_agrees ps bs h (ap not_bit (r ∙ sym p))) ∙ r)
  unary_sound ReduceXnor = one_bit_sound (λ cs. not_bit (reduce xor_bit Zero cs)) ps bs h (λ b p q r. ap not_bit (sym (xor_agrees ps bs h (r ∙ sym p))) ∙ r)
  unary_sound ReduceNxor = one_bit_sound (λ cs. not_bit (reduce xor_bit Zero cs)) ps bs h (λ b p q r. ap not_bit (sym (xor_agrees ps bs h (r ∙ sym p))) ∙ r)

-- ---- of partly known vectors

pub agreed_whole : (f : List Bit → List Bit) (bs : List Bit) → agreed f (sure bs) ≡ sure (f bs)
agreed_whole f bs =
    rw (whole_filled Zero bs, whole_filled One bs, whole_filled X bs, joined_same (f bs)) (joined_same (f bs))

pub agreed_sure : (f : List Bit → List Bit) (ps : List (Option Bit)) → are_sure ps ≡ true → agreed f ps ≡ sure (f (filled Zero ps))
agreed_sure f ps h =
    rw (sure_filled One Zero ps h, sure_filled X Zero ps h, joined_same (f (filled Zero ps))) (joined_same (f (filled Zero ps)))

pub blame_of-whole : (bs : List Bit) (thing : ℕ) → blame_of (sure bs) thing ≡ 0
blame_of-whole bs thing = ap (λ t. if t then 0 else thing) (are_sure_whole bs)

module _ (op : Unary) (k : Partly) where
  pub unary_allows : (v : Vector) → IsTrue (allows k v) → IsTrue (allows (with_blame (agreed (unary_value op) k.bits) (unary_keeps_sign op && k.signed) k.blame) (unary_vector op v))
  unary_allows v h =
      let parts = and_parts (same_sign k.signed v.signed) (allows_bits k.bits v.bits) h in
      both_true _ _ (subst (λ s. same_sign (unary_keeps_sign op && k.signed) (unary_keeps_sign op && s) ≡ true) (same_sign_eq k.signed v.signed parts.0) (same_sign_refl (unary_keeps_sign op && k.signed))) (unary_sound k.bits v.bits parts.1 op)

  filled_vector : Bit → Vector
  filled_vector b = record { bits = filled b k.bits; signed = k.signed }

  is_allowed : (b : Bit) → IsTrue (allows k (filled_vector b))
  unfolding filled_vector
  is_allowed b = both_true _ _ (same_sign_refl k.signed) (filled_allowed b k.bits)

  width : (cs : List Bit) → length cs ≡ length k.bits → length (unary_value op cs) ≡ width_after (unary_keeps_sign op) (length k.bits)
  width cs e = length-unary_value op cs ∙ ap (width_after (unary_keeps_sign op)) e

  pub unary_tight : IsTight (allows k) (λ v. unary_value op v.bits) (agreed (unary_value op) k.bits)
  unfolding filled_vector
  unary_tight =
      let answer : Vector → List Bit = λ v. unary_value op v.bits in
      let at : (b : Bit) → IsReached (allows k) answer (sure (unary_value op (filled b k.bits))) = λ b. reached-whole (allows k) answer (filled_vector b) (is_allowed b) in
      let same : (b c : Bit) → length (unary_value op (filled b k.bits)) ≡ length (unary_value op (filled c k.bits)) = λ b c. width (filled b k.bits) (length-filled b k.bits) ∙ sym (width (filled c k.bits) (length-filled c k.bits)) in
      (reached-joined (allows k) answer (moved (unary_value op) k.bits) (sure (unary_value op (filled X k.bits))) (length-moved (unary_value op) k.bits (width_after (unary_keeps_sign op) (length k.bits)) width ∙ sym (width (filled X k.bits) (length-filled X k.bits)) ∙ sym (length-whole (unary_value op (filled X k.bits)))) (reached-joined (allows k) answer (sure (unary_value op (filled Zero k.bits))) (sure (unary_value op (filled One k.bits))) (length-whole _ ∙ same Zero One ∙ sym (length-whole _)) (at Zero) (at One)) (at X)).tight

  pub unary_exact : (v : Vector) → k ≡ whole_of v → with_blame (agreed (unary_value op) k.bits) (unary_keeps_sign op && k.signed) k.blame ≡ whole_of (unary_vector op v)
  unary_exact v e =
      ap (λ (x : Partly). with_blame (agreed (unary_value op) x.bits) (unary_keeps_sign op && x.signed) x.blame) e ∙ ap (λ ps. with_blame ps (unary_keeps_sign op && v.signed) 0) (agreed_whole (unary_value op) v.bits) ∙ ap (λ n. record { bits = sure (unary_value op v.bits); signed = unary_keeps_sign op && v.signed; blame = n }) (blame_of-whole (unary_value op v.bits) 0)

  pub unary_whole : is_whole k ≡ true → whole_of (unary_vector op (record { bits = filled Zero k.bits; signed = k.signed })) ≡ with_blame (agreed (unary_value op) k.bits) (unary_keeps_sign op && k.signed) k.blame
  unary_whole h =
      sym (ap (λ ps. with_blame ps (unary_keeps_sign op && k.signed) k.blame) (agreed_sure (unary_value op) k.bits h) ∙ ap (λ n. record { bits = sure (unary_value op (filled Zero k.bits)); signed = unary_keeps_sign op && k.signed; blame = n }) (blame_of-whole (unary_value op (filled Zero k.bits)) k.blame))

  pub unary_widths : (b c : Bit) → length (unary_value op (filled b k.bits)) ≡ length (unary_value op (filled c k.bits))
  unary_widths b c = width (filled b k.bits) (length-filled b k.bits) ∙ sym (width (filled c k.bits) (length-filled c k.bits))

  pub unary_widths_moved : length (moved (unary_value op) k.bits) ≡ length (unary_value op (filled X k.bits))
  unary_widths_moved = length-moved (unary_value op) k.bits (width_after (unary_keeps_sign op) (length k.bits)) width ∙ sym (width (filled X k.bits) (length-filled X k.bits))
