-- Parts, extension and concatenation: bits that are only moved.
use Rattle.std.proofs.Common.{◌≡◌, ℕ, zero, suc, Bool, true, false, if◌then◌else◌, List, [], ◌∷◌, ◌++◌, length, Option, Some, None, ℤ, pos, ◌+ℤ◌, refl, ap, ap₂, arith, sym, subst, ◌∙◌}
use Rattle.std.specs.Prelude.{IsTrue}
use Rattle.std.proofs.lemmas.Bool.{and_parts}
use Rattle.std.proofs.lemmas.List.{length-append}
use Rattle.std.specs.Option.{unwrap_or}
use Rattle.four_state.specs.declared.bit.Bit.{Bit}
use Rattle.four_state.specs.declared.bit.Bit.TheVariants.{Zero, One, X}
use Rattle.four_state.specs.Vector.{Vector, top, fit, extend}
use Rattle.four_state.specs.Parts.{within, option_bit, bits_from, bit_or_part, bits_with, extended_vector, selected_vector, appended_vector}
use Rattle.known_state.specs.Partly.{Partly, allows, allows_bits, allows_bit, same_sign, filled, whole_of, with_blame}
use Rattle.known_state.specs.Join.{join_bit, joined}
use Rattle.known_state.specs.Agreed.{sure, moved, both_moved}
use Rattle.known_state.specs.Answers.{IsTight, allow_both}
use Rattle.known_state.proofs.Allowed.{length-allowed, length-filled, join_some, joined_same, whole_filled, filled_allowed, same_sign_refl, same_sign_eq}
use Rattle.known_state.proofs.Cases.{both_true, same_bit_refl}
use Rattle.known_state.proofs.Tight.{IsReached, reached-whole, reached-joined}
use Rattle.known_state.proofs.Shifted.{moved_bit, moved_at, moved_filler}
use Rattle.known_state.proofs.UnarySound.{length-whole}
use Rattle.known_state.proofs.BinaryLaws.{vector_allowed, whole_parts, whole_with_blame, moved_reached}

-- two bits joined allow what is the same as both, where these are the same
pub joined_two : (x y z : Bit) → ((b : Bit) → x ≡ b → y ≡ b → z ≡ b) → allows_bit (join_bit (Some x) (Some y)) z ≡ true
joined_two x y z h = go (join_bit (Some x) (Some y)) refl
  where
    some : (b : Bit) → Some x ≡ Some b → x ≡ b
    some b e = cc

    other : (b : Bit) → Some y ≡ Some b → y ≡ b
    other b e = cc

    go : (o : Option Bit) → join_bit (Some x) (Some y) ≡ o → allows_bit o z ≡ true
    go None e = refl
    go (Some b) e = let k = join_some (Some x) (Some y) b e in rw (h b (some b k.0) (other b k.1)) (same_bit_refl b)

-- ---- at each place

moved_option : (ps : List (Option Bit)) (bs : List Bit) (o : Option ℕ) (b : Bit) → allows_bits ps bs ≡ true → option_bit (filled Zero ps) o ≡ b → option_bit (filled One ps) o ≡ b → option_bit bs o ≡ b
moved_option ps bs None b h e f = e
moved_option ps bs (Some i) b h e f = moved_at ps bs i X X X b h (λ x y. x) e f

pub select_sound : (ps : List (Option Bit)) (bs : List Bit) (w : ℕ) (from : ℤ) → allows_bits ps bs ≡ true → allows_bits (moved (λ xs. bits_from xs from w) ps) (bits_from bs from w) ≡ true
select_sound ps bs zero from h = refl
select_sound ps bs (suc w) from h =
    let at : (xs : List Bit) → length xs ≡ length bs → option_bit xs (within (length xs) from) ≡ option_bit xs (within (length bs) from) = λ xs e. ap (λ n. option_bit xs (within n from)) e in
    let zeros = at (filled Zero ps) (length-filled Zero ps ∙ length-allowed ps bs h) in
    let ones = at (filled One ps) (length-filled One ps ∙ length-allowed ps bs h) in
    both_true _ _ (joined_two _ _ _ (λ b e f. moved_option ps bs (within (length bs) from) b h (sym zeros ∙ e) (sym ones ∙ f))) (select_sound ps bs w (from +ℤ pos 1) h)

pub length-bits_from : (bs : List Bit) (w : ℕ) (from : ℤ) → length (bits_from bs from w) ≡ w
length-bits_from bs zero from = refl
length-bits_from bs (suc w) from = ap suc (length-bits_from bs w (from +ℤ pos 1))

moved_part : (p : Option Bit) (c : Bit) (qs : List (Option Bit)) (cs : List Bit) (o : Option ℕ) (b : Bit) → allows_bit p c ≡ true → allows_bits qs cs ≡ true → bit_or_part (unwrap_or p Zero) (filled Zero qs) o ≡ b → bit_or_part (unwrap_or p One) (filled One qs) o ≡ b → bit_or_part c cs o ≡ b
moved_part p c qs cs None b h k e f = moved_bit p c b h e f
moved_part p c qs cs (Some i) b h k e f = moved_at qs cs i (unwrap_or p Zero) (unwrap_or p One) c b k (moved_bit p c b h) e f

pub place_sound : (ps qs : List (Option Bit)) (bs cs : List Bit) (from : ℤ) → allows_bits ps bs ≡ true → allows_bits qs cs ≡ true → allows_bits (both_moved (λ xs ys. bits_with xs ys from) ps qs) (bits_with bs cs from) ≡ true
place_sound [] qs [] cs from h k = refl
place_sound [] qs (b ∷ bs) cs from h k = cc
place_sound (p ∷ ps) qs [] cs from h k = cc
place_sound (p ∷ ps) qs (c ∷ bs) cs from h k =
    let here = and_parts (allows_bit p c) (allows_bits ps bs) h in
    let at : (d : Bit) (ys : List Bit) → length ys ≡ length cs → bit_or_part d ys (within (length ys) from) ≡ bit_or_part d ys (within (length cs) from) = λ d ys e. ap (λ n. bit_or_part d ys (within n from)) e in
    let zeros = at (unwrap_or p Zero) (filled Zero qs) (length-filled Zero qs ∙ length-allowed qs cs k) in
    let ones = at (unwrap_or p One) (filled One qs) (length-filled One qs ∙ length-allowed qs cs k) in
    both_true _ _ (joined_two _ _ _ (λ b e f. moved_part p c qs cs (within (length cs) from) b here.0 k (sym zeros ∙ e) (sym ones ∙ f))) (place_sound ps qs bs cs (from +ℤ pos 1) here.1 k)

pub length-bits_with : (bs part : List Bit) (from : ℤ) → length (bits_with bs part from) ≡ length bs
length-bits_with [] part from = refl
length-bits_with (b ∷ bs) part from = ap suc (length-bits_with bs part (from +ℤ pos 1))

moved_self : (ps : List (Option Bit)) (bs : List Bit) → allows_bits ps bs ≡ true → allows_bits (joined (sure (filled Zero ps)) (sure (filled One ps))) bs ≡ true
moved_self [] [] h = refl
moved_self [] (b ∷ bs) h = cc
moved_self (p ∷ ps) [] h = cc
moved_self (p ∷ ps) (c ∷ bs) h =
    let here = and_parts (allows_bit p c) (allows_bits ps bs) h in
    both_true _ _ (joined_two _ _ _ (λ b e f. moved_bit p c b here.0 e f)) (moved_self ps bs here.1)

pub append_sound : (ps qs : List (Option Bit)) (bs cs : List Bit) → allows_bits ps bs ≡ true → allows_bits qs cs ≡ true → allows_bits (both_moved (λ xs ys. ys ++ xs) ps qs) (cs ++ bs) ≡ true
append_sound ps [] bs [] h k = moved_self ps bs h
append_sound ps [] bs (c ∷ cs) h k = cc
append_sound ps (q ∷ qs) bs [] h k = cc
append_sound ps (q ∷ qs) bs (c ∷ cs) h k =
    let here = and_parts (allows_bit q c) (allows_bits qs cs) k in
    both_true _ _ (joined_two _ _ _ (λ b e f. moved_bit q c b here.0 e f)) (append_sound ps qs bs cs h here.1)

fit_sound : (w : ℕ) (d0 d1 d : Bit) (ps : List (Option Bit)) (bs : List Bit) → ((b : Bit) → d0 ≡ b → d1 ≡ b → d ≡ b) → allows_bits ps bs ≡ true → allows_bits (joined (sure (fit w d0 (filled Zero ps))) (sure (fit w d1 (filled One ps)))) (fit w d bs) ≡ true
fit_sound zero d0 d1 d ps bs m h = refl
fit_sound (suc w) d0 d1 d [] [] m h = both_true _ _ (joined_two d0 d1 d m) (fit_sound w d0 d1 d [] [] m h)
fit_sound (suc w) d0 d1 d [] (c ∷ bs) m h = cc
fit_sound (suc w) d0 d1 d (p ∷ ps) [] m h = cc
fit_sound (suc w) d0 d1 d (p ∷ ps) (c ∷ bs) m h =
    let here = and_parts (allows_bit p c) (allows_bits ps bs) h in
    both_true _ _ (joined_two _ _ _ (λ b e f. moved_bit p c b here.0 e f)) (fit_sound w d0 d1 d ps bs m here.1)

pub length-fit : (w : ℕ) (d : Bit) (bs : List Bit) → length (fit w d bs) ≡ w
length-fit zero d bs = refl
length-fit (suc w) d [] = ap suc (length-fit w d [])
length-fit (suc w) d (b ∷ bs) = ap suc (length-fit w d bs)

pub extend_sound : (w : ℕ) (s : Bool) (ps : List (Option Bit)) (bs : List Bit) → allows_bits ps bs ≡ true → allows_bits (moved (extend w s) ps) (extend w s bs) ≡ true
extend_sound w s ps bs h =
    fit_sound w (if s then top (filled Zero ps) else Zero) (if s then top (filled One ps) else Zero) (if s then top bs else Zero) ps bs (λ b e f. moved_filler s ps bs b h e f) h

-- ---- of one operand

pub moved_whole : (f : List Bit → List Bit) (bs : List Bit) → moved f (sure bs) ≡ sure (f bs)
moved_whole f bs = rw (whole_filled Zero bs, whole_filled One bs) (joined_same (f bs))

module _ (f : List Bit → List Bit) (k : Partly) (answer : Vector → List Bit) (is : (v : Vector) → IsTrue (allows k v) → answer v ≡ f v.bits) (w : ℕ) (width : (bs : List Bit) → length bs ≡ length k.bits → length (f bs) ≡ w) where
  at : (b : Bit) → IsReached (allows k) answer (sure (f (filled b k.bits)))
  at b =
      let allowed = vector_allowed k (filled b k.bits) (filled_allowed b k.bits) in
      subst (λ xs. IsReached (allows k) answer (sure xs)) (is _ allowed) (reached-whole (allows k) answer (record { bits = filled b k.bits; signed = k.signed }) allowed)

  here : (b : Bit) → length (sure (f (filled b k.bits))) ≡ w
  here b = length-whole _ ∙ width (filled b k.bits) (length-filled b k.bits)

  pub one_moved_tight : IsTight (allows k) answer (moved f k.bits)
  one_moved_tight = (reached-joined (allows k) answer _ _ (here Zero ∙ sym (here One)) (at Zero) (at One)).tight

  pub one_moved_width : length (sure (f (filled Zero k.bits))) ≡ length (f (filled One k.bits))
  one_moved_width = here Zero ∙ sym (width (filled One k.bits) (length-filled One k.bits))

-- the bits of a vector that is sure whole
pub moved_exact : (f : List Bit → List Bit) (k : Partly) (v : Vector) (s : Bool) (thing : ℕ) → k ≡ whole_of v → with_blame (moved f k.bits) s thing ≡ record { bits = sure (f v.bits); signed = s; blame = 0 }
moved_exact f k v s thing e =
    ap (λ (x : Partly). with_blame (moved f x.bits) s thing) e ∙ ap (λ ps. with_blame ps s thing) (moved_whole f v.bits) ∙ whole_with_blame (f v.bits) s thing

pub both_moved_exact : (f : List Bit → List Bit → List Bit) (a b : Partly) (v w : Vector) (s : Bool) (thing : ℕ) → a ≡ whole_of v → b ≡ whole_of w → with_blame (both_moved f a.bits b.bits) s thing ≡ record { bits = sure (f v.bits w.bits); signed = s; blame = 0 }
both_moved_exact f a b v w s thing e d =
    ap₂ (λ (x : Partly) (y : Partly). with_blame (both_moved f x.bits y.bits) s thing) e d ∙ ap (λ ps. with_blame ps s thing) (rw (whole_filled Zero v.bits, whole_filled One v.bits, whole_filled Zero w.bits, whole_filled One w.bits) (joined_same (f v.bits w.bits))) ∙ whole_with_blame (f v.bits w.bits) s thing

-- ---- on partly known vectors

module _ (k : Partly) (w : ℕ) where
  pub extend_allows : (signed : Bool) (thing : ℕ) (v : Vector) → IsTrue (allows k v) → IsTrue (allows (with_blame (moved (extend w k.signed) k.bits) signed thing) (extended_vector w signed v))
  extend_allows signed thing v h =
      let parts = and_parts (same_sign k.signed v.signed) (allows_bits k.bits v.bits) h in
      both_true _ _ (same_sign_refl signed) (subst (λ s. allows_bits (moved (extend w k.signed) k.bits) (extend w s v.bits) ≡ true) (same_sign_eq k.signed v.signed parts.0) (extend_sound w k.signed k.bits v.bits parts.1))

  pub extend_tight : IsTight (allows k) (λ v. extend w v.signed v.bits) (moved (extend w k.signed) k.bits)
  extend_tight =
      one_moved_tight (extend w k.signed) k (λ v. extend w v.signed v.bits) (λ v h. ap (λ s. extend w s v.bits) (sym (same_sign_eq k.signed v.signed (and_parts _ _ h).0))) w (λ bs e. length-fit w _ bs)

  pub extend_exact : (signed : Bool) (thing : ℕ) (v : Vector) → k ≡ whole_of v → with_blame (moved (extend w k.signed) k.bits) signed thing ≡ whole_of (extended_vector w signed v)
  extend_exact signed thing v e = moved_exact (extend w k.signed) k v signed thing e ∙ rw (whole_parts k v e).2

  pub select_allows : (low : ℤ) (thing : ℕ) (v : Vector) → IsTrue (allows k v) → IsTrue (allows (with_blame (moved (λ xs. bits_from xs low w) k.bits) false thing) (selected_vector low w v))
  select_allows low thing v h =
      let parts = and_parts (same_sign k.signed v.signed) (allows_bits k.bits v.bits) h in select_sound k.bits v.bits w low parts.1

  pub select_tight : (low : ℤ) → IsTight (allows k) (λ v. bits_from v.bits low w) (moved (λ xs. bits_from xs low w) k.bits)
  select_tight low = one_moved_tight (λ xs. bits_from xs low w) k (λ v. bits_from v.bits low w) (λ v h. refl) w (λ bs e. length-bits_from bs w low)

  pub select_exact : (low : ℤ) (thing : ℕ) (v : Vector) → k ≡ whole_of v → with_blame (moved (λ xs. bits_from xs low w) k.bits) false thing ≡ whole_of (selected_vector low w v)
  select_exact low thing v e = moved_exact (λ xs. bits_from xs low w) k v false thing e

  pub extend_widths : length (sure (extend w k.signed (filled Zero k.bits))) ≡ length (extend w k.signed (filled One k.bits))
  extend_widths = length-whole _ ∙ length-fit w _ _ ∙ sym (length-fit w _ _)

  pub select_widths : (low : ℤ) → length (sure (bits_from (filled Zero k.bits) low w)) ≡ length (bits_from (filled One k.bits) low w)
  select_widths low = length-whole _ ∙ length-bits_from (filled Zero k.bits) w low ∙ sym (length-bits_from (filled One k.bits) w low)

module _ (a b : Partly) where
  pub place_allows : (from : ℤ) (thing : ℕ) (v w : Vector) → IsTrue (allows a v) → IsTrue (allows b w) → IsTrue (allows (with_blame (both_moved (λ xs ys. bits_with xs ys from) a.bits b.bits) a.signed thing) (record { bits = bits_with v.bits w.bits from; signed = v.signed }))
  place_allows from thing v w h k =
      let left = and_parts (same_sign a.signed v.signed) (allows_bits a.bits v.bits) h in
      let right = and_parts (same_sign b.signed w.signed) (allows_bits b.bits w.bits) k in
      both_true _ _ left.0 (place_sound a.bits b.bits v.bits w.bits from left.1 right.1)

  pub place_tight : (from : ℤ) → IsTight (allow_both a b) (λ p. bits_with p.0.bits p.1.bits from) (both_moved (λ xs ys. bits_with xs ys from) a.bits b.bits)
  place_tight from =
      (moved_reached (λ xs ys. bits_with xs ys from) a b (λ p. bits_with p.0.bits p.1.bits from) (λ p h. refl) (length a.bits) (λ bs cs e d. length-bits_with bs cs from ∙ e)).tight

  pub append_allows : (thing : ℕ) (v w : Vector) → IsTrue (allows a v) → IsTrue (allows b w) → IsTrue (allows (with_blame (both_moved (λ xs ys. ys ++ xs) a.bits b.bits) false thing) (appended_vector v w))
  append_allows thing v w h k =
      let left = and_parts (same_sign a.signed v.signed) (allows_bits a.bits v.bits) h in
      let right = and_parts (same_sign b.signed w.signed) (allows_bits b.bits w.bits) k in
      append_sound a.bits b.bits v.bits w.bits left.1 right.1

  pub append_tight : IsTight (allow_both a b) (λ p. p.1.bits ++ p.0.bits) (both_moved (λ xs ys. ys ++ xs) a.bits b.bits)
  append_tight =
      (moved_reached (λ xs ys. ys ++ xs) a b (λ p. p.1.bits ++ p.0.bits) (λ p h. refl) (length (b.bits ++ a.bits)) (λ bs cs e d. length-append cs bs ∙ omega (arith, e, d, length-append b.bits a.bits))).tight

  pub place_exact : (from : ℤ) (thing : ℕ) (v w : Vector) → a ≡ whole_of v → b ≡ whole_of w → with_blame (both_moved (λ xs ys. bits_with xs ys from) a.bits b.bits) a.signed thing ≡ whole_of (record { bits = bits_with v.bits w.bits from; signed = v.signed })
  place_exact from thing v w e d = both_moved_exact (λ xs ys. bits_with xs ys from) a b v w a.signed thing e d ∙ rw (whole_parts a v e).2

  pub append_exact : (thing : ℕ) (v w : Vector) → a ≡ whole_of v → b ≡ whole_of w → with_blame (both_moved (λ xs ys. ys ++ xs) a.bits b.bits) false thing ≡ whole_of (appended_vector v w)
  append_exact thing v w e d = both_moved_exact (λ xs ys. ys ++ xs) a b v w false thing e d

  pub place_widths : (from : ℤ) → length (sure (bits_with (filled Zero a.bits) (filled Zero b.bits) from)) ≡ length (bits_with (filled One a.bits) (filled One b.bits) from)
  place_widths from =
      length-whole _ ∙ length-bits_with (filled Zero a.bits) (filled Zero b.bits) from ∙ length-filled Zero a.bits ∙ sym (length-filled One a.bits) ∙ sym (length-bits_with (filled One a.bits) (filled One b.bits) from)
