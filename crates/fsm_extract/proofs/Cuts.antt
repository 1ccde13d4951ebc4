-- Labels and right sides as numbers of as many bits as a signal has.
use Rattle.std.proofs.Common.{◌≡◌, ◌∙◌, ℕ, zero, suc, ◌+◌, ◌*◌, ◌/◌, ◌%◌, ◌^◌, ◌<◌, ◌≤◌, ◌==◌, Bool, true, false, ◌&&◌, if◌then◌else◌, cond, List, [], ◌∷◌, Some, None, length, refl, sym, ap, ap₂, subst, arith}
use Rattle.std.specs.Prelude.{is_some, unwrap_or}
use Rattle.std.proofs.lemmas.Bool.{and_from, and_parts, false≢true}
use Rattle.std.proofs.lemmas.Bool.Decides.{nat_tests}
use Rattle.std.proofs.Math.Nat.{pow-succ'}
use Rattle.four_state.specs.Arithmetic.{low_bits, natural}
use Rattle.four_state.specs.Operators.{matches}
use Rattle.four_state.specs.Vector.{Vector, all_known, bit_of, extend, fit, is_known, is_one, same_bit, same_bits}
use Rattle.four_state.specs.declared.bit.Bit.{Bit}
use Rattle.four_state.specs.declared.bit.Bit.TheVariants.{Zero, One, X, Z}
use Rattle.four_state.specs.declared.operator.CaseKind.TheVariants.{Exact}
use Rattle.four_state.proofs.MatchLaws.{exact_law}
use Rattle.known_state.proofs.Moved.{length-fit}
use Rattle.known_state.proofs.Widths.{length-low_bits}
use Rattle.scene_laws.proofs.body_replay.Values.{low_natural}
use Rattle.fsm_extract.specs.Walked.{number_given, number_matched}

pub length-extend : (w : ℕ) (s : Bool) (bs : List Bit) → length (extend w s bs) ≡ w
length-extend w s bs = length-fit w _ bs

-- a value that is there under a test
pub some_if : {A : Type 0} (b : Bool) (x y : A) → cond b (Some x) None ≡ Some y → (b ≡ true) × (x ≡ y)
some_if true x y e = (refl, ap (λ o. unwrap_or o x) e)
some_if false x y e = absurd (false≢true (ap is_some e))

pub if_some : {A : Type 0} (b : Bool) (x : A) → b ≡ true → cond b (Some x) None ≡ Some x
if_some b x e = rw e refl

known_bit : (b : Bool) → is_known (bit_of b) ≡ true
known_bit true = refl
known_bit false = refl

one_bit : (b : Bool) → is_one (bit_of b) ≡ b
one_bit true = refl
one_bit false = refl

known-low_bits : (w n : ℕ) → all_known (low_bits w n) ≡ true
known-low_bits zero n = refl
known-low_bits (suc w) n = rw (known_bit (n % 2 == 1)) (known-low_bits w (n / 2))

digit : (n : ℕ) → (if n % 2 == 1 then 1 else 0) + 2 * (n / 2) ≡ n
digit n = grind (arith, nat_tests)

half_below : (w n : ℕ) → n < 2 ^ suc w → n / 2 < 2 ^ w
half_below w n h = let q = pow-succ' 2 w in omega (arith, q)

natural-low_bits : (w n : ℕ) → n < 2 ^ w → natural (low_bits w n) ≡ n
natural-low_bits zero n h = omega arith
natural-low_bits (suc w) n h = rw (one_bit (n % 2 == 1), natural-low_bits w (n / 2) (half_below w n h)) (digit n)

natural_digit : (t : Bool) (n k : ℕ) → n < k → (if t then 1 else 0) + 2 * n < 2 * k
natural_digit true n k h = omega arith
natural_digit false n k h = omega arith

natural_below : (bs : List Bit) → natural bs < 2 ^ length bs
natural_below [] = omega arith
natural_below (b ∷ bs) = rw pow-succ' (natural_digit (is_one b) (natural bs) (2 ^ length bs) (natural_below bs))

same_bit_is : (a b : Bit) → same_bit a b ≡ true → a ≡ b
same_bit_is Zero Zero e = refl
same_bit_is One One e = refl
same_bit_is X X e = refl
same_bit_is Z Z e = refl
same_bit_is Zero One e = absurd (false≢true e)
same_bit_is Zero X e = absurd (false≢true e)
same_bit_is Zero Z e = absurd (false≢true e)
same_bit_is One Zero e = absurd (false≢true e)
same_bit_is One X e = absurd (false≢true e)
same_bit_is One Z e = absurd (false≢true e)
same_bit_is X Zero e = absurd (false≢true e)
same_bit_is X One e = absurd (false≢true e)
same_bit_is X Z e = absurd (false≢true e)
same_bit_is Z Zero e = absurd (false≢true e)
same_bit_is Z One e = absurd (false≢true e)
same_bit_is Z X e = absurd (false≢true e)

same_bits_are : (bs cs : List Bit) → same_bits bs cs ≡ true → bs ≡ cs
same_bits_are [] [] e = refl
same_bits_are [] (c ∷ cs) e = absurd (false≢true e)
same_bits_are (b ∷ bs) [] e = absurd (false≢true e)
same_bits_are (b ∷ bs) (c ∷ cs) e =
    let p = and_parts (same_bit b c) (same_bits bs cs) e in
    ap₂ (λ x xs. x ∷ xs) (same_bit_is b c p.0) (same_bits_are bs cs p.1)

-- what was extended and is cut again is what it was
fit_fit : (w u : ℕ) (a b : Bit) (bs : List Bit) → length bs ≡ w → w ≤ u → fit w a (fit u b bs) ≡ bs
fit_fit zero u a b [] e l = refl
fit_fit zero u a b (c ∷ bs) e l = absurd (omega arith)
fit_fit (suc w) zero a b bs e l = absurd (omega arith)
fit_fit (suc w) (suc u) a b [] e l = absurd (omega arith)
fit_fit (suc w) (suc u) a b (c ∷ bs) e l = ap (λ cs. c ∷ cs) (fit_fit w u a b bs (omega arith) (omega arith))

known_cut : (w : ℕ) (a : Bit) (bs : List Bit) → w ≤ length bs → all_known bs ≡ true → all_known (fit w a bs) ≡ true
known_cut zero a bs l k = refl
known_cut (suc w) a [] l k = absurd (omega arith)
known_cut (suc w) a (b ∷ bs) l k =
    let p = and_parts (is_known b) (all_known bs) k in
    and_from (is_known b) (all_known (fit w a bs)) p.0 (known_cut w a bs (omega arith) p.1)

-- known bits of this width are those of their number
low_bits_of : (w : ℕ) (bs : List Bit) → length bs ≡ w → all_known bs ≡ true → low_bits w (natural bs) ≡ bs
low_bits_of w bs e k = ap (λ n. low_bits n (natural bs)) (sym e) ∙ low_natural bs k

-- the number v of w bits is what the label of u bits matches, once it is extended to them
pub record IsMatched (w u : ℕ) (label : Vector) (v : ℕ) : Type 0 where
  pub known : all_known label.bits ≡ true
  pub inside : v < 2 ^ w
  pub equal : matches Exact (extend u label.signed (low_bits w v)) label.bits ≡ true

module _ (w : ℕ) (label : Vector) (l : w ≤ length label.bits) where
  abbrev cut : List Bit
  cut = extend w label.signed label.bits

  abbrev test : Bool
  test = matches Exact (extend (length label.bits) label.signed cut) label.bits

  pub matched_is : (v : ℕ) → number_matched w label ≡ Some v → IsMatched w (length label.bits) label v
  matched_is v e =
      let p = some_if (all_known label.bits && test) (natural cut) v e in
      let q = and_parts (all_known label.bits) test p.0 in
      let wide : length cut ≡ w = length-extend w label.signed label.bits in
      let bits : low_bits w v ≡ cut = ap (low_bits w) (sym p.1) ∙ low_bits_of w cut wide (known_cut w _ label.bits l q.0) in
      record {
        known = q.0;
        inside = subst (λ n. n < 2 ^ w) p.1 (subst (λ n. natural cut < 2 ^ n) wide (natural_below cut));
        equal = ap (λ bs. matches Exact (extend (length label.bits) label.signed bs) label.bits) bits ∙ q.1;
      }

  pub is_matched : (v : ℕ) → IsMatched w (length label.bits) label v → number_matched w label ≡ Some v
  is_matched v h =
      let same : extend (length label.bits) label.signed (low_bits w v) ≡ label.bits = same_bits_are _ label.bits (sym (exact_law _ label.bits) ∙ h.equal) in
      let bits : cut ≡ low_bits w v = ap (extend w label.signed) (sym same) ∙ fit_fit w (length label.bits) _ _ (low_bits w v) (length-low_bits w v) l in
      let is : test ≡ true = ap (λ bs. matches Exact (extend (length label.bits) label.signed bs) label.bits) bits ∙ h.equal in
      if_some (all_known label.bits && test) (natural cut) (and_from (all_known label.bits) test h.known is) ∙ ap Some (ap natural bits ∙ natural-low_bits w v h.inside)

module _ (w : ℕ) (right : Vector) where
  abbrev given : List Bit
  given = extend w right.signed right.bits

  pub given_is : (v : ℕ) → number_given w right ≡ Some v → (v < 2 ^ w) × (given ≡ low_bits w v)
  given_is v e =
      let p = some_if (all_known given) (natural given) v e in
      let wide : length given ≡ w = length-extend w right.signed right.bits in (
        subst (λ n. n < 2 ^ w) p.1 (subst (λ n. natural given < 2 ^ n) wide (natural_below given)),
        sym (low_bits_of w given wide p.0) ∙ ap (low_bits w) p.1,
      )

  pub is_given : (v : ℕ) → v < 2 ^ w → given ≡ low_bits w v → number_given w right ≡ Some v
  is_given v h e =
      if_some (all_known given) (natural given) (ap all_known e ∙ known-low_bits w v) ∙ ap Some (ap natural e ∙ natural-low_bits w v h)
