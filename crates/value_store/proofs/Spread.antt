-- What all bits of a part have in common.
use Rattle.std.proofs.Common.{◌≡◌, ℕ, zero, suc, Bool, true, false, ◌&&◌, if◌then◌else◌, List, [], ◌∷◌, length, map, replicate, slice_get, Option, Some, None, refl, sym, ap, ◌∙◌}
use Rattle.std.proofs.lemmas.Bool.{false≢true}
use Rattle.std.proofs.lemmas.List.{length-map}
use Rattle.four_state.specs.declared.bit.Bit.{Bit}
use Rattle.four_state.specs.declared.operator.CaseKind.TheVariants.{Exact}
use Rattle.four_state.specs.Vector.{same_bit, fill}
use Rattle.four_state.specs.Operators.{matches}
use Rattle.body_replay.specs.known_state.Partly.{are_sure}
use Rattle.body_replay.proofs.known_state.Cases.{same_bit_eq, same_bit_refl}
use Rattle.value_store.specs.Parts.{common_bit, common_bits}

none_common : (ps : List (Option Bit)) → common_bit None ps ≡ None
none_common [] = refl
none_common (p ∷ ps) = none_common ps

-- one that is not sure
unsure_common : (b : Bit) (ps : List (Option Bit)) → are_sure ps ≡ false → common_bit (Some b) ps ≡ None
unsure_common b [] e = absurd (false≢true (sym e))
unsure_common b (None ∷ ps) e = none_common ps
unsure_common b (Some c ∷ ps) e = go (same_bit b c) (unsure_common b ps e)
  where
    go : (t : Bool) → common_bit (Some b) ps ≡ None → common_bit (if t then Some b else None) ps ≡ None
    go true ih = ih
    go false ih = none_common ps

pub unsure_bits : (ps : List (Option Bit)) → are_sure ps ≡ false → common_bits ps ≡ None
unsure_bits [] e = absurd (false≢true (sym e))
unsure_bits (None ∷ ps) e = none_common ps
unsure_bits (Some b ∷ ps) e = unsure_common b ps e

-- sure bits that are all the first one, or not
sure_common : (b : Bit) (bs : List Bit) → common_bit (Some b) (map Some bs) ≡ (if matches Exact bs (fill (length bs) b) then Some b else None)
sure_common b [] = refl
sure_common b (c ∷ bs) = go (same_bit b c) refl (sure_common b bs)
  where
    flip : same_bit b c ≡ false → same_bit c b ≡ false
    flip h = other (same_bit c b) refl
      where
        other : (t : Bool) → same_bit c b ≡ t → t ≡ false
        other false q = refl
        other true q = absurd (false≢true (sym h ∙ ap (same_bit b) (same_bit_eq c b q) ∙ same_bit_refl b))

    go : (t : Bool) → same_bit b c ≡ t → common_bit (Some b) (map Some bs) ≡ (if matches Exact bs (fill (length bs) b) then Some b else None) → common_bit (if t then Some b else None) (map Some bs) ≡ (if same_bit c b && matches Exact bs (fill (length bs) b) then Some b else None)
    go true e ih =
        let same : b ≡ c = same_bit_eq b c e in
        ih ∙ ap (λ t. if t && matches Exact bs (fill (length bs) b) then Some b else None) (sym (ap (λ x. same_bit x b) (sym same) ∙ same_bit_refl b))
    go false e ih = none_common (map Some bs) ∙ sym (ap (λ t. if t && matches Exact bs (fill (length bs) b) then Some b else None) (flip e))

-- of a vector whose lowest bit is this one
pub sure_bits_common : (bs : List Bit) (b : Bit) → slice_get bs 0 ≡ Some b → common_bits (map Some bs) ≡ (if matches Exact bs (fill (length bs) b) then Some b else None)
sure_bits_common [] b e = cc
sure_bits_common (c ∷ bs) b e =
    let same : c ≡ b = cc in
    sure_common c bs ∙ sym (ap (λ t. if t && matches Exact bs (fill (length bs) c) then Some c else None) (same_bit_refl c)) ∙ ap (λ x. if same_bit c x && matches Exact bs (fill (length bs) x) then Some x else None) same

map-replicate : (n : ℕ) (b : Bit) → map Some (replicate n b) ≡ replicate n (Some b)
map-replicate zero b = refl
map-replicate (suc n) b = ap (λ r. Some b ∷ r) (map-replicate n b)

-- a whole vector whose bits are all its lowest one
pub all_equal : (ps : List (Option Bit)) (bs : List Bit) (b : Bit) (w : ℕ) → ps ≡ map Some bs → slice_get bs 0 ≡ Some b → matches Exact bs (fill (length ps) b) ≡ true → map Some (fill w b) ≡ replicate w (common_bits ps)
all_equal ps bs b w whole first same =
    let width : length ps ≡ length bs = ap length whole ∙ length-map bs Some in
    let all : matches Exact bs (fill (length bs) b) ≡ true = ap (λ n. matches Exact bs (fill n b)) (sym width) ∙ same in
    map-replicate w b ∙ ap (replicate w) (sym (ap common_bits whole ∙ sure_bits_common bs b first ∙ ap (λ t. if t then Some b else None) all))

-- one with two bits that differ
pub not_equal : (ps : List (Option Bit)) (bs : List Bit) (b : Bit) → ps ≡ map Some bs → slice_get bs 0 ≡ Some b → matches Exact bs (fill (length ps) b) ≡ false → common_bits ps ≡ None
not_equal ps bs b whole first other =
    let width : length ps ≡ length bs = ap length whole ∙ length-map bs Some in
    let differ : matches Exact bs (fill (length bs) b) ≡ false = ap (λ n. matches Exact bs (fill n b)) (sym width) ∙ other in
    ap common_bits whole ∙ sure_bits_common bs b first ∙ ap (λ t. if t then Some b else None) differ
