-- What `place` and `join` of partly known vectors leave of a signal.
use Rattle.std.proofs.Common.{◌≡◌, ℕ, zero, suc, Bool, true, false, if◌then◌else◌, List, [], ◌∷◌, length, replicate, ℤ, pos, ◌+ℤ◌, neg_ℤ, Option, Some, None, refl, sym, ap, ap₂, ◌∙◌, arith}
use Rattle.std.specs.Prelude.{IsTrue}
use Rattle.std.proofs.lemmas.Bool.{and_parts, false≢true}
use Rattle.four_state.specs.declared.bit.Bit.{Bit}
use Rattle.four_state.specs.declared.bit.Bit.TheVariants.{Zero}
use Rattle.four_state.specs.Parts.{placed_vector, bits_with, within}
use Rattle.four_state.specs.Vector.{Vector}
use Rattle.body_replay.specs.known_state.Partly.{Partly, allows, allows_bits, same_sign, filled, is_whole, with_blame}
use Rattle.body_replay.specs.known_state.Join.{joined}
use Rattle.body_replay.specs.known_state.Answers.{IsTight, allow_both}
use Rattle.body_replay.proofs.known_state.Allowed.{filled_allowed}
use Rattle.body_replay.proofs.known_state.BinaryLaws.{vector_allowed}
use Rattle.body_replay.proofs.Stored.{known_or_part, known_with, place_answer}
use Rattle.design_model.specs.declared.design.Range.{Range}
use Rattle.value_store.specs.Parts.{bit_or_old, bits_over, common_bits, placed_bits, part_written, whole_offset, updated}

old_or_part : (q : Option Bit) (ps : List (Option Bit)) (o : Option ℕ) → known_or_part q ps o ≡ bit_or_old q ps o
old_or_part q ps None = refl
old_or_part q ps (Some k) = refl

pub over_is : (qs ps : List (Option Bit)) (z : ℤ) → known_with qs ps z ≡ bits_over qs ps z
over_is [] ps z = refl
over_is (q ∷ qs) ps z = ap₂ (λ a b. a ∷ b) (old_or_part q ps (within (length ps) z)) (over_is qs ps (z +ℤ pos 1))

same_flag : (s t : Bool) → same_sign s t ≡ true → s ≡ t
same_flag true true e = refl
same_flag true false e = absurd (false≢true e)
same_flag false true e = absurd (false≢true e)
same_flag false false e = refl

-- the bits and the sign of a placed part
pub placed_is : (a piece r : Partly) (low : ℤ) → ((v w : Vector) → IsTrue (allows a v) → IsTrue (allows piece w) → IsTrue (allows r (placed_vector low w v))) → IsTight (allow_both a piece) (λ p. bits_with p.0.bits p.1.bits (neg_ℤ low)) r.bits → (r.bits ≡ bits_over a.bits piece.bits (neg_ℤ low)) × (r.signed ≡ a.signed)
placed_is a piece r low sound tight =
    let v : Vector = record { bits = filled Zero a.bits; signed = a.signed } in
    let w : Vector = record { bits = filled Zero piece.bits; signed = piece.signed } in
    let there = sound v w (vector_allowed a (filled Zero a.bits) (filled_allowed Zero a.bits)) (vector_allowed piece (filled Zero piece.bits) (filled_allowed Zero piece.bits)) in
    (place_answer a piece r low sound tight ∙ over_is a.bits piece.bits (neg_ℤ low), same_flag r.signed a.signed (and_parts (same_sign r.signed a.signed) (allows_bits r.bits (bits_with v.bits w.bits (neg_ℤ low))) there).0)

-- ---- widths and signs

pub length-over : (qs ps : List (Option Bit)) (z : ℤ) → length (bits_over qs ps z) ≡ length qs
length-over [] ps z = refl
length-over (q ∷ qs) ps z = ap suc (length-over qs ps (z +ℤ pos 1))

length-placed : (qs ps : List (Option Bit)) (o : Option ℤ) → length (placed_bits qs ps o) ≡ length qs
length-placed qs ps None = refl
length-placed qs ps (Some low) = length-over qs ps (neg_ℤ low)

pub length-joined : (ps qs : List (Option Bit)) → length ps ≡ length qs → length (joined ps qs) ≡ length ps
length-joined [] qs e = refl
length-joined (p ∷ ps) [] e = cc
length-joined (p ∷ ps) (q ∷ qs) e = ap suc (length-joined ps qs (omega (arith, e)))

replicated : {A : Type 0} (n : ℕ) (a : A) → length (replicate n a) ≡ n
replicated zero a = refl
replicated (suc n) a = ap suc (replicated n a)

-- a part leaves the width and the sign
pub part_shape : (r : Range) (i p q : Partly) → (length (part_written r i p q).bits ≡ length q.bits) × ((part_written r i p q).signed ≡ q.signed)
part_shape r i p q = go (is_whole i)
  where
    go : (t : Bool) → let w : Partly = (if t then with_blame (placed_bits q.bits p.bits (whole_offset r i)) q.signed (if is_whole p then q.blame else p.blame) else with_blame (joined q.bits (replicate (length q.bits) (common_bits p.bits))) q.signed i.blame) in (length w.bits ≡ length q.bits) × (w.signed ≡ q.signed)
    go true = (length-placed q.bits p.bits (whole_offset r i), refl)
    go false = (length-joined q.bits (replicate (length q.bits) (common_bits p.bits)) (sym (replicated (length q.bits) (common_bits p.bits))), refl)

pub update_shape : (certain : Bool) (s : ℕ) (new old : Partly) → length new.bits ≡ length old.bits → new.signed ≡ old.signed → (length (updated certain s new old).bits ≡ length old.bits) × ((updated certain s new old).signed ≡ old.signed)
update_shape true s new old e f = (e, f)
update_shape false s new old e f = (length-joined old.bits new.bits (sym e), refl)

-- ---- a part by a whole index

module _ (r : Range) (i p q : Partly) (whole : is_whole i ≡ true) where
  abbrev after : List (Option Bit) → Partly
  after qs = with_blame qs q.signed (if is_whole p then q.blame else p.blame)

  part_whole : part_written r i p q ≡ after (placed_bits q.bits p.bits (whole_offset r i))
  part_whole = ap (λ t. if t then after (placed_bits q.bits p.bits (whole_offset r i)) else with_blame (joined q.bits (replicate (length q.bits) (common_bits p.bits))) q.signed i.blame) whole

  -- with an offset of which the part does the same
  pub written_placed : (o : Option ℤ) → placed_bits q.bits p.bits o ≡ placed_bits q.bits p.bits (whole_offset r i) → (w : Partly) (blame : ℕ) → w.bits ≡ placed_bits q.bits p.bits o → w.signed ≡ q.signed → blame ≡ (if is_whole p then q.blame else p.blame) → with_blame w.bits w.signed blame ≡ part_written r i p q
  written_placed o same w blame bits sign is =
      ap₂ (λ ps s. with_blame ps s blame) (bits ∙ same) sign ∙ ap (with_blame (placed_bits q.bits p.bits (whole_offset r i)) q.signed) is ∙ sym part_whole
