-- Bits and parts: what the selects give represents the term.
use Rattle.std.proofs.Common.{◌≡◌, ◌∙◌, ℕ, Bool, false, [], Option, Some, None, ℤ, sym, ap}
use Rattle.std.specs.Prelude.{IsTrue}
use Rattle.four_state.specs.declared.bit.Bit.TheVariants.{X}
use Rattle.four_state.specs.Arithmetic.{natural}
use Rattle.four_state.specs.Parts.{bits_from, index, selected_vector}
use Rattle.four_state.specs.Vector.{Vector, fill}
use Rattle.known_state.specs.Partly.{Partly, allows, are_sure, is_whole, whole_of}
use Rattle.known_state.specs.Answers.{IsTight}
use Rattle.design_model.specs.Tree as t
use Rattle.design_model.specs.Value.{offset_option, part_width, range_of, slide_offset}
use Rattle.body_replay.specs.KnownBits.{KnownBits, select_option, unknown}
use Rattle.body_replay.proofs.Answered.{select_answer}
use Rattle.body_replay.proofs.Exact.{select_option_exact}
use Rattle.body_replay.proofs.Steps as s
use Rattle.term_replay.specs.Stands.{Fitted, Scene, Stands, first_after, head_of}
use Rattle.term_replay.specs.declared.head.TermHead.{TermHead}
use Rattle.term_replay.proofs.Standing.{from_step, not_false, to_fit, to_step, whole_sure}

-- so many bits of x, where there is no offset
pub none_selected : (a q : Partly) (w : ℕ) → q ≡ whole_of (record { bits = fill w X; signed = false }) → q.bits ≡ select_option a.bits None w
none_selected a q w e = ap (λ y. y.bits) e

pub whole_selected : (a q : Partly) (n : Vector) (low : ℤ) (w : ℕ) → a ≡ whole_of n → q ≡ whole_of (selected_vector low w n) → q.bits ≡ select_option a.bits (Some low) w
whole_selected a q n low w e f = ap (λ y. y.bits) f ∙ sym (ap (λ y. select_option y.bits (Some low) w) e ∙ select_option_exact n.bits (Some low) w)

pub slow_selected : (a q : Partly) (low : ℤ) (w : ℕ) → ((v : Vector) → IsTrue (allows a v) → IsTrue (allows q (selected_vector low w v))) → IsTight (allows a) (λ v. bits_from v.bits low w) q.bits → q.bits ≡ select_option a.bits (Some low) w
slow_selected a q low w sound tight = select_answer a q low w sound tight

-- no bits
pub no_selected : (ps : KnownBits) (o : Option ℤ) (w : ℕ) → w ≡ 0 → select_option ps o w ≡ []
no_selected ps None w z = ap (select_option ps None) z
no_selected ps (Some low) w z = ap (select_option ps (Some low)) z

-- of a vector that is whole nothing is to blame
pub whole_blame : (q : Partly) (n : Vector) (thing : ℕ) → q ≡ whole_of n → is_whole q ≡ false → q.blame ≡ thing
whole_blame q n thing e u = not_false (are_sure q.bits) (ap (λ y. are_sure y.bits) e ∙ whole_sure n) u

module _ (v : Scene) (first : Option ℕ) (x : TermHead) where
  -- ---- a bit

  pub unsure_bit : (y i : t.Term) (j r : Partly) → Stands v first i j → is_whole j ≡ false → r ≡ record { bits = unknown x.width; signed = x.signed; blame = j.blame } → Stands v first (t.bit (head_of x) y i) r
  unsure_bit y i j r sj u e =
      from_step v first _ r (s.unsure_bit_stands v.design v.kept v.blames first (head_of x) y i j r (to_step v first i j sj) u (ap (λ z. z.bits) e) (ap (λ z. z.signed) e) (ap (λ z. z.blame) e))

  pub whole_bit : (y i : t.Term) (n : Vector) (j a q r : Partly) → Stands v first i j → j ≡ whole_of n → Stands v (first_after v first i) y a → q.bits ≡ select_option a.bits (offset_option (range_of v.design y) (index n.signed n.bits)) 1 → (is_whole q ≡ false → q.blame ≡ a.blame) → Fitted x q r → Stands v first (t.bit (head_of x) y i) r
  whole_bit y i n j a q r sj e sa qs b f =
      from_step v first _ r
      (s.whole_bit_stands v.design v.kept v.blames first (head_of x) y i n.bits j a q r (to_step v first i j sj) (ap (λ z. z.bits) e) (to_step v (first_after v first i) y a sa)
      (qs ∙ ap (λ g. select_option a.bits (offset_option (range_of v.design y) (index g n.bits)) 1) (ap (λ z. z.signed) (sym e) ∙ sj.sign_is)) b (to_fit x q r f))

  -- ---- a part

  pub whole_part : (y i j : t.Term) (m n : Vector) (h l a q r : Partly) → Stands v first i h → h ≡ whole_of m → Stands v (first_after v first i) j l → l ≡ whole_of n → Stands v (first_after v (first_after v first i) j) y a → q.bits ≡ select_option a.bits (offset_option (range_of v.design y) (index n.signed n.bits)) (part_width m.bits n.bits) → (is_whole q ≡ false → q.blame ≡ a.blame) → Fitted x q r → Stands v first (t.part (head_of x) y i j) r
  whole_part y i j m n h l a q r sh eh sl el sa qs b f =
      from_step v first _ r
      (s.whole_part_stands v.design v.kept v.blames first (head_of x) y i j m.bits n.bits h l a q r (to_step v first i h sh) (ap (λ z. z.bits) eh) (to_step v (first_after v first i) j l sl) (ap (λ z. z.bits) el) (to_step v (first_after v (first_after v first i) j) y a sa)
      (qs ∙ ap (λ g. select_option a.bits (offset_option (range_of v.design y) (index g n.bits)) (part_width m.bits n.bits)) (ap (λ z. z.signed) (sym el) ∙ sl.sign_is)) b (to_fit x q r f))

  -- ---- a part from a base

  pub unsure_base : (y i w : t.Term) (up : Bool) (j r : Partly) → Stands v first i j → is_whole j ≡ false → r ≡ record { bits = unknown x.width; signed = x.signed; blame = j.blame } → Stands v first (t.slide (head_of x) y i w up) r
  unsure_base y i w up j r sj u e =
      from_step v first _ r (s.unsure_base_stands v.design v.kept v.blames first (head_of x) y i w up j r (to_step v first i j sj) u (ap (λ z. z.bits) e) (ap (λ z. z.signed) e) (ap (λ z. z.blame) e))

  pub whole_slide : (y i w : t.Term) (up : Bool) (m n : Vector) (j c a q r : Partly) → Stands v first i j → j ≡ whole_of m → Stands v (first_after v first i) w c → c ≡ whole_of n → Stands v (first_after v (first_after v first i) w) y a → q.bits ≡ select_option a.bits (slide_offset (range_of v.design y) up (natural n.bits) (index m.signed m.bits)) (natural n.bits) → (is_whole q ≡ false → q.blame ≡ a.blame) → Fitted x q r → Stands v first (t.slide (head_of x) y i w up) r
  whole_slide y i w up m n j c a q r sj ej sc ec sa qs b f =
      from_step v first _ r
      (s.whole_slide_stands v.design v.kept v.blames first (head_of x) y i w up m.bits n.bits j c a q r (to_step v first i j sj) (ap (λ z. z.bits) ej) (to_step v (first_after v first i) w c sc) (ap (λ z. z.bits) ec) (to_step v (first_after v (first_after v first i) w) y a sa)
      (qs ∙ ap (λ g. select_option a.bits (slide_offset (range_of v.design y) up (natural n.bits) (index g m.bits)) (natural n.bits)) (ap (λ z. z.signed) (sym ej) ∙ sj.sign_is)) b (to_fit x q r f))
