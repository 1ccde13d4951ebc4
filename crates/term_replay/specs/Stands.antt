-- What a partly known vector represents: the value of a term on what is known, with its sign and its blame.
use Rattle.std.specs.Prelude.{◌≡◌, ◌≤◌, ℕ, Bool, true, false, List, [], map, Option, Some, None}
use Rattle.four_state.specs.declared.bit.Bit.{Bit}
use Rattle.four_state.specs.Arithmetic.{natural}
use Rattle.four_state.specs.Parts.{index}
use Rattle.four_state.specs.Vector.{Vector, extend}
use Rattle.known_state.specs.Partly.{Partly, is_whole, whole_of}
use Rattle.design_model.specs.Design.{Design, signal_cells}
use Rattle.design_model.specs.Tree.{Head, Term, Terms}
use Rattle.design_model.specs.Value.{head, slide_offset}
use Rattle.design_model.specs.declared.design.Range.{Range}
use Rattle.design_model.specs.Shape.{is_shaped, own_width, are_alone, own_widths}
use Rattle.body_replay.specs.KnownBits.{copies_partly, extend_partly, select_option}
use Rattle.body_replay.specs.Store.{Kept, known_joined, known_value}
use Rattle.body_replay.specs.Replay.{Blames, blame_of, blame_of_all, first_read, first_reads}
use Rattle.term_replay.specs.declared.head.TermHead.{TermHead}

-- the width is from 1 to 128
pub record IsHead (x : TermHead) : Type 0 where
  pub at_least : 1 ≤ x.width
  pub at_most : x.width ≤ 128

-- what a term has beside its form
abbrev pub head_of : TermHead → Head
head_of x = record { place = x.place; width = x.width; signed = x.signed; node = x.node }

-- r is q at this width and with this sign, by which it is extended
pub record Fitted (x : TermHead) (q r : Partly) : Type 0 where
  pub bits : r.bits ≡ extend_partly x.width x.signed q.bits
  pub sign_is : r.signed ≡ x.signed
  pub blame : is_whole r ≡ false → (is_whole q ≡ false) × (r.blame ≡ q.blame)

-- these bits, whole, extended by this sign
abbrev pub whole_at : TermHead → List Bit → Partly
whole_at x bs = whole_of (record { bits = extend x.width x.signed bs; signed = x.signed })

-- no bits, or those of the vector
abbrev pub so_far : Option Partly → Partly
so_far None = record { bits = []; signed = false; blame = 0 }
so_far (Some q) = q

-- what terms are evaluated on: the design, what is known of each bit, what each signal and memory is blamed on, and which
-- memories the run has written by blocking assignments
pub record Scene : Type 0 where
  pub design : Design
  pub kept : Kept
  pub blames : Blames

-- the first read of the run that was not wholly sure, after the term is evaluated
abbrev pub first_after : Scene → Option ℕ → Term → Option ℕ
first_after v first t = first_read v.design v.kept v.blames first t

-- the same, after all of these terms
abbrev pub all_first_after : Scene → Option ℕ → Terms → Option ℕ
all_first_after v first ts = first_reads v.design v.kept v.blames first ts

-- what is known of the bits of the signal, with its blame
pub record IsRead (v : Scene) (s : ℕ) (q : Partly) : Type 0 where
  pub bits : q.bits ≡ map v.kept (signal_cells v.design s)
  pub blame : is_whole q ≡ false → q.blame ≡ v.blames.blame s

-- the vector is the value of the term, read after this first read that was not wholly sure
pub record Stands (v : Scene) (first : Option ℕ) (t : Term) (r : Partly) : Type 0 where
  pub bits : r.bits ≡ known_value v.design v.kept t
  pub sign_is : r.signed ≡ (head t).signed
  pub blame : is_whole r ≡ false → r.blame ≡ blame_of v.design v.kept v.blames first t

-- the vector is that of the values of the terms side by side, the first one highest
pub record StandsAll (v : Scene) (first : Option ℕ) (ts : Terms) (r : Partly) : Type 0 where
  pub bits : r.bits ≡ known_joined v.design v.kept ts
  pub blame : is_whole r ≡ false → r.blame ≡ blame_of_all v.design v.kept v.blames first ts

-- the term has the width and sign of its context, and alone it would be no wider
pub record IsInContext (d : Design) (t : Term) : Type 0 where
  pub width : ℕ
  pub signed : Bool
  pub shaped : is_shaped d width signed t ≡ true
  pub narrow : own_width d t ≤ width

-- each term is alone, and side by side they have at most 128 bits
pub record AreSideBySide (d : Design) (ts : Terms) : Type 0 where
  pub alone : are_alone d ts ≡ true
  pub narrow : own_widths d ts ≤ 128

-- so many copies of the vector side by side
abbrev pub copied : ℕ → Partly → Partly
copied n q = record { bits = copies_partly n q.bits; signed = false; blame = q.blame }

-- so many bits of the vector, from the base up or down
abbrev pub slid : Range → Bool → Vector → Vector → Partly → Partly
slid r up base count q =
    record { bits = select_option q.bits (slide_offset r up (natural count.bits) (index base.signed base.bits)) (natural count.bits); signed = false; blame = q.blame }
