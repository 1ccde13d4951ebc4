-- What a sink of notes takes.
use Rattle.std.specs.Prelude.{ℕ, List, [], ◌∷◌, ◌++◌, map, Option}
use Rattle.four_state.specs.declared.truth.Truth.TheVariants.{True, False}
use Rattle.design_model.specs.point_words.declared.node_case.NodeCase.TheVariants.{ValueFalse, ValueTrue, LeftFalse, RightFalse, LeftTrue, RightTrue, BothFalse, BothTrue}
use Rattle.design_model.specs.Tree.{Term, Terms, number, signal, word, bit, part, slide, unary, binary, choice, concat, repeat, sign}
use Rattle.design_model.specs.Value.{head}
use Rattle.body_replay.specs.KnownBits.{KnownBits}
use Rattle.body_replay.specs.Store.{known_value}
use Rattle.body_replay.specs.Replay.{Case, Mark, Mode, ask, blame_of, in_mode, one_case, term_marks, terms_marks, two_case, word_marks, word_read}
use Rattle.term_replay.specs.Stands.{Scene, first_after}
use Rattle.body_replay.specs.Replay as r
use Rattle.term_replay.specs.declared.notes.Access.{Access}
use Rattle.term_replay.specs.declared.notes.Access.TheVariants.{Read, Write}
use Rattle.term_replay.specs.declared.notes.Spot.{Spot}
use Rattle.term_replay.specs.declared.notes.Spot.TheVariants.{Line, Node, WordRead, WordWrite}

-- a spot as the definitions of a run have it
abbrev pub spot_of : Spot → r.Spot
spot_of (Line n) = r.line n
spot_of (Node n c) = r.node n c
spot_of (WordRead m i) = r.word_read m i
spot_of (WordWrite m i) = r.word_write m i

-- a note as the definitions of a run have it
abbrev pub mark_of : Spot → Option ℕ → Mark
mark_of x doubt = record { spot = spot_of x; doubt = doubt }

-- what a use of a word counts for
abbrev pub access_spot : Access → ℕ → ℕ → r.Spot
access_spot Read m i = r.word_read m i
access_spot Write m i = r.word_write m i

-- whatever marks the sink took since any start, it has then taken these too
pub record Adds {T S : Type 0} (noted : T → List Mark → S → Type 0) (before : S) (marks : List Mark) (after : S) : Type 0 where
  pub added : (start : T) (earlier : List Mark) → noted start earlier before → noted start (earlier ++ marks) after

-- the marks as they count in this mode: in a branch of an undecided test each is a doubt by that test
abbrev pub in_this : Mode → List Mark → List Mark
in_this mode ms = map (in_mode mode) ms

-- the cases of a node by its own value
abbrev pub own_cases : KnownBits → ℕ → List Case
own_cases ps thing = one_case ValueFalse (ask ps False) thing ∷ one_case ValueTrue (ask ps True) thing ∷ []

-- the cases of an operator that one false operand decides
abbrev pub and_cases : KnownBits → KnownBits → ℕ → ℕ → List Case
and_cases ps qs l r = two_case BothTrue (ask ps True) (ask qs True) l r ∷ one_case LeftFalse (ask ps False) l ∷ one_case RightFalse (ask qs False) r ∷ []

-- the cases of an operator that one true operand decides
abbrev pub or_cases : KnownBits → KnownBits → ℕ → ℕ → List Case
or_cases ps qs l r = two_case BothFalse (ask ps False) (ask qs False) l r ∷ one_case LeftTrue (ask ps True) l ∷ one_case RightTrue (ask qs True) r ∷ []

-- the marks that the evaluation of a term makes
abbrev pub marks_of : Scene → Option ℕ → Term → List Mark
marks_of v first t = term_marks v.design v.kept v.blames first t

-- the marks that the evaluation of terms makes
abbrev pub all_marks : Scene → Option ℕ → Terms → List Mark
all_marks v first ts = terms_marks v.design v.kept v.blames first ts

-- the marks that the evaluation of a term makes before those of its own cases
abbrev pub inner_marks : Scene → Option ℕ → Term → List Mark
inner_marks v first (number h n) = []
inner_marks v first (signal h s) = []
inner_marks v first (word h m i) = marks_of v first i ++ word_marks v.design (word_read m) m (head i).signed (known_value v.design v.kept i) (blame_of v.design v.kept v.blames first i)
inner_marks v first (bit h x i) = marks_of v first i ++ marks_of v (first_after v first i) x
inner_marks v first (part h x i j) = marks_of v first i ++ marks_of v (first_after v first i) j ++ marks_of v (first_after v (first_after v first i) j) x
inner_marks v first (slide h x b w up) = marks_of v first b ++ marks_of v (first_after v first b) w ++ marks_of v (first_after v (first_after v first b) w) x
inner_marks v first (unary h op x) = marks_of v first x
inner_marks v first (binary h op x y) = marks_of v first x ++ marks_of v (first_after v first x) y
inner_marks v first (choice h c x y) = marks_of v first c ++ marks_of v (first_after v first c) x ++ marks_of v (first_after v (first_after v first c) x) y
inner_marks v first (concat h ts) = all_marks v first ts
inner_marks v first (repeat h n ts) = marks_of v first n ++ all_marks v (first_after v first n) ts
inner_marks v first (sign h s x) = marks_of v first x
