-- Values of which each bit is sure to be 0 or 1, as numbers.
use Rattle.std.specs.Prelude.{ℕ, ◌^◌, ◌<◌, ◌≤◌, Bool, true, false, not, ◌&&◌, List, ◌++◌, Option, Some, None}
use Rattle.four_state.specs.Masks.{bits_of_masks}
use Rattle.four_state.specs.Vector.{Vector}
use Rattle.four_state.specs.declared.operator.Binary.{Binary}
use Rattle.four_state.specs.declared.operator.Binary.TheVariants.{BitwiseAnd, BitwiseOr, LogicalAnd, LogicalOr}
use Rattle.known_state.specs.Partly.{Partly, whole_of}
use Rattle.design_model.specs.point_words.declared.node_case.NodeCase.{NodeCase}
use Rattle.design_model.specs.point_words.declared.node_case.NodeCase.TheVariants.{LeftFalse, RightFalse, LeftTrue, RightTrue, BothFalse, FalseTrue, TrueFalse, BothTrue}
use Rattle.body_replay.specs.Replay.{Mark, case_mark}
use Rattle.design_model.specs.declared.tree.Term.{Term}
use Rattle.term_replay.specs.declared.head.TermHead.{TermHead}

-- what a term has beside its form
abbrev pub head_in : Term → TermHead
head_in x = record { width = x.width; signed = x.signed; node = x.node; place = x.place }

-- the number as a vector of this width and sign
abbrev pub number_at : TermHead → ℕ → Vector
number_at x n = record { bits = bits_of_masks x.width n 0; signed = x.signed }

-- the number, or else what is in the place
abbrev pub held : TermHead → Option ℕ → Partly → Partly
held x (Some n) place = whole_of (number_at x n)
held x None place = place

-- the number is inside the width, which is at most 64
pub record IsSmall (x : TermHead) (n : ℕ) : Type 0 where
  pub narrow : x.width ≤ 64
  pub inside : n < 2 ^ x.width

-- a case of a node, noted if it holds
abbrev pub sure_mark : ℕ → NodeCase → Bool → List Mark
sure_mark n c b = case_mark n c (Some b) 0

-- the case of the truths of two operands
abbrev pub case_of : Bool → Bool → NodeCase
case_of false false = BothFalse
case_of false true = FalseTrue
case_of true false = TrueFalse
case_of true true = BothTrue

-- the marks of an operator that one false operand decides
abbrev pub and_marks : ℕ → Bool → Bool → List Mark
and_marks n l r = sure_mark n BothTrue (l && r) ++ (sure_mark n LeftFalse (not l) ++ sure_mark n RightFalse (not r))

-- the marks of an operator that one true operand decides
abbrev pub or_marks : ℕ → Bool → Bool → List Mark
or_marks n l r = sure_mark n BothFalse (not l && not r) ++ (sure_mark n LeftTrue l ++ sure_mark n RightTrue r)

-- the marks of an operator with two operands of which the truths are sure
abbrev pub sure_marks : ℕ → Binary → Bool → Bool → List Mark
sure_marks n BitwiseAnd l r = and_marks n l r
sure_marks n LogicalAnd l r = and_marks n l r
sure_marks n BitwiseOr l r = or_marks n l r
sure_marks n LogicalOr l r = or_marks n l r
sure_marks n _ l r = sure_mark n (case_of l r) true
