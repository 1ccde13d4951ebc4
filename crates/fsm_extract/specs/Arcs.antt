-- The arcs and states of a state machine that the case statements of a design draw (IEEE 1364-2001, clause 9.5).
-- The signal c has the state and the signal n is assigned the next one. A value without x or z is a number.
use Rattle.std.specs.Prelude.{◌≡◌, ◌⊎◌, ◌<◌, ◌^◌, ℕ, Bool, true, List}
use Rattle.cov_host.specs.declared.place.Place.{Place}
use Rattle.four_state.specs.Arithmetic.{low_bits}
use Rattle.four_state.specs.Operators.{matches}
use Rattle.four_state.specs.Vector.{all_known, extend}
use Rattle.four_state.specs.declared.bit.Bit.{Bit}
use Rattle.four_state.specs.declared.operator.CaseKind.TheVariants.{Exact}
use Rattle.design_model.specs.Design.{Design, body_at, signal_at}
use Rattle.design_model.specs.Mentions.{blank, is_constant}
use Rattle.design_model.specs.Tree.{Arms, Head, Stmt, Term, Terms, all_of, select, set, signal}
use Rattle.design_model.specs.Value.{head, value}
use Rattle.fsm_extract.specs.Parts.{IsArm, IsTerm, LiesIn}

-- the bits of signal s where its value is this number
abbrev pub bits_as : Design → ℕ → ℕ → List Bit
bits_as d s v = low_bits (signal_at d s).width v

-- the label mentions nothing, has no x or z, and matches a selector with this head that is signal c with the value v
pub record Matches (d : Design) (c : ℕ) (selector : Head) (v : ℕ) (label : Term) : Type 0 where
  pub constant : is_constant label ≡ true
  pub known : all_known (value d blank label) ≡ true
  pub inside : v < 2 ^ (signal_at d c).width
  pub equal : matches Exact (extend selector.width selector.signed (bits_as d c v)) (value d blank label) ≡ true

-- the right side mentions nothing, and an assignment of it to all of signal n gives the value w
pub record Gives (d : Design) (n w : ℕ) (right : Term) : Type 0 where
  pub constant : is_constant right ≡ true
  pub inside : w < 2 ^ (signal_at d n).width
  pub given : extend (signal_at d n).width (head right).signed (value d blank right) ≡ bits_as d n w

-- s is the statement of an arm, with a label that matches the value v, of a case inside the whole whose selector is signal c alone
pub record IsArmFor (d : Design) (c v : ℕ) (s whole : Stmt) : Type 0 where
  pub place : Place
  pub line : ℕ
  pub selector : Head
  pub arms : Arms
  pub a_case : LiesIn (select place line Exact (signal selector c) arms) whole
  pub labels : Terms
  pub an_arm : IsArm labels s arms
  pub label : Term
  pub a_label : IsTerm label labels
  pub matched : Matches d c selector v label

-- inside s is an assignment to all of signal n that gives the value w
pub record Assigns (d : Design) (n w : ℕ) (s : Stmt) : Type 0 where
  pub place : Place
  pub line : ℕ
  pub blocking : Bool
  pub right : Term
  pub a_set : LiesIn (set place line blocking (all_of n) right) s
  pub gives : Gives d n w right

-- an arc from the value v to the value w is drawn
pub record IsArc (d : Design) (c n v w : ℕ) : Type 0 where
  pub process : ℕ
  pub statement : Stmt
  pub from : IsArmFor d c v statement (body_at d process)
  pub assigns : Assigns d n w statement

-- a state is drawn: a label matches it, or an arc leads to it
abbrev pub IsState : Design → ℕ → ℕ → ℕ → Type 0
IsState d c n x = ((p : ℕ) × (s : Stmt) × IsArmFor d c x s (body_at d p)) ⊎ ((v : ℕ) × IsArc d c n v x)
