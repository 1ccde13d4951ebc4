-- What more knowledge does: more bodies read within it, more is visited and surely open, and less is open.
use Rattle.std.specs.Prelude.{List}
use Rattle.event_machine.specs.Cell.{Values}
use Rattle.four_state.specs.declared.bit.Bit.{Bit}
use Rattle.design_model.specs.Tree.{Stmt}
use Rattle.design_model.specs.Design.{Design, Thing}
use Rattle.design_model.specs.Execution.{Visit}
use Rattle.design_model.specs.Reads.{Agrees, ReadsWithin, PartialMap, VisitsFrom}
use Rattle.design_model.specs.Points.{Point}
use Rattle.design_model.specs.Open.{IsOpen, IsSurelyOpen, ReachesFrom}

-- the second map has each value of the first
abbrev pub HasAllOf : PartialMap → PartialMap → Type 0
HasAllOf K L = (x : Thing) (bits : List Bit) → K x bits → L x bits

-- a body does from L what it does from K: it reads within, visits, has surely open and reaches, no less, and has open no more
pub record DoesNoLess (d : Design) (K L : PartialMap) (b : Stmt) : Type 0 where
  pub reads_within : ReadsWithin d K b → ReadsWithin d L b
  pub visits : (y : Visit) → VisitsFrom d K b y → VisitsFrom d L b y
  pub surely_open : (x : Point) → IsSurelyOpen d K b x → IsSurelyOpen d L b x
  pub reaches : (x : Point) → ReachesFrom d K b x → ReachesFrom d L b x
  pub no_more_open : (x : Point) → IsOpen d L b x → IsOpen d K b x

-- More-known law: so it is where L has each value of K and some state agrees with L.
abbrev pub MoreKnownLaw : Design → PartialMap → PartialMap → Type 0
MoreKnownLaw d K L = (v : Values Bit) → Agrees d L v → HasAllOf K L → (b : Stmt) → DoesNoLess d K L b
