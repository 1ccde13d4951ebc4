-- Expressions, targets, statements and processes of an elaborated design, as plain trees.
use Rattle.std.specs.Prelude.{ℕ, Bool, List, Option}
use Rattle.cov_host.specs.declared.place.Place.{Place}
use Rattle.four_state.specs.Vector.{Vector}
use Rattle.four_state.specs.declared.edge.Edge.{Edge}
use Rattle.four_state.specs.declared.operator.Binary.{Binary}
use Rattle.four_state.specs.declared.operator.CaseKind.{CaseKind}
use Rattle.four_state.specs.declared.operator.Unary.{Unary}

-- what every term has: its place, the width and sign that its context gives it, and its number as a counted node
pub record Head : Type 0 where
  pub place : Place
  pub width : ℕ
  pub signed : Bool
  pub node : Option ℕ

-- signals are numbered from 0 on, and memories after them
mutual
  pub data Term : Type 0 where
    number : Head → Vector → Term
    signal : Head → ℕ → Term
    word : Head → ℕ → Term → Term  -- a word of a memory, by its index
    bit : Head → Term → Term → Term  -- t[i]
    part : Head → Term → Term → Term → Term  -- t[h:l]
    slide : Head → Term → Term → Term → Bool → Term  -- t[b +: w], or with false t[b -: w]
    unary : Head → Unary → Term → Term
    binary : Head → Binary → Term → Term → Term
    choice : Head → Term → Term → Term → Term  -- c ? a : b
    concat : Head → Terms → Term  -- the first term is the highest
    repeat : Head → Term → Terms → Term
    sign : Head → Bool → Term → Term  -- $signed or $unsigned

  pub data Terms : Type 0 where
    no_terms : Terms
    a_term : Term → Terms → Terms

-- what an assignment is to (IEEE 1364-2001, clause 6)
mutual
  pub data Target : Type 0 where
    all_of : ℕ → Target  -- a whole signal
    bits_of : ℕ → Term → ℕ → Target  -- so many bits of a signal, from the bit with this index up
    word_of : ℕ → Term → Target  -- a word of a memory, by its index
    several : Targets → Target  -- the first target is the highest

  pub data Targets : Type 0 where
    no_targets : Targets
    a_target : Target → Targets → Targets

-- a statement with its place and, where it is a line point, its number
mutual
  pub data Stmt : Type 0 where
    block : Place → Stmts → Stmt
    branch : Place → ℕ → Term → Stmt → Stmts → Stmt  -- if; the last has the else statement, if there is one
    select : Place → ℕ → CaseKind → Term → Arms → Stmt  -- case
    turns : Place → ℕ → Stmts → Stmt  -- for, with each turn written out
    set : Place → ℕ → Bool → Target → Term → Stmt  -- with true a blocking assignment
    empty : Place → Stmt

  pub data Stmts : Type 0 where
    no_stmts : Stmts
    a_stmt : Stmt → Stmts → Stmts

  -- an arm without labels is the default
  pub data Arms : Type 0 where
    no_arms : Arms
    arm : Terms → Stmt → Arms → Arms

-- a process (IEEE 1364-2001, 5.1)
pub data Process : Type 0 where
  assign : ℕ → Target → Term → Bool → Process  -- a continuous assignment; whether it has coverage points
  comb : ℕ → List ℕ → Stmt → Process  -- an always @* or one with a list of names; the list
  clocked : ℕ → List (Edge × ℕ) → Stmt → Process  -- an always with a list of edges
