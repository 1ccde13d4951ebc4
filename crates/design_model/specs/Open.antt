-- Which points are open, surely open or reached for a block, from what it knows.
use Rattle.std.specs.Prelude.{◌≡◌, ◌≢◌, ◌⊎◌, ◌-◌, ◌<◌, ◌∷◌, ◌++◌, ℕ, Bool, true, false, List, [], length, Some, ⊤}
use Rattle.event_machine.specs.Cell.{Cell, Values}
use Rattle.event_machine.specs.Machine.{IsWakeCell}
use Rattle.event_machine.specs.Habit.{Habit}
use Rattle.four_state.specs.Operators.{matches}
use Rattle.four_state.specs.Vector.{truth}
use Rattle.four_state.specs.declared.bit.Bit.{Bit}
use Rattle.four_state.specs.declared.truth.Truth.{Truth}
use Rattle.four_state.specs.declared.truth.Truth.TheVariants.{False, True}
use Rattle.design_model.specs.Tree.{Head, Stmt, Target, Targets, Term, a_target, all_of, binary, bits_of, no_targets, several, word, word_of}
use Rattle.design_model.specs.Design.{Design, In, IsClocked, Thing, a_word, body_at, owner, process_at, signal_at}
use Rattle.design_model.specs.Value.{head, value, word_named}
use Rattle.design_model.specs.Mentions.{body_assigns, body_blocks, index_terms, mentions, subterms}
use Rattle.design_model.specs.Execution.{BothFalse, BothTrue, FalseTrue, LeftFalse, LeftTrue, NodeCase, RightFalse, RightTrue, TrueFalse, ValueFalse, ValueTrue, Visit, at_line, at_node, node_cases, reads, visits_of, writes_word}
use Rattle.design_model.specs.Paths.{Action, Path, PlacedAction, assigns, compares, paths, reaches, selects, tests}
use Rattle.design_model.specs.Reads.{Agrees, AllInside, PartialMap, VisitsFrom}
use Rattle.design_model.specs.Machine.{machine}
use Rattle.design_model.specs.Shows.{BoundDump, IsWindow}
use Rattle.design_model.specs.Points.{IsBlock, Point, line_point, logic_point, word_point}
use Rattle.design_model.specs.MayMove.{CanWakeSome, IsCleanAt}
use Rattle.design_model.specs.Clear.{EntryFrom, clear, clear_before}

-- no thing has been written yet
abbrev pub outer : Thing → Bool
outer x = false

-- a term is fixed in body b: it reads only what is in the map, and mentions nothing that the body writes by a blocking write
pub record IsFixed (d : Design) (K : PartialMap) (b : Stmt) (t : Term) : Type 0 where
  pub within : (v : Values Bit) → Agrees d K v → AllInside K (visits_of d v outer t)
  pub unwritten : (x : ℕ) → mentions x t ≡ true → body_blocks x b ≡ false

-- on every state with the map's values
abbrev pub OnAll : Design → PartialMap → (Values Bit → Type 0) → Type 0
OnAll d K P = (v : Values Bit) → Agrees d K v → P v

-- whether a truth is true
abbrev pub is_true : Truth → Bool
is_true True = true
is_true _ = false

-- where a test is fixed the path decides it as its value does
abbrev pub FollowsFixed : Design → PartialMap → Stmt → Action → Type 0
FollowsFixed d K b (reaches n) = ⊤
FollowsFixed d K b (tests t taken) = IsFixed d K b t → OnAll d K (λ v. is_true (truth (value d v t)) ≡ taken)
FollowsFixed d K b (selects t) = ⊤
FollowsFixed d K b (compares kind on t taken) = IsFixed d K b on → IsFixed d K b t → OnAll d K (λ v. matches kind (value d v on) (value d v t) ≡ taken)
FollowsFixed d K b (assigns blocking x t) = ⊤

-- so does each of its actions
abbrev pub FollowsAll : Design → PartialMap → Stmt → Path → Type 0
FollowsAll d K b [] = ⊤
FollowsAll d K b (x ∷ xs) = FollowsFixed d K b x.action × FollowsAll d K b xs

-- an open path through the body
pub record IsOpenPath (d : Design) (K : PartialMap) (b : Stmt) (path : Path) : Type 0 where
  pub is_path : In path (paths [] b)
  pub follows : FollowsAll d K b path

-- the terms that an action evaluates
abbrev pub action_terms : Action → List Term
action_terms (reaches n) = []
action_terms (tests t taken) = subterms t
action_terms (selects t) = subterms t
action_terms (compares kind on t taken) = subterms t
action_terms (assigns blocking x t) = index_terms x ++ subterms t

-- the indexes of the words of memory m that a target names
abbrev mutual
  pub TargetWord : ℕ → Target → Term → Type 0
  TargetWord m (all_of s) i = ⊥
  TargetWord m (bits_of s low w) i = ⊥
  TargetWord m (word_of n j) i = (n ≡ m) × (j ≡ i)
  TargetWord m (several ts) i = SomeTargetWord m ts i

  pub SomeTargetWord : ℕ → Targets → Term → Type 0
  SomeTargetWord m no_targets i = ⊥
  SomeTargetWord m (a_target t ts) i = TargetWord m t i ⊎ SomeTargetWord m ts i

-- the action writes a word of memory m by this index
abbrev pub ActionWrites : ℕ → Action → Term → Type 0
ActionWrites m (assigns blocking x t) i = TargetWord m x i
ActionWrites m _ i = ⊥

-- the action reads a word of memory m by this index
abbrev pub ActionReads : ℕ → Action → Term → Type 0
ActionReads m x i = (h : Head) × In (word h m i) (action_terms x)

-- the action writes, or reads, a word of memory m by this index
abbrev pub ActionOnWord : Bool → ℕ → Action → Term → Type 0
ActionOnWord true m x i = ActionWrites m x i
ActionOnWord false m x i = ActionReads m x i

-- the path has at this place an action with P
abbrev pub HasAction : (Action → Type 0) → List ℕ → Path → Type 0
HasAction P at path = (x : PlacedAction) × In x path × (x.at ≡ at) × P x.action

-- P on some open path
abbrev pub OnSomePath : Design → PartialMap → Stmt → (Action → Type 0) → Type 0
OnSomePath d K b P = (path : Path) × IsOpenPath d K b path × ((at : List ℕ) × HasAction P at path)

-- P at the same place on every open path
abbrev pub OnEachPath : Design → PartialMap → Stmt → (Action → Type 0) → Type 0
OnEachPath d K b P = (at : List ℕ) × ((path : Path) → IsOpenPath d K b path → HasAction P at path)

-- a term of which a case asks a truth
pub record Asked : Type 0 where
  pub operand : Term
  pub is : Truth

-- an operand with the truth that is asked
abbrev pub asked : Term → Truth → Asked
asked t x = record { operand = t; is = x }

-- the operands of which a case asks a truth; for 0 and 1 the node itself
abbrev pub asks : NodeCase → Term → List Asked
asks ValueFalse t = asked t False ∷ []
asks ValueTrue t = asked t True ∷ []
asks LeftFalse (binary h op t u) = asked t False ∷ []
asks RightFalse (binary h op t u) = asked u False ∷ []
asks LeftTrue (binary h op t u) = asked t True ∷ []
asks RightTrue (binary h op t u) = asked u True ∷ []
asks BothFalse (binary h op t u) = asked t False ∷ asked u False ∷ []
asks FalseTrue (binary h op t u) = asked t False ∷ asked u True ∷ []
asks TrueFalse (binary h op t u) = asked t True ∷ asked u False ∷ []
asks BothTrue (binary h op t u) = asked t True ∷ asked u True ∷ []
asks _ _ = []

-- the operand has the truth that is asked, on every state with the values of K
abbrev pub HasTruth : Design → PartialMap → Asked → Type 0
HasTruth d K a = OnAll d K (λ v. truth (value d v a.operand) ≡ a.is)

-- each operand that is fixed has the truth that is asked
abbrev pub MayBeAsked : Design → PartialMap → Stmt → List Asked → Type 0
MayBeAsked d K b [] = ⊤
MayBeAsked d K b (a ∷ as') = (IsFixed d K b a.operand → HasTruth d K a) × MayBeAsked d K b as'

-- each operand is fixed and has the truth that is asked
abbrev pub AreAsked : Design → PartialMap → Stmt → List Asked → Type 0
AreAsked d K b [] = ⊤
AreAsked d K b (a ∷ as') = IsFixed d K b a.operand × HasTruth d K a × AreAsked d K b as'

-- the index names this word
abbrev pub NamesWord : Design → PartialMap → ℕ → ℕ → Term → Type 0
NamesWord d K m k i = OnAll d K (λ v. word_named d v m i ≡ Some k)

-- the action evaluates the term, which is node n
abbrev pub IsNode : ℕ → Action → Term → Type 0
IsNode n x t = In t (action_terms x) × ((head t).node ≡ Some n)

-- the point is open: some open path reaches, evaluates, reads or writes it
abbrev pub IsOpen : Design → PartialMap → Stmt → Point → Type 0
IsOpen d K b (line_point p n at w) = OnSomePath d K b (λ x. x ≡ reaches n)
IsOpen d K b (logic_point p n at op c) = OnSomePath d K b (λ x. (t : Term) × IsNode n x t × MayBeAsked d K b (asks c t))
IsOpen d K b (word_point m k w) = OnSomePath d K b (λ x. (i : Term) × ActionOnWord w m x i × (IsFixed d K b i → NamesWord d K m k i))
IsOpen d K b _ = ⊥

-- the point is surely open: every open path does so, at the same copy
abbrev pub IsSurelyOpen : Design → PartialMap → Stmt → Point → Type 0
IsSurelyOpen d K b (line_point p n at w) = OnEachPath d K b (λ x. x ≡ reaches n)
IsSurelyOpen d K b (logic_point p n at op c) = (t : Term) × In c (node_cases t) × AreAsked d K b (asks c t) × OnEachPath d K b (λ x. IsNode n x t)
IsSurelyOpen d K b (word_point m k w) = (i : Term) × IsFixed d K b i × NamesWord d K m k i × OnEachPath d K b (λ x. ActionOnWord w m x i)
IsSurelyOpen d K b _ = ⊥

-- what Clocked p knows on entry at t: nothing where it is not clean
abbrev pub KnownOnEntry : Design → Habit → BoundDump → ℕ → ℕ → PartialMap
KnownOnEntry d h dump t p x bits = (c : Cell) × IsCleanAt d dump t p c × EntryFrom d h dump t (clear_before d h dump t) p c x bits

-- what Assign or Comb p knows at t: what is clear, without its own targets
abbrev pub KnownAtEnd : Design → Habit → BoundDump → ℕ → ℕ → PartialMap
KnownAtEnd d h dump t p x bits = (body_assigns (owner x) (body_at d p) ≡ false) × clear d h dump t x bits

-- Clocked p is not clean at t
abbrev pub IsNotClean : Design → BoundDump → ℕ → ℕ → Type 0
IsNotClean d dump t p = (c : Cell) → IsCleanAt d dump t p c → ⊥

-- process p is an Assign or a Comb
abbrev pub IsNotClocked : Design → ℕ → Type 0
IsNotClocked d p = IsClocked (process_at d p) → ⊥

-- the point is open for block p at t; for a Clocked that can wake and is not clean each is
abbrev pub IsOpenFor : Design → Habit → BoundDump → ℕ → ℕ → Point → Type 0
IsOpenFor d h dump t p x =
    (CanWakeSome d dump t p × (IsNotClean d dump t p ⊎ IsOpen d (KnownOnEntry d h dump t p) (body_at d p) x)) ⊎ (IsNotClocked d p × IsOpen d (KnownAtEnd d h dump t p) (body_at d p) x)

-- a bit of a signal that p mentions or lists and does not itself assign
abbrev pub IsWakeBit : Design → ℕ → Cell → Type 0
IsWakeBit d p c = (c.thing < length d.signals) × (c.place < (signal_at d c.thing).width) × IsWakeCell (machine d) p c

-- a wake bit of p that belongs to a bound signal changes over t
abbrev pub HasChangedWakeBit : Design → BoundDump → ℕ → ℕ → Type 0
HasChangedWakeBit d dump t p = (c : Cell) × IsWakeBit d p c × (dump.bound c.thing ≡ true) × (dump.values (t - 1) c ≢ dump.values t c)

-- the visit is of the point
abbrev pub IsVisitOf : Point → Visit → Type 0
IsVisitOf (line_point p n at w) x = x ≡ at_line n
IsVisitOf (logic_point p n at op c) x = x ≡ at_node n c
IsVisitOf (word_point m k true) x = x ≡ writes_word m k
IsVisitOf (word_point m k false) x = (inner : Bool) × (x ≡ reads (a_word m k) inner)
IsVisitOf _ x = ⊥

-- from K the body visits the point up to its first read outside, or the point is surely open
abbrev pub ReachesFrom : Design → PartialMap → Stmt → Point → Type 0
ReachesFrom d K b x = ((y : Visit) × IsVisitOf x y × VisitsFrom d K b y) ⊎ IsSurelyOpen d K b x

-- block p reaches the point at window time t
abbrev pub IsReached : Design → Habit → BoundDump → ℕ → ℕ → Point → Type 0
IsReached d h dump t p x =
    IsWindow dump t × IsBlock d x p × (((c : Cell) × IsCleanAt d dump t p c × ReachesFrom d (KnownOnEntry d h dump t p) (body_at d p) x) ⊎ (IsNotClocked d p × HasChangedWakeBit d dump t p × ReachesFrom d (KnownAtEnd d h dump t p) (body_at d p) x))
