-- A design as a machine: which process is sensitive to what, what it may write, and what its evaluation writes (IEEE 1364-2001, 5.1).
-- It knows nothing of expressions and statements: what a body does is the field `evaluate`.
use Rattle.std.specs.Prelude.{◌≡◌, ◌⊎◌, ◌↔◌, ◌≤◌, ℕ, Bool, true, false, not, ◌&&◌, ◌||◌, List, [], ◌∷◌, ◌++◌}
use Rattle.event_machine.specs.Cell.{Cell, Values, Write, Update, put, WritesCell, UpdatesCell, join, times}

-- the edges of event controls (IEEE 1364-2001, 9.7.2)
pub data Edge : Type 0 where
  Posedge : Edge
  Negedge : Edge

-- what one evaluation of a process writes, in order: its blocking writes, and an update for each nonblocking assignment
pub record Outcome (V : Type 0) : Type 0 where
  pub blocking : List (Write V)
  pub nonblocking : List (Update V)

-- a design, with values from V; processes are numbers
pub record Machine (V : Type 0) : Type 0 where
  pub same : V → V → Bool  -- equality of values
  pub is_edge : Edge → V → V → Bool  -- going from the first value to the second is this edge
  pub is_input : Cell → Bool  -- the environment moves the cell
  pub is_event_signal : ℕ → Bool  -- a Clocked lists an edge of the thing
  pub is_assign : ℕ → Bool  -- the process is a continuous assignment
  pub level : ℕ → ℕ → Bool  -- the process is sensitive to each change of the thing: an Assign or Comb that mentions or lists it
  pub edge : ℕ → Edge → Cell → Bool  -- the process is sensitive to this edge of the cell: a Clocked that lists it
  pub blocking : ℕ → Cell → Bool  -- the process may write the cell by a blocking write
  pub nonblocking : ℕ → Cell → Bool  -- the process may write the cell by a nonblocking write
  pub writes_once : ℕ → Cell → Bool  -- the process's text shows that one evaluation writes the cell at most once
  pub evaluate : ℕ → Values V → Outcome V  -- what the process writes, evaluated on these values

-- all that one evaluation writes: the blocking writes, then the updates
abbrev pub output : {V : Type 0} → Machine V → ℕ → Values V → List (Write V)
output m p v = (m.evaluate p v).blocking ++ join (m.evaluate p v).nonblocking

-- whether process p is sensitive to a cell's going from x to y (IEEE 1364-2001, 5.2, 9.7)
unfoldable pub is_sensitive : {V : Type 0} → Machine V → ℕ → Cell → V → V → Bool
is_sensitive m p c x y =
    (m.level p c.thing && not (m.same x y)) || ((m.edge p Posedge c && m.is_edge Posedge x y) || (m.edge p Negedge c && m.is_edge Negedge x y))

-- whether one of these writes, in order from v, wakes process p
abbrev pub wakes : {V : Type 0} → Machine V → ℕ → Values V → List (Write V) → Bool
wakes m p v [] = false
wakes m p v (w ∷ ws) = is_sensitive m p w.cell (v w.cell) w.value || wakes m p (put v w) ws

-- process p may write the cell
abbrev pub IsTarget : {V : Type 0} → Machine V → ℕ → Cell → Type 0
IsTarget m p c = (m.blocking p c ≡ true) ⊎ (m.nonblocking p c ≡ true)

-- each change of the cell wakes p, which does not itself assign it
abbrev pub IsWakeCell : {V : Type 0} → Machine V → ℕ → Cell → Type 0
IsWakeCell m p c = (m.level p c.thing ≡ true) × (m.blocking p c ≡ false)

-- p is combinational for c: what it writes depends on its wake cells alone, and c is always among its blocking writes
pub record IsCombinational {V : Type 0} (m : Machine V) (p : ℕ) (c : Cell) : Type 0 where
  pub reads : (u v : Values V) → ((d : Cell) → IsWakeCell m p d → u d ≡ v d) → m.evaluate p u ≡ m.evaluate p v
  pub writes : (v : Values V) → WritesCell (m.evaluate p v).blocking c

-- what the laws ask of a design and of its values
pub record IsLawful {V : Type 0} (m : Machine V) : Type 0 where
  pub same_is : (x y : V) → m.same x y ≡ true → x ≡ y
  pub same_self : (x : V) → m.same x x ≡ true
  pub edge_changes : (e : Edge) (x : V) → m.is_edge e x x ≡ false
  pub event_signals : (x : ℕ) → (m.is_event_signal x ≡ true) ↔ ((p : ℕ) × (e : Edge) × (c : Cell) × (c.thing ≡ x) × (m.edge p e c ≡ true))
  pub blocking_kept : (p : ℕ) (v : Values V) (c : Cell) → WritesCell (m.evaluate p v).blocking c → m.blocking p c ≡ true
  pub nonblocking_kept : (p : ℕ) (v : Values V) (c : Cell) → UpdatesCell (m.evaluate p v).nonblocking c → m.nonblocking p c ≡ true
  pub once_kept : (p : ℕ) (v : Values V) (c : Cell) → m.writes_once p c ≡ true → times c (output m p v) ≤ 1
  pub inputs_kept : (p : ℕ) (c : Cell) → m.is_input c ≡ true → IsTarget m p c → ⊥  -- no process writes an input
  pub not_both : (p : ℕ) (c : Cell) → m.blocking p c ≡ true → m.nonblocking p c ≡ true → ⊥  -- no cell is written both ways
  pub one_writer : (p q : ℕ) (c : Cell) → IsTarget m p c → IsTarget m q c → p ≡ q  -- a cell is written by one process
  pub input_has_one_bit : (p : ℕ) (e : Edge) (c d : Cell) → m.edge p e c ≡ true → m.is_input d ≡ true → d.thing ≡ c.thing → d ≡ c  -- an event signal has one bit
  pub target_has_one_bit : (p q : ℕ) (e : Edge) (c d : Cell) → m.edge p e c ≡ true → IsTarget m q d → d.thing ≡ c.thing → d ≡ c
  pub assigns_combinational : (p : ℕ) (c : Cell) → m.is_assign p ≡ true → m.blocking p c ≡ true → IsCombinational m p c
