-- Coverage points, and where they are hit.
use Rattle.std.specs.Prelude.{◌≡◌, ◌≢◌, ◌⊎◌, ◌<◌, ◌≤◌, if◌then◌else◌, ℕ, Bool, true, false, List, length, pos, Option, Some, None, min, max, slice_index_or}
use Rattle.event_machine.specs.Cell.{Cell}
use Rattle.four_state.specs.Parts.{extended_vector, within}
use Rattle.four_state.specs.Vector.{Vector}
use Rattle.four_state.specs.declared.bit.Bit.{Bit}
use Rattle.four_state.specs.declared.bit.Bit.TheVariants.{One, Zero}
use Rattle.design_model.specs.Tree.{Term}
use Rattle.design_model.specs.Design.{Alias, Constant, Design, In, IsThing, a_word, body_at, cell, no_instance, process_at, signal_at, signal_bits}
use Rattle.design_model.specs.Value.{head, offset}
use Rattle.design_model.specs.Assignment.{signal_range}
use Rattle.design_model.specs.Mentions.{body_mentions}
use Rattle.design_model.specs.Execution.{at_line, at_node, node_cases, reads, writes_word}
use Rattle.design_model.specs.Numbered.{counted_terms, line_at, lines_of, node_at}
use Rattle.design_model.specs.Machine.{machine}
use Rattle.design_model.specs.Run.{Run, StepOf, end_of, settled, start_of}
use Rattle.design_model.specs.Shows.{BoundDump, InWindow, IsListed, IsWindow}
use Rattle.design_model.specs.Scored.{VisitsIn}
pub use Rattle.design_model.specs.declared.point.Point.{Point}
pub use Rattle.design_model.specs.declared.point.Point.TheVariants.{Line as line_point, Logic as logic_point, Toggle as toggle_point, State as state_point, Arc as arc_point, Word as word_point}

-- the bit of a signal with this index
abbrev pub indexed_cell : ℕ → Option ℕ → Cell
indexed_cell s None = cell s 0
indexed_cell s (Some k) = cell s k

-- the cell of the bit that a toggle point names
abbrev pub toggle_cell : Design → ℕ → ℕ → Cell
toggle_cell d s i =
    if (signal_at d s).ranged then indexed_cell s (within (signal_at d s).width (offset (signal_range d s) (pos i))) else cell s 0

-- the two values are those at the start and the end of the step
abbrev pub StandAtEnds : Design → (r : Run) → StepOf r → Cell → Bit → Bit → Type 0
StandAtEnds d r k c x y = ((start_of d r k).values c ≡ x) × ((end_of d r k).values c ≡ y)

-- the bit goes from 0 to 1 over the step, or from 1 to 0
abbrev pub TogglesIn : Design → (r : Run) → StepOf r → Cell → Bool → Type 0
TogglesIn d r k c true = StandAtEnds d r k c Zero One
TogglesIn d r k c false = StandAtEnds d r k c One Zero

-- the bits of a signal at the start of a step
abbrev pub old_bits : Design → (r : Run) → StepOf r → ℕ → List Bit
old_bits d r k s = signal_bits d (start_of d r k).values s

-- the bits of a signal at the end of a step
abbrev pub new_bits : Design → (r : Run) → StepOf r → ℕ → List Bit
new_bits d r k s = signal_bits d (end_of d r k).values s

-- the point is hit in this step
abbrev pub HitIn : Design → (r : Run) → StepOf r → Point → Type 0
HitIn d r k (line_point p n at w) = VisitsIn d r k p (at_line n)
HitIn d r k (logic_point p n at op c) = VisitsIn d r k p (at_node n c)
HitIn d r k (toggle_point s i rise) = TogglesIn d r k (toggle_cell d s i) rise
HitIn d r k (state_point i name s state x) = (old_bits d r k s ≢ new_bits d r k s) × (new_bits d r k s ≡ x.bits)
HitIn d r k (arc_point i name s from to x y) = (old_bits d r k s ≡ x.bits) × (new_bits d r k s ≡ y.bits)
HitIn d r k (word_point m i true) = (p : ℕ) × VisitsIn d r k p (writes_word m i)
HitIn d r k (word_point m i false) = (p : ℕ) × (inner : Bool) × VisitsIn d r k p (reads (a_word m i) inner)

-- the point is hit at a listed time, whatever the steps are: a state is the settled value there
abbrev pub HitAt : Design → Run → ℕ → Point → Type 0
HitAt d r t (state_point i name s state x) = signal_bits d (settled d r t) s ≡ x.bits
HitAt d r t _ = ⊥

-- the point is hit at this time: in its step, or at a listed time
abbrev pub IsHitAt : Design → BoundDump → Run → Point → ℕ → Type 0
IsHitAt d dump r x t = ((k : StepOf r) × (k.step.time ≡ t) × HitIn d r k x) ⊎ (IsListed dump t × HitAt d r t x)

-- a point is hit in a window step, or at a listed time of the window
abbrev pub IsHit : Design → BoundDump → Run → Point → Type 0
IsHit d dump r x = ((k : StepOf r) × InWindow dump r k × HitIn d r k x) ⊎ ((t : ℕ) × IsWindow dump t × IsListed dump t × HitAt d r t x)

-- the process is a block of the point
abbrev pub IsBlock : Design → Point → ℕ → Type 0
IsBlock d (line_point p n at w) q = q ≡ p
IsBlock d (logic_point p n at op c) q = q ≡ p
IsBlock d (toggle_point s i rise) q = ⊥
IsBlock d (state_point i name s state x) q = ⊥
IsBlock d (arc_point i name s from to x y) q = ⊥
IsBlock d (word_point m i true) q = (c : Cell) × (c.thing ≡ m) × (((machine d).blocking q c ≡ true) ⊎ ((machine d).nonblocking q c ≡ true))
IsBlock d (word_point m i false) q = body_mentions m (body_at d q) ≡ true

-- the index is one of the range
abbrev pub IsWithin : ℕ → ℕ → ℕ → Type 0
IsWithin high low i = (min high low ≤ i) × (i ≤ max high low)

-- a state machine that is named by words: a module, a variable of it, and the parameters that are its states
pub record StateNames : Type 0 where
  pub of_module : List ℕ
  pub variable : List ℕ
  pub names : List (List ℕ)

-- instance i is of this module
abbrev pub IsInstanceOf : Design → ℕ → List ℕ → Type 0
IsInstanceOf d i name = (i < length d.instances) × ((slice_index_or d.instances i no_instance).«module» ≡ name)

-- in instance i the name is that of signal s, or of an alias of it
abbrev pub IsNameOf : Design → ℕ → List ℕ → ℕ → Type 0
IsNameOf d i name s =
    ((s < length d.signals) × ((signal_at d s).instance ≡ i) × ((signal_at d s).name ≡ name)) ⊎ ((a : Alias) × In a d.aliases × (a.instance ≡ i) × (a.name ≡ name) × (a.signal ≡ s))

-- a state by its name and its value: a constant of instance i, in the width of signal s
abbrev pub IsStateValue : Design → ℕ → ℕ → List ℕ → Vector → Type 0
IsStateValue d i s state x =
    (c : Constant) × In c d.constants × (c.instance ≡ i) × (c.name ≡ state) × (x ≡ extended_vector (signal_at d s).width (signal_at d s).signed c.value)

-- in instance i the machine's variable is signal s, by this name
abbrev pub IsMachineAt : Design → StateNames → ℕ → List ℕ → ℕ → Type 0
IsMachineAt d m i name s = IsInstanceOf d i m.of_module × (name ≡ m.variable) × IsNameOf d i name s

-- the coverage points of a design with these state machines
abbrev pub IsPoint : Design → List StateNames → Point → Type 0
IsPoint d machines (line_point p n at w) = In (line_at n at w) (lines_of (process_at d p))
IsPoint d machines (logic_point p n at op c) = (t : Term) × In t (counted_terms (process_at d p)) × In (record { node = n; place = at; op = op }) (node_at (head t).node t) × In c (node_cases t)
IsPoint d machines (toggle_point s i rise) = (s < length d.signals) × IsWithin (signal_at d s).high (signal_at d s).low i
IsPoint d machines (state_point i name s state x) = (m : StateNames) × In m machines × IsMachineAt d m i name s × In state m.names × IsStateValue d i s state x
IsPoint d machines (arc_point i name s from to x y) =
    (m : StateNames) × In m machines × IsMachineAt d m i name s × In from m.names × In to m.names × (from ≢ to) × IsStateValue d i s from x × IsStateValue d i s to y
IsPoint d machines (word_point m i write) = IsThing d (a_word m i)
