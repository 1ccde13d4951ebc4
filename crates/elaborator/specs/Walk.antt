-- A walk over the instances of modules, and the part of the flat design that it has come to.
use Rattle.std.specs.Prelude.{◌≡◌, ◌≤◌, ℕ, ◌+◌, true, false, List, [], ◌∷◌, ◌++◌, filter, is_some, length, None, Some}
use Rattle.design_model.specs.Design as model
use Rattle.design_model.specs.Tree as t
use Rattle.design_model.specs.View.{design_view}
use Rattle.design_model.specs.declared.design.Design.{Design}
use Rattle.flat_design.specs.Bodies.{Met}
use Rattle.verilog_tree.specs.Tree.{Item}
use Rattle.flat_design.specs.Numbering.{form_lines, form_nodes}
use Rattle.flat_design.specs.Scope.{Scope}
use Rattle.flat_design.specs.Instances.{Context, Instantiation, Sofar, declared, is_memory, opened, opening_met}
use Rattle.elab_scope.specs.Tally.{Tally, after_all}
use Rattle.elaborator.specs.declared.walk.Numbers.{Numbers}
use Rattle.elaborator.specs.declared.walk.Walk.{Walk}

-- the counts of the limits are those of the design, and this number of memories was counted
pub record HasNumbers (t : Tally) (n : ℕ) (d : model.Design) : Type 0 where
  pub signals : t.counts.signals ≡ length d.signals
  pub processes : t.counts.processes ≡ length d.processes
  pub instances : t.counts.instances ≡ length d.instances
  pub memories : n ≡ length d.memories
  pub words : n ≤ t.counts.words  -- a memory has a word at least

-- a tally that began with the first has met what was met so far, and the numbers are right unless a limit is passed
pub record StandsFor (before t : Tally) (n : ℕ) (st : Sofar) : Type 0 where
  pub met : t ≡ after_all before st.met
  pub told : t.ended ≡ true → t.first ≡ None → ⊥
  pub numbers : t.ended ≡ false → HasNumbers t n st.design

-- with one more process
abbrev pub with_process : t.Process → model.Design → model.Design
with_process p d = record d { processes = d.processes ++ p ∷ [] }

-- nothing was reported, and no limit is passed
pub record IsClean (t : Tally) : Type 0 where
  pub open' : t.ended ≡ false
  pub none : t.first ≡ None

-- the walk builds the design whose memories are numbered from b on, and nothing was reported
pub record IsBuilding (base b : ℕ) (w : Walk) (d : Design) : Type 0 where
  pub same : b ≡ base
  pub draft : w.draft ≡ Some d
  pub clean : IsClean w.tally

-- the walk has come to this part of the flat design whose memories are numbered from b on
pub record IsAt (before : Tally) (base b : ℕ) (w : Walk) (st : Sofar) : Type 0 where
  pub stands : StandsFor before w.tally w.memories st
  pub built : (d : Design) → IsBuilding base b w d → design_view d ≡ st.design

-- and in an instance of number i, whose line points are numbered from l on and counted nodes from n on
pub record IsAmong (before : Tally) (base b : ℕ) (w : Walk) (numbers : Numbers) (st : Sofar) (i l n : ℕ) : Type 0 where
  pub at : IsAt before base b w st
  pub numbered : (d : Design) → IsBuilding base b w d → (numbers.instance ≡ i) × (numbers.line ≡ l) × (numbers.node ≡ n)

-- the later walk has a design where this one has one, and where nothing was reported later, nothing was before
pub record Remains (w later : Walk) : Type 0 where
  pub drafted : is_some later.draft ≡ is_some w.draft
  pub was : (d : Design) → later.draft ≡ Some d → IsClean later.tally → (o : Design) × (w.draft ≡ Some o) × IsClean w.tally

-- from one moment to the next the walk in an instance goes by this step, which takes this number of line points and counted nodes
abbrev pub GoesBy : ℕ → Walk → Numbers → Walk → Numbers → (ℕ → ℕ → ℕ → ℕ → Sofar → Sofar) → ℕ → ℕ → Type 0
GoesBy base w numbers later others f lines nodes =
    (before : Tally) (b : ℕ) (st : Sofar) (i l n : ℕ) → IsAmong before base b w numbers st i l n → IsAmong before base b later others (f b i l n st) i (l + lines) (n + nodes) × Remains w later

-- this was found, and the process added to the design, if one is built and nothing was reported
pub record Adds (w later : Walk) (ms : List Met) (p : t.Process) : Type 0 where
  pub met : later.tally ≡ after_all w.tally ms
  pub memories : later.memories ≡ w.memories
  pub drafted : is_some later.draft ≡ is_some w.draft
  pub draft : (d : Design) → later.draft ≡ Some d → IsClean later.tally → (o : Design) × (w.draft ≡ Some o) × (design_view d ≡ with_process p (design_view o))

-- from one moment to the next the walk goes by this step
abbrev pub WalksBy : ℕ → Walk → Walk → (ℕ → Sofar → Sofar) → Type 0
WalksBy base w later f = (before : Tally) (b : ℕ) (st : Sofar) → IsAt before base b w st → IsAt before base b later (f b st) × Remains w later

-- the design with what an instance opens
abbrev pub opened_design : Instantiation → model.Design → model.Design
opened_design i d = (opened i (record { design = d; met = [] })).design

-- the instance was opened, and its own parts are added to the design, if one is built and nothing was reported
pub record Opens (w later : Walk) (numbers : Numbers) (i : Instantiation) : Type 0 where
  pub met : later.tally ≡ after_all w.tally (opening_met i)
  pub memories : later.tally.ended ≡ false → later.memories ≡ w.memories + length (filter is_memory (declared i.overrides i.of_module))
  pub instance : later.tally.ended ≡ false → numbers.instance ≡ w.tally.counts.instances
  pub drafted : is_some later.draft ≡ is_some w.draft
  pub draft : (d : Design) → later.draft ≡ Some d → IsClean later.tally
      → (o : Design) × (w.draft ≡ Some o) × (w.tally.counts.instances ≡ length (design_view o).instances → design_view d ≡ opened_design i (design_view o))
  pub line : numbers.line ≡ 1
  pub node : numbers.node ≡ 1

-- what is around the items of an instance of this number in this scope
abbrev pub around_here : ℕ → Instantiation → ℕ → Scope → Context
around_here base i n g = record { given = i; number = n; scope = g; base = base }

-- the line points of items
abbrev pub items_lines : List Item → ℕ
items_lines [] = 0
items_lines (x ∷ xs) = form_lines x.form + items_lines xs

-- the counted nodes of items
abbrev pub items_nodes : Scope → List Item → ℕ
items_nodes g [] = 0
items_nodes g (x ∷ xs) = form_nodes g x.form + items_nodes g xs
