-- What wakes each process of a list of processes, by signal and memory.
use Rattle.std.specs.Prelude.{◌≡◌, ◌<◌, ◌↔◌, if◌then◌else◌, ℕ, true, List, [], ◌∷◌, length, slice_index_or}
use Rattle.std.specs.List.{Contains}
use Rattle.design_model.specs.event_machine.Machine.{Edge as MachineEdge, Posedge, Negedge}
use Rattle.four_state.specs.declared.edge.Edge.{Edge}
use Rattle.four_state.specs.declared.edge.Edge.TheVariants.{Neg, Pos}
use Rattle.design_model.specs.Design.{cell, no_process}
use Rattle.design_model.specs.Machine.{events_of, is_level, lists_edge, same_edge}
use Rattle.design_model.specs.Tree.{Process}
use Rattle.index_sets.specs.Rows.{row_at}

-- the edge of the machine
abbrev pub machine_edge : Edge → MachineEdge
machine_edge Pos = Posedge
machine_edge Neg = Negedge

-- the signals of which a list contains the edge
abbrev pub edges_named : MachineEdge → List (Edge × ℕ) → List ℕ
edges_named e [] = []
edges_named e (f ∷ fs) = if same_edge f.0 e then f.1 ∷ edges_named e fs else edges_named e fs

-- the signals of which a process lists the edge
abbrev pub edge_names : MachineEdge → Process → List ℕ
edge_names e p = edges_named e (events_of p)

-- for each signal or memory the processes that each change of it wakes
pub record IsLevelTable (processes : List Process) (count : ℕ) (rows : List (List ℕ)) : Type 0 where
  pub count_is : length rows ≡ count
  pub has : (x p : ℕ) → x < count → Contains (row_at rows x) p ↔ (is_level (slice_index_or processes p no_process) x ≡ true)

-- for each signal the processes that list this edge of it
pub record IsEdgeTable (e : MachineEdge) (processes : List Process) (count : ℕ) (rows : List (List ℕ)) : Type 0 where
  pub count_is : length rows ≡ count
  pub has : (x p : ℕ) → x < count → Contains (row_at rows x) p ↔ (lists_edge (slice_index_or processes p no_process) e (cell x 0) ≡ true)
