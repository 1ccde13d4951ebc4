-- Slots in the tables of numbers.
use Rattle.std.specs.Prelude.{◌+◌, ◌*◌, ℕ, Bool, List, length, map, slice_index_or}
use Rattle.cover_points.specs.point_words.declared.node_case.NodeCase.{NodeCase}
use Rattle.number_tables.specs.declared.slot.Slot.{Slot}
use Rattle.cover_points.specs.text_points.declared.points.LinePoint.{LinePoint}
use Rattle.cover_points.specs.text_points.declared.points.NodePoint.{NodePoint}
use Rattle.cover_points.specs.Order.{case_rank, second_rank}
use Rattle.cover_points.specs.declared.machine_point.MachinePoint.{MachinePoint}
use Rattle.cover_points.specs.declared.machine_point.MachinePoint.TheVariants.{Arc, State}
use Rattle.cover_points.specs.declared.points.IndexPoint.{IndexPoint}
use Rattle.cover_points.specs.design_machines.declared.machine.Machine.{Machine}

-- of a statement: a row for each process, and a column for each number
abbrev pub line_slot : ℕ → ℕ → Slot
line_slot p n = record { row = p; column = n }

-- of a case of a node: a row for each process, and ten columns for each number
abbrev pub node_slot : ℕ → ℕ → NodeCase → Slot
node_slot p n c = record { row = p; column = n * 10 + case_rank c }

-- of a point of a bit or of a word: a row for each signal or memory, and two columns for each index
abbrev pub index_slot : ℕ → ℕ → Bool → Slot
index_slot x i second = record { row = x; column = i * 2 + second_rank second }

-- of a state or an arc of machines with these counts of states: a row for each machine, a column for each state, and then one for each pair of states
abbrev pub machine_slot : List ℕ → MachinePoint → Slot
machine_slot counts (State k s) = record { row = k; column = s }
machine_slot counts (Arc k i j) = record { row = k; column = (i + 1) * slice_index_or counts k 0 + j }

-- how many states each machine has
abbrev pub state_counts : List Machine → List ℕ
state_counts xs = map (λ x. length x.names) xs

abbrev pub machine_slots : List ℕ → List MachinePoint → List Slot
machine_slots counts ps = map (machine_slot counts) ps

abbrev pub line_slots : List LinePoint → List Slot
line_slots xs = map (λ x. line_slot x.process x.line) xs

abbrev pub node_slots : List NodePoint → List Slot
node_slots xs = map (λ x. node_slot x.process x.node x.case) xs

abbrev pub index_slots : List IndexPoint → List Slot
index_slots xs = map (λ x. index_slot x.thing x.index x.second) xs
