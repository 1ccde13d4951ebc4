-- The states and arcs of the state machines of a design.
use Rattle.std.specs.Prelude.{◌==◌, ◌++◌, if◌then◌else◌, ℕ, List, [], ◌∷◌, length, slice_index_or, ⊤}
use Rattle.std.specs.declared.cmp.Ordering.{Ordering}
use Rattle.std.specs.Ordering.{nat_cmp, ordering_then}
use Rattle.std.specs.List.{flat_map, range_with_len}
use Rattle.design_model.specs.four_state.Vector.{Vector}
use Rattle.design_machines.specs.state_machines.Same.{no_value}
use Rattle.design_machines.specs.Machines.{machine_at, name_at}
use Rattle.design_machines.specs.declared.machine.Machine.{Machine}
use Rattle.design_model.specs.declared.design.Instance.{Instance}
use Rattle.design_model.specs.declared.point.Point.{Point}
use Rattle.design_model.specs.declared.point.Point.TheVariants.{State as state_point, Arc as arc_point}
use Rattle.cover_points.specs.Order.{bytes_cmp, path_at}
use Rattle.cover_points.specs.declared.machine_point.MachinePoint.{MachinePoint}
use Rattle.cover_points.specs.declared.machine_point.MachinePoint.TheVariants.{State, Arc}

-- the states of machine k, which has n states
abbrev pub states_of : ℕ → ℕ → List MachinePoint
states_of k n = flat_map (λ s. State k s ∷ []) (range_with_len 0 n)

-- the arc from one state to another
abbrev pub arc_to : ℕ → ℕ → ℕ → List MachinePoint
arc_to k i j = if i == j then [] else Arc k i j ∷ []

-- the arcs that leave one state
abbrev pub arcs_from : ℕ → ℕ → ℕ → List MachinePoint
arcs_from k n i = flat_map (arc_to k i) (range_with_len 0 n)

-- the arcs of machine k that leave its first states, so many, and lead to one of n states
abbrev pub arcs_of : ℕ → ℕ → ℕ → List MachinePoint
arcs_of k leaving n = flat_map (arcs_from k n) (range_with_len 0 leaving)

-- the states and arcs of machine k
abbrev pub points_of_machine : ℕ → Machine → List MachinePoint
points_of_machine k x = states_of k (length x.names) ++ arcs_of k x.leaving (length x.names)

-- the name and the value of a state of a machine
abbrev pub state_name : List Machine → ℕ → ℕ → List ℕ
state_name xs k s = name_at (machine_at xs k).names s

abbrev pub state_value : List Machine → ℕ → ℕ → Vector
state_value xs k s = slice_index_or (machine_at xs k).values s no_value

-- a state or an arc as a coverage point
abbrev pub machine_view : List Machine → MachinePoint → Point
machine_view xs (State k s) = state_point (machine_at xs k).instance (machine_at xs k).variable (machine_at xs k).signal (state_name xs k s) (state_value xs k s)
machine_view xs (Arc k i j) =
    arc_point (machine_at xs k).instance (machine_at xs k).variable (machine_at xs k).signal (state_name xs k i) (state_name xs k j) (state_value xs k i) (state_value xs k j)

-- the point is a state or an arc
abbrev pub IsOfMachine : Point → Type 0
IsOfMachine (state_point i name s state x) = ⊤
IsOfMachine (arc_point i name s from to x y) = ⊤
IsOfMachine _ = ⊥

-- the machine of a point
abbrev pub machine_of : MachinePoint → ℕ
machine_of (State k s) = k
machine_of (Arc k i j) = k

-- states go before arcs
abbrev pub machine_rank : MachinePoint → ℕ
machine_rank (State k s) = 0
machine_rank (Arc k i j) = 1

-- the state, or the one that the arc leaves
abbrev pub first_name : List Machine → MachinePoint → List ℕ
first_name xs (State k s) = state_name xs k s
first_name xs (Arc k i j) = state_name xs k i

-- the state that the arc enters
abbrev pub second_name : List Machine → MachinePoint → List ℕ
second_name xs (State k s) = []
second_name xs (Arc k i j) = state_name xs k j

-- the path of the instance of a point, and the variable
abbrev pub machine_path : List Instance → List Machine → MachinePoint → List ℕ
machine_path is xs p = path_at is (machine_at xs (machine_of p)).instance

abbrev pub machine_variable : List Machine → MachinePoint → List ℕ
machine_variable xs p = (machine_at xs (machine_of p)).variable

-- by the path of the instance, then by variable, then states before arcs, and then by the names of the states
abbrev pub machine_cmp : List Instance → List Machine → MachinePoint → MachinePoint → Ordering
machine_cmp is xs a b =
    ordering_then (ordering_then (ordering_then (ordering_then (bytes_cmp (machine_path is xs a) (machine_path is xs b)) (bytes_cmp (machine_variable xs a) (machine_variable xs b))) (nat_cmp (machine_rank a) (machine_rank b))) (bytes_cmp (first_name xs a) (first_name xs b))) (bytes_cmp (second_name xs a) (second_name xs b))
