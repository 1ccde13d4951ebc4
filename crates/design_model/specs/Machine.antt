-- A design as an event machine (IEEE 1364-2001, clause 5).
use Rattle.std.specs.Prelude.{◌==◌, ◌&&◌, ◌||◌, ℕ, Bool, true, false, List, [], nat_lt}
use Rattle.std.specs.List.{list_any}
use Rattle.event_machine.specs.Cell.{Cell}
use Rattle.four_state.specs.Edges.{falls, rises}
use Rattle.four_state.specs.Vector.{same_bit}
use Rattle.four_state.specs.declared.bit.Bit.{Bit}
use Rattle.four_state.specs.declared.edge.Edge.{Edge}
use Rattle.four_state.specs.declared.edge.Edge.TheVariants.{Neg, Pos}
use Rattle.design_model.specs.Tree.{Process, assign, clocked, comb}
use Rattle.design_model.specs.Design.{Design, body, body_at, is_assign, process_at, signal_at}
use Rattle.design_model.specs.Mentions.{blocking_target, body_mentions, nonblocking_target}
use Rattle.design_model.specs.Execution.{execution}
use Rattle.design_model.specs.Once.{names_once}
use Rattle.event_machine.specs.Machine.{Edge as MachineEdge, Posedge, Negedge, Machine}

-- the edges of a bit (IEEE 1364-2001, 9.7.2)
abbrev pub is_edge : MachineEdge → Bit → Bit → Bool
is_edge Posedge before after = rises before after
is_edge Negedge before after = falls before after

-- whether an edge in a list is this edge of the machine
abbrev pub same_edge : Edge → MachineEdge → Bool
same_edge Pos Posedge = true
same_edge Neg Negedge = true
same_edge _ _ = false

-- an Assign or Comb is sensitive to what it mentions or lists
abbrev pub is_level : Process → ℕ → Bool
is_level (assign i x t counted) y = body_mentions y (body (assign i x t counted))
is_level (comb i wakes s) y = body_mentions y s || list_any (λ z. z == y) wakes
is_level (clocked i events s) y = false

-- a Clocked is sensitive to the edges of its event signals
abbrev pub lists_edge : Process → MachineEdge → Cell → Bool
lists_edge (assign i x t counted) e c = false
lists_edge (comb i wakes s) e c = false
lists_edge (clocked i events s) e c = (c.place == 0) && list_any (λ f. same_edge f.0 e && (f.1 == c.thing)) events

-- a bit of an input
abbrev pub is_input_cell : Design → Cell → Bool
is_input_cell d c = (signal_at d c.thing).input && nat_lt c.place (signal_at d c.thing).width

-- the list of edges of a Clocked
abbrev pub events_of : Process → List (Edge × ℕ)
events_of (assign i x t counted) = []
events_of (comb i wakes s) = []
events_of (clocked i events s) = events

-- some Clocked lists an edge of the signal
abbrev pub is_event_signal : Design → ℕ → Bool
is_event_signal d x = list_any (λ p. list_any (λ f. f.1 == x) (events_of p)) d.processes

-- the design as an event machine
abbrev pub machine : Design → Machine Bit
machine d =
    record {
      same = same_bit;
      is_edge = is_edge;
      is_input = is_input_cell d;
      is_event_signal = is_event_signal d;
      is_assign = λ p. is_assign (process_at d p);
      level = λ p x. is_level (process_at d p) x;
      edge = λ p e c. lists_edge (process_at d p) e c;
      blocking = λ p c. blocking_target d (body_at d p) c;
      nonblocking = λ p c. nonblocking_target d (body_at d p) c;
      writes_once = λ p c. names_once (body_at d p) c.thing;
      evaluate = λ p v. record { blocking = (execution d (body_at d p) v).blocking; nonblocking = (execution d (body_at d p) v).nonblocking };
    }
