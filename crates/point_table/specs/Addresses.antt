-- The addresses of the points of a design in a table, where each instance has a place.
use Rattle.std.specs.Prelude.{◌++◌, if◌then◌else◌, ℕ, Bool, not, List, map, Option, Some, None}
use Rattle.cov_host.specs.declared.place.Place.{Place}
use Rattle.coverage_db.specs.declared.address.Address.{Address}
use Rattle.coverage_db.specs.declared.address.SourceLine.{SourceLine}
use Rattle.coverage_db.specs.declared.address.Subject.TheVariants as subject
use Rattle.coverage_db.specs.declared.db.DbPoint.{DbPoint}
use Rattle.coverage_db.specs.declared.verdict.DbVerdict.TheVariants.{Missed}
use Rattle.cover_points.specs.declared.listing.Points.{Points}
use Rattle.cover_points.specs.declared.machine_point.MachinePoint.{MachinePoint}
use Rattle.cover_points.specs.declared.machine_point.MachinePoint.TheVariants as machine
use Rattle.cover_points.specs.declared.points.IndexPoint.{IndexPoint}
use Rattle.design_machines.specs.Machines.{machine_at, name_at}
use Rattle.design_machines.specs.declared.machine.Machine.{Machine}
use Rattle.design_model.specs.Design.{Design, memory_at, signal_at}
use Rattle.text_points.specs.declared.points.LinePoint.{LinePoint}
use Rattle.text_points.specs.declared.points.NodePoint.{NodePoint}
use Rattle.point_table.specs.Rows.{place_at}

-- the line of a place in a source
abbrev pub source_line : Place → SourceLine
source_line p = record { source = p.source; line = p.line }

-- the index of a bit, of a signal that was declared with a range
abbrev pub index_if : Bool → ℕ → Option ℕ
index_if ranged index = if ranged then Some index else None

-- a statement
abbrev pub line_address : List ℕ → LinePoint → Address
line_address places x = record { instance = place_at places x.instance; subject = subject.Line x.line (source_line x.place) x.word }

-- a case of a counted node
abbrev pub node_address : List ℕ → NodePoint → Address
node_address places x = record { instance = place_at places x.instance; subject = subject.Logic x.node (source_line x.place) x.operator x.case }

-- a bit of a signal in a direction
abbrev pub toggle_address : Design → List ℕ → IndexPoint → Address
toggle_address d places x =
    record {
      instance = place_at places (signal_at d x.thing).instance;
      subject = subject.Toggle (signal_at d x.thing).name (index_if (signal_at d x.thing).ranged x.index) (not x.second);
    }

-- a state of a machine, or an arc between two states of it
abbrev pub machine_address : List Machine → List ℕ → MachinePoint → Address
machine_address xs places (machine.State k s) =
    record { instance = place_at places (machine_at xs k).instance; subject = subject.State (machine_at xs k).variable (name_at (machine_at xs k).names s) }
machine_address xs places (machine.Arc k i j) =
    record {
      instance = place_at places (machine_at xs k).instance;
      subject = subject.Arc (machine_at xs k).variable (name_at (machine_at xs k).names i) (name_at (machine_at xs k).names j);
    }

-- a word of a memory, read or written
abbrev pub word_address : Design → List ℕ → IndexPoint → Address
word_address d places x = record { instance = place_at places (memory_at d x.thing).instance; subject = subject.Word (memory_at d x.thing).name x.index x.second }

-- a point that is not hit, and that nothing left open
abbrev pub missed : Address → DbPoint
missed a = record { address = a; verdict = Missed }

-- the points of a list in a table, as if none were hit
abbrev pub missed_points : Design → List ℕ → Points → List DbPoint
missed_points d places ps =
    map (λ x. missed (line_address places x)) ps.lines.items ++ map (λ x. missed (node_address places x)) ps.nodes.items ++ map (λ x. missed (toggle_address d places x)) ps.toggles.items
    ++ map (λ x. missed (machine_address ps.machines.items places x)) ps.states.items ++ map (λ x. missed (word_address d places x)) ps.words.items

-- the same points, whatever their verdicts
abbrev pub addresses_of : List DbPoint → List Address
addresses_of points = map (λ p. p.address) points
