-- The points of the texts of a design's processes.
use Rattle.std.specs.Prelude.{◌≡◌, ◌+◌, ◌++◌, ℕ, List, [], ◌∷◌}
use Rattle.design_model.specs.Tree.{Process}
use Rattle.design_model.specs.Design.{Design, process_at}
use Rattle.design_model.specs.Lawful.{instance_of}
use Rattle.design_model.specs.Numbered.{counted_terms, lines_of}
use Rattle.design_model.specs.declared.point.Point.{Point}
use Rattle.design_model.specs.declared.point.Point.TheVariants.{Line as line_point, Logic as logic_point}
use Rattle.text_points.specs.Lines.{lines_with}
use Rattle.design_model.specs.point_words.Words.{operator_text}
use Rattle.text_points.specs.Nodes.{nodes_with}
use Rattle.text_points.specs.declared.points.LinePoint.{LinePoint}
use Rattle.text_points.specs.declared.points.NodePoint.{NodePoint}
use Rattle.text_points.specs.declared.points.Owner.{Owner}

-- a process with its number, as the owner of points
abbrev pub owner : ℕ → Process → Owner
owner k p = record { instance = instance_of p; process = k }

-- the instance is that of process p
abbrev pub IsOwner : Design → ℕ → ℕ → Type 0
IsOwner d p i = i ≡ instance_of (process_at d p)

-- what items have that are numbered from k on
abbrev pub each_from : {A X : Type 0} → (ℕ → A → List X) → ℕ → List A → List X
each_from f k [] = []
each_from f k (p ∷ ps) = f k p ++ each_from f (k + 1) ps

-- the line points of a process, once for each time that the unrolled text has them
abbrev pub process_lines : ℕ → Process → List LinePoint
process_lines k p = lines_with (owner k p) (lines_of p)

-- the same of the cases of counted nodes
abbrev pub process_nodes : ℕ → Process → List NodePoint
process_nodes k p = nodes_with (owner k p) (counted_terms p)

-- a line point as a coverage point
abbrev pub line_view : LinePoint → Point
line_view x = line_point x.process x.line x.place x.word

-- a case of a counted node as a coverage point
abbrev pub node_view : NodePoint → Point
node_view x = logic_point x.process x.node x.place (operator_text x.operator) x.case
