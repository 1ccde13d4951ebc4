-- The points of a tracefile: the lines on which statements begin, and its branches, which are the cases of counted nodes.
use Rattle.std.specs.Prelude.{ℕ, Bool, ◌&&◌, ◌||◌, ◌==◌, false, if◌then◌else◌, List, [], ◌∷◌, Option, Some, None, option_map, unwrap_or, slice_get, bytes_eq}
use Rattle.std.specs.List.{filter, filter_map, list_any}
use Rattle.std.specs.declared.cmp.Ordering.{Ordering}
use Rattle.std.specs.Cmp.Lexicographic.{slice_cmp}
use Rattle.coverage_db.specs.declared.address.SourceLine.{SourceLine}
use Rattle.coverage_db.specs.declared.address.Subject.{Subject}
use Rattle.coverage_db.specs.declared.address.Subject.TheVariants.{Line, Logic, Toggle, State, Arc, Word}
use Rattle.coverage_db.specs.declared.db.Db.{Db}
use Rattle.coverage_db.specs.declared.db.DbInstance.{DbInstance}
use Rattle.coverage_db.specs.declared.db.DbPoint.{DbPoint}
use Rattle.point_words.specs.declared.node_case.NodeCase.{NodeCase}
use Rattle.point_words.specs.declared.node_case.NodeCase.TheVariants as node_case
use Rattle.point_words.specs.declared.operator.Operator.{Operator}
use Rattle.coverage_db.specs.Order.{bytes_cmp}
use Rattle.coverage_db.specs.Same.{same_place}
use Rattle.point_words.specs.Words.{node_case_rank, operator_text, operator_rank, is_and, is_or}
use Rattle.cov_report.specs.Gathered.{gathered}
use Rattle.cov_report.specs.Report.{is_hit}
use Rattle.lcov_text.specs.declared.traced.Part.{Part}
use Rattle.lcov_text.specs.declared.traced.Part.TheVariants.{Lines, Branches}

-- one case of a counted node of a module
pub record Branch : Type 0 where
  pub module_name : List ℕ
  pub number : ℕ
  pub operator : Operator
  pub case : NodeCase

-- a line on which a statement begins, or a branch on a line
pub record TracePoint : Type 0 where
  pub at : SourceLine
  pub branch : Option Branch
  pub hit : Bool

-- ---- which points of a table have a place

-- a statement is a point of its line, a case of a node is a branch; other points have no place
abbrev pub trace_subject : List ℕ → Subject → Bool → Option TracePoint
trace_subject module_name (Line number at word) hit = Some (record { at = at; branch = None; hit = hit })
trace_subject module_name (Logic number at operator case) hit = Some (record { at = at; branch = Some (record { module_name = module_name; number = number; operator = operator; case = case }); hit = hit })
trace_subject module_name (Toggle name index rise) hit = None
trace_subject module_name (State name state) hit = None
trace_subject module_name (Arc name from to) hit = None
trace_subject module_name (Word name index write) hit = None

-- the module of the instance at a place
abbrev pub module_at : List DbInstance → ℕ → List ℕ
module_at instances place = unwrap_or (option_map (λ instance. instance.«module») (slice_get instances place)) []

-- a point that is left open is not hit
abbrev pub trace_point : List DbInstance → DbPoint → Option TracePoint
trace_point instances point = trace_subject (module_at instances point.address.instance) point.address.subject (is_hit point.verdict)

-- ---- their order

-- the lines of a source come before its branches
abbrev pub part_rank : Part → ℕ
part_rank Lines = 0
part_rank Branches = 1

abbrev pub part_of : Option Branch → Part
part_of None = Lines
part_of (Some branch) = Branches

-- one part of the record of a source
abbrev pub section_of : ℕ → Part → List ℕ
section_of source part = source ∷ part_rank part ∷ []

-- the part of a record that a point is in
abbrev pub section : TracePoint → List ℕ
section point = section_of point.at.source (part_of point.branch)

-- a branch by its module, the number of its node, the operator and the case
abbrev pub branch_key : Option Branch → List (List ℕ)
branch_key None = []
branch_key (Some branch) = branch.module_name ∷ (branch.number ∷ []) ∷ operator_text branch.operator ∷ (node_case_rank branch.case ∷ []) ∷ []

-- by source and part, by line, and then by branch
abbrev pub key : TracePoint → List (List ℕ)
key point = section point ∷ (point.at.line ∷ []) ∷ branch_key point.branch

abbrev pub trace_cmp : TracePoint → TracePoint → Ordering
trace_cmp a b = slice_cmp bytes_cmp (key a) (key b)

-- ---- the points of a tracefile

-- what counts once is hit where it is hit at one place of the table
abbrev pub joined_trace : TracePoint → TracePoint → TracePoint
joined_trace a b = record a { hit = a.hit || b.hit }

-- the lines and branches of a table in order, each once
abbrev pub trace_points : Db → List TracePoint
trace_points db = gathered trace_cmp joined_trace (filter_map (trace_point db.instances) db.points)

-- those of one part of the record of a source
abbrev pub in_section : ℕ → Part → List TracePoint → List TracePoint
in_section source part points = filter (λ point. bytes_eq (section point) (section_of source part)) points

-- a statement that begins at the line is hit, or a case of a node that does
abbrev pub is_reached : List TracePoint → SourceLine → Bool
is_reached points at = list_any (λ point. point.hit && same_place point.at at) points

-- ---- blocks and branches

-- both are cases of one node
abbrev pub same_node : Option Branch → Option Branch → Bool
same_node (Some a) (Some b) = bytes_eq a.module_name b.module_name && a.number == b.number && operator_rank a.operator == operator_rank b.operator
same_node _ _ = false

-- the place of a case among those that its node has, from 0
abbrev pub case_number : Operator → NodeCase → ℕ
case_number operator node_case.ValueFalse = 0
case_number operator node_case.ValueTrue = 1
case_number operator node_case.LeftFalse = 0
case_number operator node_case.RightFalse = 1
case_number operator node_case.LeftTrue = 0
case_number operator node_case.RightTrue = 1
case_number operator node_case.BothFalse = if is_or operator then 2 else 0
case_number operator node_case.FalseTrue = 1
case_number operator node_case.TrueFalse = 2
case_number operator node_case.BothTrue = if is_and operator then 2 else 3

-- a line has no branch number
abbrev pub branch_number : Option Branch → ℕ
branch_number None = 0
branch_number (Some branch) = case_number branch.operator branch.case
