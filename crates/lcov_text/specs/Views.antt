-- What contracts see of the types of the code.
use Rattle.std.specs.Prelude.{Bool, ◌||◌, List, option_map}
use Rattle.std.specs.Borrow.{Bor}
use Rattle.std.specs.List.{list_any}
use Rattle.std.specs.declared.cmp.Ordering.{Ordering}
use Rattle.coverage_db.specs.declared.address.SourceLine.{SourceLine}
use Rattle.coverage_db.specs.Same.{same_place}
use Rattle.lcov_text.specs.declared.traced.Branch.{Branch as CodeBranch}
use Rattle.lcov_text.specs.declared.traced.Traced.{Traced}
use Rattle.lcov_text.specs.Points.{Branch, TracePoint, trace_cmp}

-- a branch without where it lies in memory
abbrev pub branch_view : CodeBranch → Branch
branch_view branch = record { module_name = branch.«module».now; number = branch.number; operator = branch.operator; case = branch.case }

-- a point without where it lies in memory
abbrev pub trace_view : Traced → TracePoint
trace_view point = record { at = point.at; branch = option_map branch_view point.branch; hit = point.is_hit }

-- a point of a reference
abbrev pub trace_behind : Bor Traced → TracePoint
trace_behind point = trace_view point.now

abbrev pub traced_cmp : Traced → Traced → Ordering
traced_cmp a b = trace_cmp (trace_view a) (trace_view b)

abbrev pub joined_traced : Traced → Traced → Traced
joined_traced a b = record a { is_hit = a.is_hit || b.is_hit }

-- the line is one of these
abbrev pub is_among : List SourceLine → SourceLine → Bool
is_among lines at = list_any (λ line. same_place line at) lines
