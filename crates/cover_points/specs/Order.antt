-- The order of the points of a design.
use Rattle.std.specs.Prelude.{if◌then◌else◌, ℕ, Bool, true, false, List, length, nat_lt, slice_index_or}
use Rattle.std.specs.declared.cmp.Ordering.{Ordering}
use Rattle.std.specs.Ordering.{nat_cmp, ordering_then}
use Rattle.std.specs.Cmp.Lexicographic.{slice_cmp}
use Rattle.design_model.specs.Design.{Design, memory_at, no_instance, signal_at}
use Rattle.design_model.specs.declared.design.Instance.{Instance}
use Rattle.design_model.specs.point_words.declared.node_case.NodeCase.{NodeCase}
use Rattle.design_model.specs.point_words.declared.node_case.NodeCase.TheVariants.{ValueFalse, ValueTrue, LeftFalse, RightFalse, LeftTrue, RightTrue, BothFalse, FalseTrue, TrueFalse, BothTrue}
use Rattle.cover_points.specs.declared.points.IndexPoint.{IndexPoint}
use Rattle.text_points.specs.declared.points.LinePoint.{LinePoint}
use Rattle.text_points.specs.declared.points.NodePoint.{NodePoint}

-- by the bytes
abbrev pub bytes_cmp : List ℕ → List ℕ → Ordering
bytes_cmp a b = slice_cmp nat_cmp a b

-- the path of an instance
abbrev pub path_at : List Instance → ℕ → List ℕ
path_at is i = (slice_index_or is i no_instance).path

-- the place of a case: 0, 1, 0-, -0, 1-, -1, 00, 01, 10, 11
abbrev pub case_rank : NodeCase → ℕ
case_rank ValueFalse = 0
case_rank ValueTrue = 1
case_rank LeftFalse = 2
case_rank RightFalse = 3
case_rank LeftTrue = 4
case_rank RightTrue = 5
case_rank BothFalse = 6
case_rank FalseTrue = 7
case_rank TrueFalse = 8
case_rank BothTrue = 9

-- by the path of the instance, and then by number
abbrev pub line_cmp : List Instance → LinePoint → LinePoint → Ordering
line_cmp is a b = ordering_then (bytes_cmp (path_at is a.instance) (path_at is b.instance)) (nat_cmp a.line b.line)

-- by the path of the instance, then by number, and then by case
abbrev pub node_cmp : List Instance → NodePoint → NodePoint → Ordering
node_cmp is a b = ordering_then (ordering_then (bytes_cmp (path_at is a.instance) (path_at is b.instance)) (nat_cmp a.node b.node)) (nat_cmp (case_rank a.case) (case_rank b.case))

-- the instance of a signal or memory
abbrev pub thing_instance : Design → ℕ → ℕ
thing_instance d x = if nat_lt x (length d.signals) then (signal_at d x).instance else (memory_at d x).instance

-- the name of a signal or memory
abbrev pub thing_name : Design → ℕ → List ℕ
thing_name d x = if nat_lt x (length d.signals) then (signal_at d x).name else (memory_at d x).name

-- the first of the two points of an index goes before the second
abbrev pub second_rank : Bool → ℕ
second_rank false = 0
second_rank true = 1

-- by the path of the instance, then by name, then by index; of one index the first point before the second
abbrev pub index_cmp : Design → IndexPoint → IndexPoint → Ordering
index_cmp d a b =
    ordering_then (ordering_then (ordering_then (bytes_cmp (path_at d.instances (thing_instance d a.thing)) (path_at d.instances (thing_instance d b.thing))) (bytes_cmp (thing_name d a.thing) (thing_name d b.thing))) (nat_cmp a.index b.index)) (nat_cmp (second_rank a.second) (second_rank b.second))
