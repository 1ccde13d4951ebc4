-- The text of a tracefile, in the format that the manual of lcov's geninfo gives (geninfo(1), FILES).
use Rattle.std.specs.Prelude.{ℕ, ◌+◌, if◌then◌else◌, Bool, true, false, List, [], ◌∷◌, ◌++◌, length, map, codes, decimal, Option, Some, None, count_by}
use Rattle.coverage_db.specs.declared.address.SourceLine.{SourceLine}
use Rattle.coverage_db.specs.declared.db.Db.{Db}
use Rattle.coverage_db.specs.Same.{same_place}
use Rattle.coverage_db.specs.Text.{text_of_lines}
use Rattle.lcov_text.specs.declared.traced.Part.TheVariants.{Lines, Branches}
use Rattle.lcov_text.specs.Points.{TracePoint, trace_points, in_section, is_reached, same_node, branch_number}

abbrev pub hit_count : List TracePoint → ℕ
hit_count points = count_by (λ point. point.hit) points

-- ---- lines

abbrev pub hit_text : Bool → List ℕ
hit_text true = codes "1"
hit_text false = codes "0"

-- a line, and 1 where a statement that begins there is hit
abbrev pub line_line : TracePoint → List ℕ
line_line line = codes "DA:" ++ decimal line.at.line ++ 44 ∷ hit_text line.hit

-- the lines, how many there are, and how many of them are hit
abbrev pub line_part : List TracePoint → List (List ℕ)
line_part lines = map line_line lines ++ (codes "LF:" ++ decimal (length lines)) ∷ (codes "LH:" ++ decimal (hit_count lines)) ∷ []

-- ---- branches

-- 1 for a branch that is hit, 0 for another one at a line that is reached, and else `-`
abbrev pub taken_text : (SourceLine → Bool) → TracePoint → List ℕ
taken_text reached branch = if branch.hit then codes "1" else if reached branch.at then codes "0" else codes "-"

-- the nodes of a line are its blocks, from 0: the cases of one node have one block, the next node has the next one
abbrev pub next_block : Option TracePoint → ℕ → TracePoint → ℕ
next_block None block branch = 0
next_block (Some last) block branch = if same_place last.at branch.at then (if same_node last.branch branch.branch then block else block + 1) else 0

-- the line, the block, the branch in its block, and whether it was taken
abbrev pub branch_line : (SourceLine → Bool) → ℕ → TracePoint → List ℕ
branch_line reached block branch = codes "BRDA:" ++ decimal branch.at.line ++ 44 ∷ decimal block ++ 44 ∷ decimal (branch_number branch.branch) ++ 44 ∷ taken_text reached branch

-- the branches that follow the last one and its block
abbrev pub branch_lines : (SourceLine → Bool) → Option TracePoint → ℕ → List TracePoint → List (List ℕ)
branch_lines reached last block [] = []
branch_lines reached last block (branch ∷ branches) =
    branch_line reached (next_block last block branch) branch ∷ branch_lines reached (Some branch) (next_block last block branch) branches

-- the branches, how many there are, and how many of them are hit
abbrev pub branch_part : (SourceLine → Bool) → List TracePoint → List (List ℕ)
branch_part reached branches =
    branch_lines reached None 0 branches ++ (codes "BRF:" ++ decimal (length branches)) ∷ (codes "BRH:" ++ decimal (hit_count branches)) ∷ []

-- ---- records

-- the record of a source with these lines and branches
abbrev pub record_lines : (SourceLine → Bool) → List ℕ → List TracePoint → List TracePoint → List (List ℕ)
record_lines reached name lines branches = (codes "SF:" ++ name) ∷ branch_part reached branches ++ line_part lines ++ codes "end_of_record" ∷ []

-- a record for each source, in order of their numbers
abbrev pub source_records : (SourceLine → Bool) → List TracePoint → ℕ → List (List ℕ) → List (List ℕ)
source_records reached points source [] = []
source_records reached points source (name ∷ names) =
    record_lines reached name (in_section source Lines points) (in_section source Branches points) ++ source_records reached points (source + 1) names

-- the name of the top module, and the records
abbrev pub tracefile_lines : Db → List (List ℕ)
tracefile_lines db =
    let points = trace_points db in
    (codes "TN:" ++ db.top) ∷ source_records (is_reached points) points 1 db.sources

-- the text of the tracefile of a table
abbrev pub tracefile_text : Db → List ℕ
tracefile_text db = text_of_lines (tracefile_lines db)
