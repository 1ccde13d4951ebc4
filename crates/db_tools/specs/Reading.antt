-- Reading the lines before a table, from the front.
use Rattle.std.specs.Prelude.{ℕ, if◌then◌else◌, List, codes, Option, Some, None}
use Rattle.coverage_db.specs.Fields.{◌>>=◌, behind, is_plain, split_first}
use Rattle.coverage_db.specs.Text.{begins_point}
use Rattle.db_tools.specs.Faults.{is_count}

-- the digits of the version of an excluded text, and what is after its first line
unfoldable pub version_parts : List ℕ → Option (List ℕ × List ℕ)
version_parts text = do
  parts ← split_first 10 text
  digits ← behind (codes "covered-ex ") parts.0
  if is_plain digits then Some (digits, parts.1) else None

-- the digits of the number of addresses, and what is after the line
unfoldable pub count_parts : List ℕ → Option (List ℕ × List ℕ)
count_parts text = do
  parts ← split_first 10 text
  digits ← behind (codes "excluded ") parts.0
  if is_count digits then Some (digits, parts.1) else None

-- the first line, if it begins as that of a point does, and what is after it
unfoldable pub address_parts : List ℕ → Option (List ℕ × List ℕ)
address_parts text = do
  parts ← split_first 10 text
  if begins_point parts.0 then Some parts else None
