-- The lists of names are those of the tests of texts.
use Rattle.std.specs.Prelude.{◌≡◌, ◌==◌, ℕ, Bool, true, false, List}
use Rattle.std.specs.List.{list_any}
use Rattle.design_model.specs.Mentions.{body_blocks, body_queues}
use Rattle.design_model.specs.Tree.{Process, Stmt}
use Rattle.design_model.specs.Machine.{is_level}
use Rattle.process_names.specs.Assigned.{assigned}
use Rattle.process_names.specs.Names.{level_names}

-- the number is in the list
abbrev pub has : ℕ → List ℕ → Bool
has x xs = list_any (λ y. y == x) xs

-- the list for a process has what wakes it at each change
abbrev pub LevelNamesLaw : Type 0
LevelNamesLaw = (p : Process) (x : ℕ) → has x (level_names p) ≡ is_level p x

-- the lists for a body have what it assigns by blocking and by nonblocking assignments
abbrev pub BlockingNamesLaw : Type 0
BlockingNamesLaw = (s : Stmt) (x : ℕ) → has x (assigned true s) ≡ body_blocks x s

abbrev pub NonblockingNamesLaw : Type 0
NonblockingNamesLaw = (s : Stmt) (x : ℕ) → has x (assigned false s) ≡ body_queues x s
