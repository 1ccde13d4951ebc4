-- The paths through a body, whatever the values are.
use Rattle.std.specs.Prelude.{◌≡◌, ◌⊎◌, ◌&&◌, ◌||◌, ◌∷◌, ◌++◌, if◌then◌else◌, ℕ, suc, Bool, true, false, not, List, [], map}
use Rattle.std.specs.List.{list_all, list_any}
use Rattle.event_machine.specs.Cell.{Write}
use Rattle.four_state.specs.declared.bit.Bit.{Bit}
use Rattle.four_state.specs.declared.operator.CaseKind.{CaseKind}
use Rattle.design_model.specs.Tree.{Arms, Stmt, Stmts, Target, Term, Terms, a_stmt, a_term, arm, block, branch, empty, no_arms, no_stmts, no_terms, select, set, turns}
use Rattle.design_model.specs.Design.{Design, In, is_memory, signal_cells}
use Rattle.design_model.specs.Mentions.{index_mentions, mentions, sure_writes}
use Rattle.design_model.specs.Execution.{covers, is_default}

-- what a path does at one place
pub data Action : Type 0 where
  reaches : ℕ → Action  -- a line point
  tests : Term → Bool → Action  -- the test of an if, and whether the path takes it as true
  selects : Term → Action  -- the selector of a case
  compares : CaseKind → Term → Term → Bool → Action  -- selector and label, and whether the path takes them as matching
  assigns : Bool → Target → Term → Action

-- an action with the place of its copy in the body, whose loops are unrolled
pub record PlacedAction : Type 0 where
  pub at : List ℕ
  pub action : Action

-- the actions of a path, in order
abbrev pub Path : Type 0
Path = List PlacedAction

-- an action at a place
abbrev pub action_at : List ℕ → Action → PlacedAction
action_at at x = record { at = at; action = x }

-- each of these paths with these steps before it
abbrev pub preceded_by : List PlacedAction → List Path → List Path
preceded_by xs ps = map (λ p. xs ++ p) ps

-- each path of the first kind with each of the second after it
abbrev pub followed_by : List Path → List Path → List Path
followed_by [] qs = []
followed_by (p ∷ ps) qs = preceded_by p qs ++ followed_by ps qs

-- the ways in which one of the labels matches, from label number k on
abbrev pub matching_ways : List ℕ → ℕ → CaseKind → Term → Terms → List Path
matching_ways at k kind on no_terms = []
matching_ways at k kind on (a_term t ts) =
    (action_at (k ∷ at) (compares kind on t true) ∷ []) ∷ preceded_by (action_at (k ∷ at) (compares kind on t false) ∷ []) (matching_ways at (suc k) kind on ts)

-- the way in which none matches
abbrev pub passing_actions : List ℕ → ℕ → CaseKind → Term → Terms → List PlacedAction
passing_actions at k kind on no_terms = []
passing_actions at k kind on (a_term t ts) = action_at (k ∷ at) (compares kind on t false) ∷ passing_actions at (suc k) kind on ts

-- the paths through a body: one branch at each if; at a case the labels are met in order up to the first taken as matching
abbrev mutual
  pub paths : List ℕ → Stmt → List Path
  paths at (block p ss) = paths_all at 0 ss
  paths at (branch p n t s other) =
      preceded_by (action_at at (reaches n) ∷ action_at at (tests t true) ∷ []) (paths (0 ∷ at) s) ++ preceded_by (action_at at (reaches n) ∷ action_at at (tests t false) ∷ []) (paths_all at 1 other)
  paths at (select p n kind t arms) =
      preceded_by (action_at at (reaches n) ∷ action_at at (selects t) ∷ []) (paths_of at 0 kind t arms (paths_default at 0 arms))
  paths at (turns p n ss) = preceded_by (action_at at (reaches n) ∷ []) (paths_all at 0 ss)
  paths at (set p n blocking x t) = (action_at at (reaches n) ∷ action_at at (assigns blocking x t) ∷ []) ∷ []
  paths at (empty p) = [] ∷ []

  pub paths_all : List ℕ → ℕ → Stmts → List Path
  paths_all at k no_stmts = [] ∷ []
  paths_all at k (a_stmt s ss) = followed_by (paths (k ∷ at) s) (paths_all at (suc k) ss)

  pub paths_of : List ℕ → ℕ → CaseKind → Term → Arms → List Path → List Path
  paths_of at k kind on no_arms otherwise = otherwise
  paths_of at k kind on (arm labels s arms) otherwise =
      followed_by (matching_ways (k ∷ at) 1 kind on labels) (paths (0 ∷ k ∷ at) s) ++ preceded_by (passing_actions (k ∷ at) 1 kind on labels) (paths_of at (suc k) kind on arms otherwise)

  pub paths_default : List ℕ → ℕ → Arms → List Path
  paths_default at k no_arms = [] ∷ []
  paths_default at k (arm labels s arms) = if is_default labels then paths (0 ∷ k ∷ at) s else paths_default at (suc k) arms

-- an action evaluates a term that mentions x
abbrev pub action_mentions : ℕ → Action → Bool
action_mentions x (reaches n) = false
action_mentions x (tests t b) = mentions x t
action_mentions x (selects t) = mentions x t
action_mentions x (compares kind on t b) = mentions x t
action_mentions x (assigns blocking y t) = index_mentions x y || mentions x t

-- what an action surely writes
abbrev pub action_writes : Design → Action → List (Write Bit)
action_writes d (assigns blocking y t) = sure_writes d y
action_writes d _ = []

-- what an action surely writes by a blocking assignment
abbrev pub action_blocking_writes : Design → Action → List (Write Bit)
action_blocking_writes d (assigns blocking y t) = if blocking then sure_writes d y else []
action_blocking_writes d _ = []

-- what a path surely writes
abbrev pub path_writes : Design → Path → List (Write Bit)
path_writes d [] = []
path_writes d (x ∷ xs) = action_writes d x.action ++ path_writes d xs

-- the path reads signal s before it has written it whole by blocking writes; it has made these so far. Of signals alone: what is no signal has no bits to be written
abbrev pub reads_signal_unwritten : Design → ℕ → List (Write Bit) → Path → Bool
reads_signal_unwritten d s written [] = false
reads_signal_unwritten d s written (x ∷ xs) =
    (action_mentions s x.action && not (covers written (signal_cells d s))) || reads_signal_unwritten d s (written ++ action_blocking_writes d x.action) xs

-- on some path the body reads signal s before writing it
abbrev pub reads_signal_before_writing : Design → Stmt → ℕ → Bool
reads_signal_before_writing d b s = list_any (reads_signal_unwritten d s []) (paths [] b)

-- the path reads signal or memory y before it has written it whole by blocking writes; a memory it writes by words, so never surely whole
abbrev pub PathReadsUnwritten : Design → ℕ → Path → Type 0
PathReadsUnwritten d y path = (reads_signal_unwritten d y [] path ≡ true) ⊎ ((is_memory d y ≡ true) × ((x : PlacedAction) × In x path × (action_mentions y x.action ≡ true)))

-- some path of the body does so
abbrev pub ReadsUnwritten : Design → Stmt → ℕ → Type 0
ReadsUnwritten d b y = (path : Path) × In path (paths [] b) × PathReadsUnwritten d y path

-- each path writes signal s whole
abbrev pub each_writes_whole : Design → Stmt → ℕ → Bool
each_writes_whole d b s = list_all (λ p. covers (path_writes d p) (signal_cells d s)) (paths [] b)
