-- What the parser gives of modules: of the names of modules and instances, of the assignments in processes, and of literals.
use Rattle.std.specs.Prelude.{◌≡◌, ◌==◌, ◌&&◌, ℕ, Bool, true, false, List, []}
use Rattle.std.specs.List.{list_any}
use Rattle.four_state.specs.Vector.{Vector, HasWidth}
use Rattle.design_model.specs.Design.{In}
use Rattle.verilog_tree.specs.declared.item.Named.{Named}
use Rattle.verilog_tree.specs.declared.item.When.{When}
use Rattle.verilog_tree.specs.declared.item.When.TheVariants.{Edges}
use Rattle.verilog_tree.specs.Tree.{CaseItems, InstanceItem, Item, Module, One, Statement, Statements, a_statement, always_item, assignment, case_item, case_statement, for_loop, if_statement, instance_item, no_items, no_statements, null_statement, sequential_block, system_task}
use Rattle.flat_design.specs.Identifiers.{names_of}
use Rattle.flat_laws.specs.Literals.{literals_of}

-- the name has a dot
abbrev pub has_dot : List ℕ → Bool
has_dot x = list_any (λ b. b == 46) x

-- no assignment of the statement is a nonblocking one
abbrev mutual
  pub is_blocking : Statement → Bool
  is_blocking (sequential_block p ss) = are_blocking ss
  is_blocking (if_statement p c s other) = is_blocking s && are_blocking other
  is_blocking (case_statement p kind e is) = arms_are_blocking is
  is_blocking (for_loop p h s) = is_blocking s
  is_blocking (assignment p x blocking v) = blocking
  is_blocking (system_task p) = true
  is_blocking (null_statement p) = true

  pub are_blocking : Statements → Bool
  are_blocking no_statements = true
  are_blocking (a_statement s ss) = is_blocking s && are_blocking ss

  pub arms_are_blocking : CaseItems → Bool
  arms_are_blocking no_items = true
  arms_are_blocking (case_item labels s is) = is_blocking s && arms_are_blocking is

-- a list of edges
abbrev pub has_edges : When → Bool
has_edges (Edges es) = true
has_edges _ = false

-- there is no dot in the name of a module or of an instance, no declared name is empty, only under edges there are nonblocking assignments, and each literal has from 1 to 128 bits
pub record AreOfTokens (ms : List Module) : Type 0 where
  pub modules : (m : Module) → In m ms → has_dot m.name.name ≡ false  -- for the names in a path
  pub instances : (m : Module) → In m ms → (x : Item) → In x m.items → (k : InstanceItem) → x.form ≡ instance_item k → (o : One) → In o k.ones → has_dot o.name.name ≡ false  -- the same
  pub names : (m : Module) → In m ms → (x : Named) → In x (names_of m) → x.name ≡ [] → ⊥  -- for targets: what begins with no name names nothing
  pub blocking : (m : Module) → In m ms → (x : Item) → In x m.items → (w : When) (s : Statement) → x.form ≡ always_item w s → has_edges w ≡ false
      → is_blocking s ≡ true  -- for what is combinational: the grammar's body without edges has no `<=`
  pub literals : (m : Module) → In m ms → (v : Vector) → In v (literals_of m) → HasWidth v  -- for the widths of terms
