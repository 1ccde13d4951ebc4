-- Sets of names that grow by the names of a text.
use Rattle.std.specs.Prelude.{ℕ, Bool, List, [], ◌∷◌}
use Rattle.verilog_tree.specs.declared.item.Named.{Named}
use Rattle.elab_scope.specs.NameSet.{with_name}

-- the names that were known, and these
abbrev pub with_names : List Named → (List ℕ → Bool) → List ℕ → Bool
with_names [] known = known
with_names (x ∷ xs) known = with_names xs (with_name x.name known)
