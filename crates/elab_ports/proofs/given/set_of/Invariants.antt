use Rattle.std.proofs.Common.{◌≡◌, drop}
use Rattle.std.specs.Prelude.{false}
use Rattle.elab_scope.specs.NameSet.{has}
use Rattle.elab_scope.specs.View.{names_view}
use Rattle.elab_scope.proofs.ConnectionLemmas.{with_names}
use Rattle.elab_ports.proofs.given.set_of.Given as goal

-- the set with the names that are left has all
abbrev pub invariant-loop-name : goal.invariant-loop-name
invariant-loop-name l = with_names (names_view (drop l.name-index l.names)) (has l.set) ≡ with_names (names_view l.fn.names) (λ x. false)
