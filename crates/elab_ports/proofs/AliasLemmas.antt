-- The ports that are joined as one signal, by how each port is joined.
use Rattle.std.proofs.Common.{◌≡◌, ℕ, ◌+◌, ◌<◌, ◌≤◌, List, [], ◌∷◌, ◌++◌, length, get_or, drop, drop-cons, add-one, map, refl, ap}
use Rattle.std.specs.Prelude.{flat_map}
use Rattle.std.proofs.lemmas.List.{drop_all}
use Rattle.flat_design.specs.Connections.{Joined, JoinedPort, alias_as, joining, port_alias}
use Rattle.flat_design.specs.Instances.{PortAliases}
use Rattle.flat_design.specs.Scope.{Scope}
use Rattle.elab_ports.specs.PortView.{joined_view, ports_view}
use Rattle.elab_ports.specs.declared.joining.Joined.{Joined as CodeJoined}
use Rattle.elab_ports.specs.declared.ports.JoinedPort.{JoinedPort as CodePort}

-- the ports that are joined so
abbrev pub aliases_of : List JoinedPort → List Joined → PortAliases
aliases_of [] ks = []
aliases_of (j ∷ js) [] = []
aliases_of (j ∷ js) (k ∷ ks) = alias_as j.port.name.name k ++ aliases_of js ks

-- as they are joined in a scope
pub aliases_in : (g : Scope) (js : List JoinedPort) → aliases_of js (map (λ j. joining g j.port j.label j.value) js) ≡ flat_map (port_alias g) js
aliases_in g [] = refl
aliases_in g (j ∷ js) = ap (λ as'. port_alias g j ++ as') (aliases_in g js)

module _ (js : List CodePort) (ks : List CodeJoined) where
  -- of those from the one at n on
  abbrev pub aliases_from : ℕ → PortAliases
  aliases_from n = aliases_of (ports_view (drop n js)) (map joined_view (drop n ks))

  pub aliases_more : (n : ℕ) (j : CodePort) (k : CodeJoined) → n < length js → n < length ks → j ≡ get_or js n j → k ≡ get_or ks n k →
      aliases_from n ≡ alias_as j.port.name.now.name (joined_view k) ++ aliases_from (n + 1)
  aliases_more n j k within within' is is' = rw (drop-cons js n j within, drop-cons ks n k within', add-one n, ← is, ← is') refl

  -- after the last port there are no aliases
  pub aliases_over : (n : ℕ) → length js ≤ n → aliases_from n ≡ []
  aliases_over n over = ap (λ xs. aliases_of (ports_view xs) (map joined_view (drop n ks))) (drop_all n js over)
