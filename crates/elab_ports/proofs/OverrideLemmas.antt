-- The overrides of parameters, without a fault.
use Rattle.std.proofs.Common.{◌≡◌, Bool, true, false, ◌&&◌, ◌||◌, not, List, [], ◌∷◌, Option, Some, None, if◌then◌else◌, refl, ap, sym, ◌∙◌}
use Rattle.std.specs.Prelude.{flat_map}
use Rattle.std.specs.List.{list_any}
use Rattle.verilog_tree.specs.Tree.{Expr, Given, Module}
use Rattle.verilog_tree.specs.declared.item.Named.{Named}
use Rattle.flat_design.specs.Connections.{Connection, connections, free_names, given_faults, are_sound_overrides, override_faults, override_of, override_value_faults, overrides, value_names_faulty}
use Rattle.flat_design.specs.Declarations.{Override}
use Rattle.flat_design.specs.Expressions.{faults}
use Rattle.flat_design.specs.Fault.{none}
use Rattle.flat_design.specs.Scope.{Scope, names_constants}
use Rattle.flat_design.proofs.NoConstFaults.{constant_clean}
use Rattle.elab_scope.specs.Tally.{Tally, after_faults}
use Rattle.elab_checks.proofs.ExpressionLemmas.{met_then, none_append}

or_false : (a b : Bool) → (a || b) ≡ false → (a ≡ false) × (b ≡ false)
or_false false b e = (refl, e)
or_false true b e = absurd cc

both : (a b : Bool) → a ≡ false → b ≡ false → (a || b) ≡ false
both a b e f = rw e f

-- what holds of no value given holds of none of the connections that it makes
module _ (P : Option Expr → Bool) (label : Named) where
  one_of : (n : Option Named) (e : Option Expr) (xs : List Named) (cs : List Given) → P e ≡ false → ((ys : List Named) → list_any (λ c. P c.value) (connections label ys cs) ≡ false) →
      list_any (λ c. P c.value) (connections label xs (record { name = n; value = e } ∷ cs)) ≡ false
  one_of (Some x) e xs cs here others = both (P e) _ here (others xs)
  one_of None e [] cs here others = others []
  one_of None e (x ∷ xs) cs here others = both (P e) _ here (others xs)

  pub none_connected : (xs : List Named) (cs : List Given) → list_any (λ c. P c.value) cs ≡ false → list_any (λ c. P c.value) (connections label xs cs) ≡ false
  none_connected xs [] all = refl
  none_connected xs (c ∷ cs) all =
      let parts = or_false (P c.value) (list_any (λ c. P c.value) cs) all in
      one_of c.name c.value xs cs parts.0 (λ ys. none_connected ys cs parts.1)

-- the value of an override without a fault is a constant
pub override_clean : (g : Scope) (v : Option Expr) (e : Expr) → v ≡ Some e → none (override_value_faults g v) ≡ true → value_names_faulty g v ≡ false → (names_constants g e ≡ true) × (none (faults g e) ≡ true)
override_clean g v e is sound known = constant_clean g e (faults g e) (sym (ap (λ v. none (override_value_faults g v)) is) ∙ sound) (sym (ap (value_names_faulty g) is) ∙ known)

module _ (g : Scope) (label : Named) (m : Module) (cs : List Given) (xs : List Named) (found : List Connection) (names : xs ≡ free_names m) (made : found ≡ connections label xs cs) where
  -- the connections of the parameters that may be given another value
  pub free_connections : found ≡ connections label (free_names m) cs
  free_connections = made ∙ ap (λ xs. connections label xs cs) names

  -- the faults of the values after those of the names
  pub overrides_met : (t u v : Tally) → u ≡ after_faults t (given_faults label xs cs) → v ≡ after_faults u (flat_map (λ c. override_value_faults g c.value) found) → v ≡ after_faults t (override_faults g label m cs)
  overrides_met t u v first second =
      met_then t u v (given_faults label (free_names m) cs) (flat_map (λ c. override_value_faults g c.value) (connections label (free_names m) cs)) (first ∙ ap (λ xs. after_faults t (given_faults label xs cs)) names) (second ∙ ap (λ cs. after_faults u (flat_map (λ c. override_value_faults g c.value) cs)) free_connections)

  -- whether each has its value
  pub overrides_sound : (known constant faulty : Bool) → known ≡ none (given_faults label xs cs) → constant ≡ none (flat_map (λ c. override_value_faults g c.value) found) → faulty ≡ list_any (λ c. value_names_faulty g c.value) cs →
      ((known && constant) && not faulty) ≡ are_sound_overrides g label m cs
  overrides_sound known constant faulty first second third =
      let names_known : known ≡ none (given_faults label (free_names m) cs) = first ∙ ap (λ xs. none (given_faults label xs cs)) names in
      let values_known : constant ≡ none (flat_map (λ c. override_value_faults g c.value) (connections label (free_names m) cs)) = second ∙ ap (λ cs. none (flat_map (λ c. override_value_faults g c.value) cs)) free_connections in
      rw (names_known, values_known, third) (ap (λ b. b && not (list_any (λ c. value_names_faulty g c.value) cs)) (sym (none_append (given_faults label (free_names m) cs) _)))

  -- what is found of those that have their values
  pub overrides_found : (given : List Override) (known constant faulty : Bool) → known ≡ true → constant ≡ true → faulty ≡ false → ((known && constant) && not faulty) ≡ are_sound_overrides g label m cs → given ≡ flat_map (λ c. override_of g c.port c.value) found →
      Some given ≡ (if are_sound_overrides g label m cs then Some (overrides g label m cs) else None)
  overrides_found given known constant faulty first second third sound is =
      let whole : are_sound_overrides g label m cs ≡ true = sym sound ∙ rw (first, second, third) refl in
      rw whole (ap Some (is ∙ ap (flat_map (λ c. override_of g c.port c.value)) free_connections))
