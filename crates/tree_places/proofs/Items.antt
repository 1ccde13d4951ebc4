-- Where the processes of items begin that tokens spell, and how many line points and counted nodes they and connections have.
use Rattle.std.proofs.Common.{◌≡◌, ◌+◌, ◌≤◌, ℕ, List, [], ◌∷◌, ◌++◌, map, Option, Some, None, refl, ap, arith}
use Rattle.std.specs.Prelude.{flat_map}
use Rattle.cov_host.specs.declared.place.Place.{Place}
use Rattle.flat_design.specs.Numbering.{form_lines, form_nodes, nodes, value_nodes, values_nodes}
use Rattle.flat_design.specs.Scope.{Scope}
use Rattle.grammar_rules.specs.Rule.{both, made, nest}
use Rattle.grammar_rules.proofs.Holds.{AllOf}
use Rattle.verilog_grammar.specs.declared.kind.Kind.TheVariants as k
use Rattle.verilog_grammar.specs.declared.body.Body.{Body}
use Rattle.verilog_grammar.specs.declared.body.Body.TheVariants.{Combinational, Clocked}
use Rattle.verilog_grammar.specs.Language.{verilog, target, statement}
use Rattle.verilog_grammar.specs.Parts.{after, an_expression, in_parentheses, named, name_rule, optional}
use Rattle.verilog_grammar.specs.Statements.{set_rule}
use Rattle.verilog_grammar.specs.Modules.{PortHead, Entry, new_port, more_name, port_items, plist_rule, header_ports_rule, port_item_rule, net_of, net_rule, net_item_rule, variable_item_rule, integer_item_rule, parameter_item_rule, continuous_item_of, continuous_item_rule, Timed, timed_rule, always_item_rule, initial_item_rule, connected_by_name, connected_by_place, connections_by_place, connections_rule, one_rule, instance_item_rule, item_rule, items_rule}
use Rattle.verilog_tree.specs.declared.item.Named.{Named}
use Rattle.verilog_tree.specs.Tree.{Expr, Declared, Given, Item, One}
use Rattle.parsed_modules.proofs.Lists.{all_in, all_map, all_flat_map}
use Rattle.parsed_modules.proofs.TokensHold.{Spelling, IfSome}
use Rattle.tree_places.specs.Counted.{connections_nodes, joined_nodes, ones_nodes, option_nodes}
use Rattle.tree_places.specs.Placed.{IsPlaced, IsPlacedBody, IsPlacedForm, IsPlacedNet}
use Rattle.tree_places.proofs.Expressions.{IsAt}
use Rattle.tree_places.proofs.Statements.{parts, total_append}
use Rattle.tree_places.proofs.TokensTaken.{total, total_if, Shrinks, Takes, any_takes, one_takes, both_take, either_takes, made_takes, less_takes, many_take, after_takes, before_takes, optional_takes, listed_takes}

-- the processes of an item begin at such places
abbrev pub IsPlacedItem : (Place → Type 0) → Item → Type 0
IsPlacedItem P x = IsPlacedForm P x.form

abbrev pub ArePlacedItems : (Place → Type 0) → List Item → Type 0
ArePlacedItems P xs = AllOf (IsPlacedItem P) xs

-- the line points and counted nodes of an item and of its connections
abbrev pub item_parts : Scope → Item → ℕ
item_parts g x = form_lines x.form + form_nodes g x.form + joined_nodes g x.form

-- ---- ports, which have no process

ports_placed : (P : Place → Type 0) (h : PortHead) (names : List Named) (entries : List Entry) → ArePlacedItems P (port_items h names entries)
ports_placed P h names [] = (tt, tt)
ports_placed P h names (new_port other ∷ entries) = (tt, ports_placed P other [] entries)
ports_placed P h names (more_name name ∷ entries) = ports_placed P h (names ++ name ∷ []) entries

ports_parts : (g : Scope) (h : PortHead) (names : List Named) (entries : List Entry) → total (item_parts g) (port_items h names entries) ≤ 0
ports_parts g h names [] = omega arith
ports_parts g h names (new_port other ∷ entries) = omega (arith, ports_parts g other [] entries)
ports_parts g h names (more_name name ∷ entries) = ports_parts g h (names ++ name ∷ []) entries

-- ---- nets

net_placed : (P : Place → Type 0) (x : Named) (e : Option Expr) → P x.place → IfSome (IsPlaced P) e → IsPlacedNet P (net_of (x, e))
net_placed P x None h k = (h, tt)
net_placed P x (Some e) h k = (h, k)

net_nodes : (g : Scope) (x : Named) (e : Option Expr) → value_nodes g (net_of (x, e)) ≤ total_if (nodes g) e
net_nodes g x None = omega arith
net_nodes g x (Some e) = omega arith

nets_nodes : (g : Scope) (ds : List Declared) → values_nodes g ds ≡ total (value_nodes g) ds
nets_nodes g [] = refl
nets_nodes g (d ∷ ds) = ap (λ n. value_nodes g d + n) (nets_nodes g ds)

-- ---- continuous assignments

abbrev IsPlacedSet : (Place → Type 0) → Expr × Expr → Type 0
IsPlacedSet P p = IsPlaced P p.0 × IsPlaced P p.1

abbrev set_nodes : Scope → Expr × Expr → ℕ
set_nodes g p = nodes g p.0 + nodes g p.1

sets_parts : (g : Scope) (p : Place) (sets : List (Expr × Expr)) → total (item_parts g) (map (continuous_item_of p) sets) ≡ total (set_nodes g) sets
sets_parts g p [] = refl
sets_parts g p (s ∷ sets) = omega (arith, sets_parts g p sets)

joined_parts : (g : Scope) (each : List (List Item)) → total (item_parts g) (flat_map (λ xs. xs) each) ≡ total (λ xs. total (item_parts g) xs) each
joined_parts g [] = refl
joined_parts g (xs ∷ each) = omega (arith, total_append (item_parts g) xs (flat_map (λ ys. ys) each), joined_parts g each)

-- ---- connections

-- those of a connection
abbrev given_nodes : Scope → Given → ℕ
given_nodes g c = option_nodes g c.value

option_total : (g : Scope) (e : Option Expr) → option_nodes g e ≡ total_if (nodes g) e
option_total g None = refl
option_total g (Some e) = refl

placed_nodes : (g : Scope) (es : List (Option Expr)) → total (given_nodes g) (map connected_by_place es) ≡ total (total_if (nodes g)) es
placed_nodes g [] = refl
placed_nodes g (e ∷ es) = omega (arith, option_total g e, placed_nodes g es)

connected_nodes : (g : Scope) (es : List (Option Expr)) → total (given_nodes g) (connections_by_place es) ≤ total (total_if (nodes g)) es
connected_nodes g [] = omega arith
connected_nodes g (None ∷ []) = omega arith
connected_nodes g (None ∷ e ∷ es) = omega (arith, placed_nodes g (None ∷ e ∷ es))
connected_nodes g (Some e ∷ es) = omega (arith, placed_nodes g (Some e ∷ es))

givens_nodes : (g : Scope) (cs : List Given) → connections_nodes g cs ≡ total (given_nodes g) cs
givens_nodes g [] = refl
givens_nodes g (c ∷ cs) = ap (λ n. given_nodes g c + n) (givens_nodes g cs)

-- those of an instance
abbrev one_nodes : Scope → One → ℕ
one_nodes g o = connections_nodes g o.given

instances_nodes : (g : Scope) (os : List One) → ones_nodes g os ≡ total (one_nodes g) os
instances_nodes g [] = refl
instances_nodes g (o ∷ os) = ap (λ n. one_nodes g o + n) (instances_nodes g os)

module _ (P : Place → Type 0) (g : Scope) (S : Spelling verilog (IsAt P)) (shrinks : Shrinks S) (expressions : Takes S an_expression (IsPlaced P) (nodes g)) (targets : Takes S (nest target) (IsPlaced P) (nodes g)) (statements : (b : Body) → Takes S (nest (statement b)) (IsPlacedBody P) (parts g)) where
  name_takes : Takes S name_rule (λ x. P x.place) (λ x. 1)
  name_takes = made_takes {f = named} {H = λ x. P x.place} {u = λ x. 1} one_takes (λ t q. q) (λ t. omega arith)

  plist_takes : Takes S plist_rule (λ p. ArePlacedItems P p.1) (λ p. total (item_parts g) p.1)
  unfolding plist_rule
  plist_takes =
      either_takes (made_takes (any_takes shrinks) (λ names q. tt) (λ names. omega arith))
      (made_takes (any_takes shrinks) (λ p q. ports_placed P p.0 [] p.1) (λ p. ports_parts g p.0 [] p.1))

  pub header_ports_take : Takes S header_ports_rule (λ p. ArePlacedItems P p.1) (λ p. total (item_parts g) p.1)
  unfolding header_ports_rule
  header_ports_take =
      either_takes (less_takes (after_takes (before_takes (either_takes plist_takes (made_takes (any_takes shrinks) (λ u q. tt) (λ u. omega arith))))) (λ p q. q) (λ p. omega arith))
      (made_takes (any_takes shrinks) (λ u q. tt) (λ u. omega arith))

  -- ---- declarations

  port_item_takes : Takes S port_item_rule (ArePlacedItems P) (total (item_parts g))
  unfolding port_item_rule
  port_item_takes = made_takes (any_takes shrinks) (λ p q. (tt, tt)) (λ p. omega arith)

  net_takes : Takes S net_rule (IsPlacedNet P) (value_nodes g)
  unfolding net_rule
  net_takes =
      made_takes {w = λ p. 1 + total_if (λ e. 1 + nodes g e) p.1} (both_take name_takes (optional_takes (after_takes expressions))) (λ p q. net_placed P p.0 p.1 q.0 q.1) (λ p. omega (arith, net_nodes g p.0 p.1, more_if g p.1))
    where
      more_if : (g : Scope) (e : Option Expr) → total_if (nodes g) e ≤ total_if (λ e. 1 + nodes g e) e
      more_if g None = omega arith
      more_if g (Some e) = omega arith

  net_item_takes : Takes S net_item_rule (ArePlacedItems P) (total (item_parts g))
  unfolding net_item_rule
  net_item_takes =
      made_takes {w = λ p. 1 + (0 + total (value_nodes g) p.1.1)} (both_take one_takes (both_take (any_takes shrinks) (before_takes (listed_takes net_takes))))
      (λ p q. ((λ d k. all_in (IsPlacedNet P) p.1.1 q.1.1 d k), tt)) (λ p. omega (arith, nets_nodes g p.1.1))

  variable_item_takes : Takes S variable_item_rule (ArePlacedItems P) (total (item_parts g))
  unfolding variable_item_rule
  variable_item_takes = made_takes (any_takes shrinks) (λ p q. (tt, tt)) (λ p. omega arith)

  integer_item_takes : Takes S integer_item_rule (ArePlacedItems P) (total (item_parts g))
  unfolding integer_item_rule
  integer_item_takes = made_takes (any_takes shrinks) (λ p q. (tt, tt)) (λ p. omega arith)

  parameter_item_takes : Takes S parameter_item_rule (ArePlacedItems P) (total (item_parts g))
  unfolding parameter_item_rule
  parameter_item_takes = made_takes (any_takes shrinks) (λ p q. (tt, tt)) (λ p. omega arith)

  -- ---- processes

  set_takes : Takes S set_rule (IsPlacedSet P) (set_nodes g)
  unfolding set_rule
  set_takes = less_takes {w = λ p. nodes g p.0 + (1 + nodes g p.1)} (both_take targets (after_takes expressions)) (λ p q. q) (λ p. omega arith)

  continuous_item_takes : Takes S continuous_item_rule (ArePlacedItems P) (total (item_parts g))
  unfolding continuous_item_rule
  continuous_item_takes =
      made_takes {w = λ p. 1 + total (set_nodes g) p.1} (both_take one_takes (before_takes (listed_takes set_takes)))
      (λ p q. all_map (IsPlacedSet P) (IsPlacedItem P) (continuous_item_of p.0.place) (λ s k. k) p.1 q.1) (λ p. omega (arith, sets_parts g p.0.place p.1))

  abbrev IsPlacedTimed : Timed → Type 0
  IsPlacedTimed p = IsPlacedBody P p.1

  abbrev timed_parts : Timed → ℕ
  timed_parts p = parts g p.1

  timed_takes : Takes S timed_rule IsPlacedTimed timed_parts
  unfolding timed_rule
  timed_takes =
      either_takes (made_takes (after_takes (statements Combinational)) (λ s q. q) (λ s. omega arith))
      (less_takes
      (after_takes {w = timed_parts}
      (either_takes (made_takes (after_takes (after_takes (statements Combinational))) (λ s q. q) (λ s. omega arith))
      (either_takes (made_takes {w = λ p. 0 + (1 + parts g p.1)} (both_take (any_takes shrinks) (after_takes (statements Combinational))) (λ p q. q.1) (λ p. omega arith))
      (made_takes {w = λ p. 0 + (1 + parts g p.1)} (both_take (any_takes shrinks) (after_takes (statements Clocked))) (λ p q. q.1) (λ p. omega arith)))))
      (λ p q. q) (λ p. omega arith))

  always_item_takes : Takes S always_item_rule (ArePlacedItems P) (total (item_parts g))
  unfolding always_item_rule
  always_item_takes = made_takes {w = λ p. 1 + (1 + timed_parts p.1)} (both_take one_takes (after_takes timed_takes)) (λ p q. (q.1, tt)) (λ p. omega arith)

  initial_item_takes : Takes S initial_item_rule (ArePlacedItems P) (total (item_parts g))
  unfolding initial_item_rule
  initial_item_takes = made_takes (any_takes shrinks) (λ p q. (tt, tt)) (λ p. omega arith)

  -- ---- instances

  connection_takes : Takes S (made connected_by_name (both (after k.Dot name_rule) (in_parentheses (optional an_expression)))) (λ c. Unit {0}) (given_nodes g)
  connection_takes = made_takes {w = λ p. 0 + (1 + total_if (nodes g) p.1)} (both_take (any_takes shrinks) (after_takes (before_takes (optional_takes expressions)))) (λ p q. tt) (λ p. omega (arith, option_total g p.1))

  connections_take : Takes S connections_rule (λ cs. Unit {0}) (connections_nodes g)
  unfolding connections_rule
  connections_take =
      either_takes (less_takes {w = λ cs. total (given_nodes g) cs} (listed_takes connection_takes) (λ cs q. tt) (λ cs. omega (arith, givens_nodes g cs)))
      (made_takes {w = λ es. total (total_if (nodes g)) es} (listed_takes (optional_takes expressions)) (λ es q. tt) (λ es. omega (arith, givens_nodes g (connections_by_place es), connected_nodes g es)))

  one_instance_takes : Takes S one_rule (λ o. Unit {0}) (one_nodes g)
  unfolding one_rule
  one_instance_takes = made_takes {w = λ p. 0 + (1 + connections_nodes g p.1)} (both_take (any_takes shrinks) (after_takes (before_takes connections_take))) (λ p q. tt) (λ p. omega arith)

  instance_item_takes : Takes S instance_item_rule (ArePlacedItems P) (total (item_parts g))
  unfolding instance_item_rule
  instance_item_takes =
      made_takes {w = λ p. 0 + (0 + total (one_nodes g) p.1.1)} (both_take (any_takes shrinks) (both_take (any_takes shrinks) (before_takes (listed_takes one_instance_takes)))) (λ p q. (tt, tt)) (λ p. omega (arith, instances_nodes g p.1.1))

  item_takes : Takes S item_rule (ArePlacedItems P) (total (item_parts g))
  unfolding item_rule
  item_takes =
      either_takes port_item_takes (either_takes net_item_takes (either_takes variable_item_takes (either_takes integer_item_takes (either_takes parameter_item_takes
      (either_takes continuous_item_takes (either_takes always_item_takes (either_takes initial_item_takes instance_item_takes)))))))

  pub items_take : Takes S items_rule (ArePlacedItems P) (total (item_parts g))
  unfolding items_rule
  items_take =
      made_takes (many_take item_takes) (λ each q. all_flat_map (ArePlacedItems P) (IsPlacedItem P) (λ xs. xs) (λ xs k. k) each q) (λ each. omega (arith, joined_parts g each))
