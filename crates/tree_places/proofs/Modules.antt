-- Where the processes of modules begin that tokens spell, and how many line points and counted nodes they have.
use Rattle.std.proofs.Common.{◌≡◌, ◌+◌, ◌≤◌, ℕ, zero, suc, nat_le, List, [], ◌∷◌, None, length, inl, inr, refl, subst, arith}
use Rattle.std.specs.Prelude.{sum_by}
use Rattle.std.proofs.lemmas.List.Sums.{sum_by-cons}
use Rattle.cov_host.specs.declared.place.Place.{Place}
use Rattle.design_model.specs.Design.{In}
use Rattle.flat_design.specs.Numbering.{form_lines, form_nodes, nodes}
use Rattle.flat_design.specs.Scope.{Scope}
use Rattle.grammar_rules.specs.Rule.{nest}
use Rattle.grammar_rules.specs.Grammar.{Nests}
use Rattle.grammar_rules.proofs.Holds.{AllOf}
use Rattle.verilog_grammar.specs.Language.{verilog, Phrase, expression, operand, target, statement, Value}
use Rattle.verilog_grammar.specs.Modules.{module_rule, source_rule}
use Rattle.verilog_grammar.specs.Verilog.{grammar, rule_of}
use Rattle.verilog_lexer.specs.Tokens.{Lexeme}
use Rattle.verilog_tree.specs.Tree.{Item, Module}
use Rattle.parsed_modules.specs.Spelled.{AreModules}
use Rattle.parsed_modules.proofs.Lists.{all_append, all_in}
use Rattle.parsed_modules.proofs.TokensHold.{Spelling, leaves}
use Rattle.tree_places.specs.Counted.{AreCountable, joined_nodes, module_joined, module_lines, module_nodes}
use Rattle.tree_places.specs.Example.{nothing}
use Rattle.tree_places.specs.Placed.{ArePlacedModules, IsPlaced, IsPlacedBody, IsTokenPlace}
use Rattle.tree_places.proofs.Expressions.{IsAt, expr_takes, level_takes, target_takes}
use Rattle.tree_places.proofs.Items.{IsPlacedItem, ArePlacedItems, item_parts, header_ports_take, items_take}
use Rattle.tree_places.proofs.Statements.{parts, statement_takes, total_append}
use Rattle.tree_places.proofs.TokensTaken.{total, Shrinks, taken, Takes, any_takes, both_take, made_takes, many_take, after_takes, before_takes}

-- ---- each depth

-- what holds of a phrase, and how many parts it has
abbrev IsPlacedPhrase : (Place → Type 0) → (p : Phrase) → Value p → Type 0
IsPlacedPhrase P expression e = IsPlaced P e
IsPlacedPhrase P (operand l) e = IsPlaced P e
IsPlacedPhrase P target e = IsPlaced P e
IsPlacedPhrase P (statement b) s = IsPlacedBody P s

abbrev phrase_parts : Scope → (p : Phrase) → Value p → ℕ
phrase_parts g expression e = nodes g e
phrase_parts g (operand l) e = nodes g e
phrase_parts g target e = nodes g e
phrase_parts g (statement b) s = parts g s

nests_shrink : (d : ℕ) (p : Phrase) (v : Value p) (i o : List Lexeme) → Nests verilog grammar d p v i o → length o ≤ length i
nests_shrink zero p v i o s = absurd s
nests_shrink (suc d) p v i o s = taken verilog (λ h. nat_le h d) (Nests verilog grammar d) (λ q w m n t. nests_shrink d q w m n t) (rule_of p) v i o s

module _ (P : Place → Type 0) where
  nests_leave : (d : ℕ) (p : Phrase) (v : Value p) (i o : List Lexeme) → AllOf (IsAt P) i → Nests verilog grammar d p v i o → AllOf (IsAt P) o
  nests_leave zero p v i o a s = absurd s
  nests_leave (suc d) p v i o a s =
      leaves verilog (IsAt P) (record { fits = λ h. nat_le h d; Nested = Nests verilog grammar d; leaves = λ q w m n b t. nests_leave d q w m n b t }) (rule_of p) v i o a s

  abbrev spelling : ℕ → Spelling verilog (IsAt P)
  spelling d = record { fits = λ h. nat_le h d; Nested = Nests verilog grammar d; leaves = nests_leave d }

  module _ (g : Scope) where
    abbrev Phrases : Spelling verilog (IsAt P) → Type 0
    Phrases S = (p : Phrase) → Takes S (nest p) (IsPlacedPhrase P p) (phrase_parts g p)

    phrase_takes : (S : Spelling verilog (IsAt P)) → Shrinks S → Phrases S → (p : Phrase) → Takes S (rule_of p) (IsPlacedPhrase P p) (phrase_parts g p)
    phrase_takes S shrinks inside expression = expr_takes P g S shrinks (inside expression) (λ l. inside (operand l)) (inside target)
    phrase_takes S shrinks inside (operand l) = level_takes P g S shrinks (inside expression) (λ l. inside (operand l)) (inside target) l
    phrase_takes S shrinks inside target = target_takes P g S shrinks (inside expression) (λ l. inside (operand l)) (inside target)
    phrase_takes S shrinks inside (statement b) = statement_takes P g S shrinks b (inside expression) (inside target) (inside (statement b))

    nested_takes : (d : ℕ) → Phrases (spelling d)
    nested_takes zero p = record { gives = record { holds = λ v i o a s. absurd s }; counts = λ v i o s. absurd s }
    nested_takes (suc d) p =
        let inside = phrase_takes (spelling d) (nests_shrink d) (nested_takes d) p in
        record { gives = record { holds = λ v i o a s. inside.gives.holds v i o a s }; counts = λ v i o s. inside.counts v i o s }

    -- ---- modules

    abbrev IsPlacedModule : Module → Type 0
    IsPlacedModule m = ArePlacedItems P m.items

    abbrev module_parts : Module → ℕ
    module_parts m = total (item_parts g) m.items

    module_takes : (S : Spelling verilog (IsAt P)) → Shrinks S → Phrases S → Takes S module_rule IsPlacedModule module_parts
    unfolding module_rule
    module_takes S shrinks inside =
        let ports = header_ports_take P g S shrinks (inside expression) (inside target) (λ b. inside (statement b)) in
        let items = items_take P g S shrinks (inside expression) (inside target) (λ b. inside (statement b)) in
        made_takes {w = λ p. 0 + (0 + (total (item_parts g) p.1.1.0.1 + (1 + total (item_parts g) p.1.1.1)))}
        (both_take (any_takes shrinks) (both_take (any_takes shrinks) (both_take ports (after_takes (before_takes items)))))
        (λ p q. all_append (IsPlacedItem P) p.1.1.0.1 p.1.1.1 q.1.1.0 q.1.1.1) (λ p. omega (arith, total_append (item_parts g) p.1.1.0.1 p.1.1.1))

    source_takes : (S : Spelling verilog (IsAt P)) → Shrinks S → Phrases S → Takes S source_rule (λ ms. AllOf IsPlacedModule ms) (λ ms. total module_parts ms)
    unfolding source_rule
    source_takes S shrinks inside = many_take (module_takes S shrinks inside)

    modules_placed : (tokens : List Lexeme) (ms : List Module) → AllOf (IsAt P) tokens → AreModules tokens ms → AllOf IsPlacedModule ms
    modules_placed tokens ms h s = (source_takes (spelling 256) (nests_shrink 256) (nested_takes 256)).gives.holds ms tokens [] h s

    modules_parts : (tokens : List Lexeme) (ms : List Module) → AreModules tokens ms → total module_parts ms + 0 ≤ length tokens
    modules_parts tokens ms s = (source_takes (spelling 256) (nests_shrink 256) (nested_takes 256)).counts ms tokens [] s

  pub placed_modules : (tokens : List Lexeme) (ms : List Module) → AllOf (IsAt P) tokens → AreModules tokens ms → ArePlacedModules P ms
  placed_modules tokens ms h s m k x j =
      let modules : AllOf (λ (m : Module). ArePlacedItems P m.items) ms = modules_placed (λ y. None) tokens ms h s in
      all_in (IsPlacedItem P) m.items (all_in (λ (m : Module). ArePlacedItems P m.items) ms modules m k) x j

-- one of the terms of a sum
member_total : {A : Type 0} (w : A → ℕ) (xs : List A) (x : A) → In x xs → w x ≤ total w xs
member_total w [] x h = absurd h
member_total w (y ∷ ys) x (inl e) = subst (λ z. w z ≤ w y + total w ys) e (omega arith)
member_total w (y ∷ ys) x (inr k) = omega (arith, member_total w ys x k)

items_counted : (g : Scope) (xs : List Item) → sum_by (λ x. form_lines x.form) xs + sum_by (λ x. form_nodes g x.form) xs + sum_by (λ x. joined_nodes g x.form) xs ≡ total (item_parts g) xs
items_counted g [] = refl
items_counted g (x ∷ xs) =
    omega (arith, sum_by-cons (λ (y : Item). form_lines y.form) x xs, sum_by-cons (λ (y : Item). form_nodes g y.form) x xs, sum_by-cons (λ (y : Item). joined_nodes g y.form) x xs, items_counted g xs)

-- each place
abbrev Anywhere : Place → Type 0
Anywhere p = Unit {0}

all_anywhere : (tokens : List Lexeme) → AllOf (IsAt Anywhere) tokens
all_anywhere [] = tt
all_anywhere (t ∷ tokens) = (tt, all_anywhere tokens)

pub counted_module : (tokens : List Lexeme) (ms : List Module) (m : Module) (g : Scope) → AreModules tokens ms → In m ms → module_lines m + module_nodes g m + module_joined g m ≤ length tokens
counted_module tokens ms m g s k =
    omega (arith, items_counted g m.items, member_total (λ (m : Module). total (item_parts g) m.items) ms m k, modules_parts Anywhere g tokens ms s)

pub countable_modules : (tokens : List Lexeme) (ms : List Module) → AreModules tokens ms → length tokens ≤ 4194304 → AreCountable ms
countable_modules tokens ms s few m k =
    record { few_lines = omega (arith, few, counted_module tokens ms m nothing s k); few_nodes = λ g. omega (arith, few, counted_module tokens ms m g s k) }

all_tokens : (P : Place → Type 0) (tokens : List Lexeme) → ((t : Lexeme) → In t tokens → P t.place) → AllOf (IsAt P) tokens
all_tokens P [] h = tt
all_tokens P (t ∷ tokens) h = (h t (inl refl), all_tokens P tokens (λ u k. h u (inr k)))

pub placed_at_tokens : (tokens : List Lexeme) (ms : List Module) → AreModules tokens ms → ArePlacedModules (IsTokenPlace tokens) ms
placed_at_tokens tokens ms s = placed_modules (IsTokenPlace tokens) tokens ms (all_tokens (IsTokenPlace tokens) tokens (λ t k. (t, k, refl))) s
