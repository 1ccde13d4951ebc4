-- A loop over the items of a module.
use Rattle.std.proofs.Common.{◌≡◌, ℕ, true, false, List, [], ◌++◌, append_assoc, length, ◌<◌, Ok, Err, refl, sym}
use Rattle.std.proofs.lemmas.List.{append-nil}
use Rattle.verilog_lexer.specs.Tokens.{Lexeme}
use Rattle.verilog_tree.specs.Tree.{Item}
use Rattle.grammar_rules.specs.Rule.{many, going, next, member, nullable, first, Outcome, ◌>>=◌}
use Rattle.grammar_rules.specs.Grammar.{reads}
use Rattle.grammar_rules.proofs.Language.{falls}
use Rattle.grammar_rules.proofs.Loops.{one_more, no_more, fails}
use Rattle.verilog_grammar.specs.Language.{verilog}
use Rattle.verilog_grammar.specs.Verilog.{grammar, begins}
use Rattle.verilog_grammar.specs.Modules.{item_rule, port_item_rule, port_rule, direction_rule, net_item_rule, variable_item_rule, integer_item_rule, parameter_item_rule, continuous_item_rule, always_item_rule, initial_item_rule, instance_item_rule, items_rule, joined}
use Rattle.verilog_grammar.proofs.Verilog.{tables, passes}
use Rattle.verilog_expressions.specs.declared.fault.ReadFault.{ReadFault}
use Rattle.verilog_expressions.specs.declared.fault.ReadFault.TheVariants as read_fault
use Rattle.verilog_expressions.specs.Gives.{Fails, fault_view}

-- the items so far and those that follow
abbrev pub with_items : List Item → List (List Item) → List Item
with_items so_far others = so_far ++ joined others

item_not_nullable : nullable item_rule ≡ false
unfolding item_rule port_item_rule port_rule direction_rule net_item_rule variable_item_rule integer_item_rule parameter_item_rule continuous_item_rule always_item_rule initial_item_rule instance_item_rule
item_not_nullable = refl

item_no_end : member 0 (first verilog begins item_rule) ≡ false
unfolding item_rule port_item_rule port_rule direction_rule net_item_rule variable_item_rule integer_item_rule parameter_item_rule continuous_item_rule always_item_rule initial_item_rule instance_item_rule
item_no_end = refl

join_items : (xs : List Item) (o : Outcome verilog (List (List Item))) → xs ≡ [] → going with_items xs o ≡ (o >>= λ x. Ok (joined x.0, x.1))
join_items xs (Ok x) e = rw e refl
join_items xs (Err f) e = refl

pub items_begun : (d : ℕ) (xs : List Item) (i : List Lexeme) → xs ≡ []
    → going with_items xs (reads verilog grammar d (many item_rule) i) ≡ reads verilog grammar d items_rule i
unfolding items_rule
items_begun d xs i e = join_items xs (reads verilog grammar d (many item_rule) i) e

pub items_more : (d : ℕ) (xs ys v : List Item) (i m : List Lexeme) (total : Outcome verilog (List Item))
    → ys ≡ xs ++ v → member (next verilog i) (first verilog begins item_rule) ≡ true → reads verilog grammar d item_rule i ≡ Ok (v, m)
    → going with_items xs (reads verilog grammar d (many item_rule) i) ≡ total → going with_items ys (reads verilog grammar d (many item_rule) m) ≡ total
items_more d xs ys v i m total y sees e h =
    rw y (one_more verilog grammar tables passes with_items d item_rule item_not_nullable item_no_end xs (xs ++ v) v i m total (λ vs. sym (append_assoc xs v (joined vs))) sees e h)

pub items_done : (d : ℕ) (xs : List Item) (i : List Lexeme) (total : Outcome verilog (List Item)) → member (next verilog i) (first verilog begins item_rule) ≡ false
    → going with_items xs (reads verilog grammar d (many item_rule) i) ≡ total → total ≡ Ok (xs, i)
items_done d xs i total sees h =
    let done = no_more verilog grammar tables passes with_items d item_rule item_not_nullable item_no_end xs i total sees h in rw append-nil at done

pub item_falls : (d : ℕ) (v : List Item) (i m : List Lexeme) → reads verilog grammar d item_rule i ≡ Ok (v, m) → length m < length i
item_falls d v i m e = falls verilog grammar tables passes d item_rule item_not_nullable i v m e

pub items_fail : (d : ℕ) (xs : List Item) (e : ReadFault) (i : List Lexeme) (total : Outcome verilog (List Item)) → member (next verilog i) (first verilog begins item_rule) ≡ true
    → Fails e (reads verilog grammar d item_rule i) → going with_items xs (reads verilog grammar d (many item_rule) i) ≡ total → Fails e total
items_fail d xs read_fault.Memory i total sees f h = tt
items_fail d xs (read_fault.At f) i total sees e h = fails verilog grammar tables passes with_items d item_rule item_not_nullable item_no_end xs i total (fault_view f) sees e h
