-- What holds of the modules that sound tokens spell.
use Rattle.std.proofs.Common.{ℕ, zero, suc, nat_le, List, [], map}
use Rattle.std.specs.Prelude.{flat_map}
use Rattle.four_state.specs.Vector.{HasWidth}
use Rattle.design_model.specs.Design.{In}
use Rattle.verilog_lexer.specs.Tokens.{Lexeme}
use Rattle.verilog_lexer.specs.TokenTexts.{AreSound}
use Rattle.verilog_tree.specs.Tree.{Item, Module}
use Rattle.grammar_rules.specs.Rule.{nest}
use Rattle.grammar_rules.specs.Grammar.{Nests}
use Rattle.grammar_rules.proofs.Holds.{AllOf}
use Rattle.verilog_grammar.specs.Language.{verilog, Phrase, expression, operand, target, statement, Value}
use Rattle.verilog_grammar.specs.Modules.{module_rule, source_rule}
use Rattle.verilog_grammar.specs.Verilog.{grammar, rule_of}
use Rattle.flat_design.specs.Identifiers.{declared_names, names_of}
use Rattle.flat_laws.specs.Literals.{literals, item_literals, literals_of}
use Rattle.parsed_modules.specs.Named.{AreNamed}
use Rattle.parsed_modules.specs.Spelled.{AreModules}
use Rattle.flat_laws.specs.Tokens.{AreOfTokens}
use Rattle.parsed_modules.proofs.TokensHold.{Spelling, leaves, Gives, both_give, made_gives, many_gives}
use Rattle.parsed_modules.proofs.Parts.{after_gives, before_gives}
use Rattle.parsed_modules.proofs.Lists.{all_append, all_map, all_flat_map, all_in}
use Rattle.parsed_modules.proofs.Names.{IsNameToken, IsName, name_gives, sound_names, identifier_has_no_dot, identifier_not_empty}
use Rattle.parsed_modules.proofs.Expressions.{HaveWidths, IsSized, two_sized, expr_gives, level_gives, target_gives}
use Rattle.parsed_modules.proofs.Statements.{IsIn, statement_gives}
use Rattle.parsed_modules.proofs.Items.{IsSoundItem, instance_name, process_quiet, AreSoundItems, IsSoundParam, header_ports_give, header_params_give, items_give}

-- ---- each depth

-- what holds of a phrase
abbrev IsSoundPhrase : (p : Phrase) → Value p → Type 0
IsSoundPhrase expression e = IsSized e
IsSoundPhrase (operand l) e = IsSized e
IsSoundPhrase target e = IsSized e
IsSoundPhrase (statement b) s = IsIn b s

-- where each of the tokens is such, each that phrases leave is
nests_leave : (d : ℕ) (p : Phrase) (v : Value p) (i o : List Lexeme) → AllOf IsNameToken i → Nests verilog grammar d p v i o → AllOf IsNameToken o
nests_leave zero p v i o a s = absurd s
nests_leave (suc d) p v i o a s =
    leaves verilog IsNameToken (record { fits = λ h. nat_le h d; Nested = Nests verilog grammar d; leaves = λ q w m n b t. nests_leave d q w m n b t }) (rule_of p) v i o a s

abbrev spelling : ℕ → Spelling verilog IsNameToken
spelling d = record { fits = λ h. nat_le h d; Nested = Nests verilog grammar d; leaves = nests_leave d }

phrase_gives : (S : Spelling verilog IsNameToken) → ((p : Phrase) → Gives S (nest p) (IsSoundPhrase p)) → (p : Phrase) → Gives S (rule_of p) (IsSoundPhrase p)
phrase_gives S inside expression = expr_gives S (inside expression) (λ l. inside (operand l)) (inside target)
phrase_gives S inside (operand l) = level_gives S (inside expression) (λ l. inside (operand l)) (inside target) l
phrase_gives S inside target = target_gives S (inside expression) (λ l. inside (operand l)) (inside target)
phrase_gives S inside (statement b) = statement_gives S b (inside expression) (inside target) (inside (statement b))

nested_gives : (d : ℕ) (p : Phrase) → Gives (spelling d) (nest p) (IsSoundPhrase p)
nested_gives zero p = record { holds = λ v i o a s. absurd s }
nested_gives (suc d) p = record { holds = λ v i o a s. (phrase_gives (spelling d) (λ q. nested_gives d q) p).holds v i o a s }

-- ---- modules

record IsSoundModule (m : Module) : Type 0 where
  name : IsName m.name
  params : AllOf IsSoundParam m.params
  items : AreSoundItems m.items

module_gives : (S : Spelling verilog IsNameToken) → ((p : Phrase) → Gives S (nest p) (IsSoundPhrase p)) → Gives S module_rule IsSoundModule
unfolding module_rule
module_gives S inside =
    made_gives {Q = λ p. IsName p.0 × (AllOf IsSoundParam p.1.0 × (AreSoundItems p.1.1.0.1 × AreSoundItems p.1.1.1))}
    (both_give (after_gives (name_gives S))
    (both_give (header_params_give S (inside expression) (inside target) (λ b. inside (statement b)))
    (both_give (header_ports_give S (inside expression) (inside target) (λ b. inside (statement b))) (after_gives (before_gives (items_give S (inside expression) (inside target) (λ b. inside (statement b))))))))
    (λ p q. record { name = q.0; params = q.1.0; items = all_append IsSoundItem p.1.1.0.1 p.1.1.1 q.1.1.0 q.1.1.1 })

source_gives : (S : Spelling verilog IsNameToken) → ((p : Phrase) → Gives S (nest p) (IsSoundPhrase p)) → Gives S source_rule (λ ms. AllOf IsSoundModule ms)
unfolding source_rule
source_gives S inside = many_gives (module_gives S inside)

sound_modules : (tokens : List Lexeme) (ms : List Module) → AreSound [] tokens → AreModules tokens ms → AllOf IsSoundModule ms
sound_modules tokens ms h s = (source_gives (spelling 256) (nested_gives 256)).holds ms tokens [] (sound_names [] tokens h) s

names_sound : (m : Module) → IsSoundModule m → AllOf IsName (names_of m)
names_sound m h =
    all_append IsName (map (λ p. p.name) m.params) (flat_map (λ i. declared_names i.form) m.items) (all_map IsSoundParam IsName (λ p. p.name) (λ p k. k.name) m.params h.params)
    (all_flat_map IsSoundItem IsName (λ i. declared_names i.form) (λ i k. k.names) m.items h.items)

literals_sound : (m : Module) → IsSoundModule m → HaveWidths (literals_of m)
literals_sound m h =
    two_sized (flat_map (λ p. literals p.value) m.params) (flat_map (λ i. item_literals i.form) m.items)
    (all_flat_map IsSoundParam HasWidth (λ p. literals p.value) (λ p k. k.value) m.params h.params)
    (all_flat_map IsSoundItem HasWidth (λ i. item_literals i.form) (λ i k. k.literals) m.items h.items)

pub named_modules : (tokens : List Lexeme) (ms : List Module) → AreSound [] tokens → AreModules tokens ms → AreNamed ms
named_modules tokens ms h s = record {
  modules = λ m k. (all_in IsSoundModule ms (sound_modules tokens ms h s) m k).name;
  names = λ m k x j. all_in IsName (names_of m) (names_sound m (all_in IsSoundModule ms (sound_modules tokens ms h s) m k)) x j;
}

pub modules_of_tokens : (tokens : List Lexeme) (ms : List Module) → AreSound [] tokens → AreModules tokens ms → AreOfTokens ms
modules_of_tokens tokens ms h s = record {
  modules = λ m k. identifier_has_no_dot m.name.name (sound m k).name;
  instances = λ m k x j f e o l. identifier_has_no_dot o.name.name (instance_name x (item m k x j) f e o l);
  names = λ m k x j. identifier_not_empty x.name (all_in IsName (names_of m) (names_sound m (sound m k)) x j);
  blocking = λ m k x j w b e. process_quiet x (item m k x j) w b e;
  literals = λ m k v j. all_in HasWidth (literals_of m) (literals_sound m (sound m k)) v j;
}
  where
    sound : (m : Module) → In m ms → IsSoundModule m
    sound m k = all_in IsSoundModule ms (sound_modules tokens ms h s) m k

    item : (m : Module) → In m ms → (x : Item) → In x m.items → IsSoundItem x
    item m k x j = all_in IsSoundItem m.items (sound m k).items x j
