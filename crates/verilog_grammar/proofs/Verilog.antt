-- The grammar passes the tests, so the laws of all grammars hold of it.
use Rattle.std.proofs.Common.{◌≡◌, ℕ, true, false, List, [], ◌∷◌, ◌++◌, Ok, refl}
use Rattle.std.specs.Prelude.{nat_eq, if◌then◌else◌, codes}
use Rattle.cov_host.specs.declared.place.Place.{Place}
use Rattle.verilog_lexer.specs.Tokens.{Lexeme}
use Rattle.verilog_lexer.specs.declared.token.TokenKind.{TokenKind}
use Rattle.verilog_lexer.specs.declared.token.TokenKind.TheVariants as lexical
use Rattle.verilog_tree.specs.Tree.{identifier, null_statement}
use Rattle.grammar_rules.specs.Rule.{next, member, nullable, first, too_deep, take_one, repeat, grow_by}
use Rattle.grammar_rules.specs.Grammar.{phrase, whole}
use Rattle.cov_host.specs.Identifier.{is_reserved}
use Rattle.verilog_grammar.specs.Examples.{at, tokens_of, said, wrong, ReadsTexts}
use Rattle.grammar_rules.specs.Laws.{Stands, IsExact}
use Rattle.grammar_rules.proofs.Complete.{is_told}
use Rattle.grammar_rules.proofs.Local.{steps}
use Rattle.grammar_rules.proofs.Deeper.{is_lean}
use Rattle.grammar_rules.proofs.Opened.{is_open}
use Rattle.grammar_rules.proofs.Framed.{is_fit}
use Rattle.grammar_rules.proofs.Passes.{Tables, Passes}
use Rattle.grammar_rules.proofs.Exact.{exact}
use Rattle.verilog_grammar.proofs.Measures.{measures}
use Rattle.verilog_grammar.specs.Kind.{Kind, code, kind_of}
use Rattle.verilog_grammar.specs.declared.kind.Kind.TheVariants as k
use Rattle.verilog_grammar.specs.declared.kind.TheConstants.{KEYWORDS, OPERATORS, SYSTEM_NAMES}
use Rattle.verilog_grammar.specs.declared.level.Level.{Level}
use Rattle.verilog_grammar.specs.declared.level.Level.TheVariants as level
use Rattle.verilog_grammar.specs.declared.body.Body.TheVariants.{Combinational, Clocked, Initial}
use Rattle.verilog_grammar.specs.Language.{verilog, Phrase, expression, operand, target, statement, Value}
use Rattle.verilog_grammar.specs.Verilog.{grammar, rule_of, begins, begins_expression, begins_statement, codes_of}
use Rattle.verilog_grammar.specs.Parts.{range_rule}
use Rattle.verilog_grammar.specs.Expressions.{number_rule, select_end_rule, select_rule, selects_rule, exprs_rule, paren_rule, brace_end_rule, braced_rule, cast_rule, prim_rule, unary_rule, operation_rule, product_rule, sum_rule, shift_rule, relation_rule, equality_rule, bitwise_and_rule, bitwise_xor_rule, bitwise_or_rule, logical_and_rule, logical_or_rule, branches_rule, expr_rule, target_name_rule, targets_rule, target_rule}
use Rattle.verilog_grammar.specs.Statements.{statements_rule, block_rule, if_rule, label_arm_rule, label_arms_rule, default_arm_rule, default_arms_rule, arms_rule, case_rule, set_rule, header_rule, for_rule, assignment_rule, argument_rule, arguments_rule, task_rule, statement_rule}
use Rattle.verilog_grammar.specs.Modules.{direction_rule, shape_rule, port_rule, entry_rule, entries_rule, plist_rule, header_ports_rule, type_rule, valued_rule, header_param_rule, header_params_rule, port_item_rule, net_rule, net_item_rule, variable_rule, variable_item_rule, integer_item_rule, parameter_item_rule, continuous_item_rule, edge_rule, timed_rule, always_item_rule, initial_item_rule, overrides_rule, connections_rule, one_rule, instance_item_rule, item_rule, items_rule, module_rule, source_rule}

-- ---- tables

abbrev behind_expression : List Kind
behind_expression = k.CloseParen ∷ k.CloseBracket ∷ k.Colon ∷ k.Comma ∷ k.Semicolon ∷ k.CloseBrace ∷ k.OpenBrace ∷ k.PlusColon ∷ k.MinusColon ∷ []

-- what may follow an operand of a level: the looser operators, and what follows expressions
abbrev behind_logical_or : List Kind
behind_logical_or = k.Question ∷ behind_expression

abbrev behind_logical_and : List Kind
behind_logical_and = k.OrOr ∷ behind_logical_or

abbrev behind_bitwise_or : List Kind
behind_bitwise_or = k.AndAnd ∷ behind_logical_and

abbrev behind_bitwise_xor : List Kind
behind_bitwise_xor = k.Or ∷ behind_bitwise_or

abbrev behind_bitwise_and : List Kind
behind_bitwise_and = k.Xor ∷ k.TildeXor ∷ k.XorTilde ∷ behind_bitwise_xor

abbrev behind_equality : List Kind
behind_equality = k.And ∷ behind_bitwise_and

abbrev behind_relation : List Kind
behind_relation = k.EqualEqual ∷ k.NotEqual ∷ k.CaseEqual ∷ k.CaseNotEqual ∷ behind_equality

abbrev behind_shift : List Kind
behind_shift = k.Less ∷ k.LessOrEqual ∷ k.Greater ∷ k.GreaterOrEqual ∷ behind_relation

abbrev behind_sum : List Kind
behind_sum = k.ShiftLeft ∷ k.ShiftRight ∷ k.ArithmeticShiftLeft ∷ k.ArithmeticShiftRight ∷ behind_shift

abbrev behind_product : List Kind
behind_product = k.Plus ∷ k.Minus ∷ behind_sum

abbrev behind_unary : List Kind
behind_unary = k.Star ∷ k.Slash ∷ k.Percent ∷ behind_product

abbrev behind_operand : Level → List Kind
behind_operand level.Unary = behind_unary
behind_operand level.Product = behind_product
behind_operand level.Sum = behind_sum
behind_operand level.Shift = behind_shift
behind_operand level.Relation = behind_relation
behind_operand level.Equality = behind_equality
behind_operand level.BitwiseAnd = behind_bitwise_and
behind_operand level.BitwiseXor = behind_bitwise_xor
behind_operand level.BitwiseOr = behind_bitwise_or
behind_operand level.LogicalAnd = behind_logical_and
behind_operand level.LogicalOr = behind_logical_or

abbrev behind_statement : List Kind
behind_statement =
    begins_statement Initial ++ begins_expression
    ++ (k.End ∷ k.Else ∷ k.Endcase ∷ k.Default ∷ k.Input ∷ k.Output ∷ k.Wire ∷ k.Reg ∷ k.Integer ∷ k.Parameter ∷ k.Localparam ∷ k.Assign ∷ k.Always ∷ k.Initial ∷ k.Endmodule ∷ [])

abbrev follow : Phrase → List ℕ
follow expression = codes_of behind_expression
follow (operand l) = codes_of (behind_operand l)
follow target = codes_of (k.Comma ∷ k.CloseBrace ∷ k.Equals ∷ k.LessOrEqual ∷ [])
follow (statement b) = codes_of behind_statement

abbrev nowhere : Place
nowhere = record { source = 0; line = 0; column = 0 }

abbrev token_by : TokenKind → List ℕ → Lexeme
token_by kind text = record { kind = kind; text = text; place = nowhere }

-- the token whose kind has a number, by a table, or another one
abbrev by_table : {A : Type 0} → (A → List ℕ) → TokenKind → List (A × Kind) → ℕ → Lexeme → Lexeme
by_table text kind [] n other = other
by_table text kind (entry ∷ entries) n other = if nat_eq (code entry.1) n then token_by kind (text entry.0) else by_table text kind entries n other

abbrev by_class : ℕ → Lexeme
by_class n =
    if nat_eq n (code k.Decimal) then token_by lexical.Decimal (48 ∷ [])
    else if nat_eq n (code k.Based) then token_by lexical.Based (39 ∷ 98 ∷ 48 ∷ [])
    else if nat_eq n (code k.Quoted) then token_by lexical.Quoted (34 ∷ 34 ∷ [])
    else if nat_eq n (code k.OtherSystem) then token_by lexical.System (36 ∷ [])
    else token_by lexical.Identifier (97 ∷ [])

-- a token of the kind with this number
abbrev token : ℕ → Lexeme
token n = by_table (λ t. t.now) lexical.Keyword KEYWORDS n (by_table (λ t. t.now) lexical.Operator OPERATORS n (by_table (λ t. t.now) lexical.System SYSTEM_NAMES n (by_class n)))

abbrev name_token : Lexeme
name_token = token_by lexical.Identifier (97 ∷ [])

abbrev semicolon_token : Lexeme
semicolon_token = token_by lexical.Operator (59 ∷ [])

abbrev word_of : Phrase → List Lexeme
word_of expression = name_token ∷ []
word_of (operand l) = name_token ∷ []
word_of target = name_token ∷ []
word_of (statement b) = semicolon_token ∷ []

abbrev value_of : (p : Phrase) → Value p
value_of expression = identifier nowhere (97 ∷ [])
value_of (operand l) = identifier nowhere (97 ∷ [])
value_of target = identifier nowhere (97 ∷ [])
value_of (statement b) = null_statement nowhere

abbrev greedy : List ℕ
greedy = code k.Else ∷ []

abbrev pub tables : Tables verilog
tables = record { follow = follow; greedy = greedy; token = token; word_of = word_of; value_of = value_of; enough = 1 }

-- ---- the tests

not_nullable : (p : Phrase) → nullable (rule_of p) ≡ false
unfolding range_rule number_rule select_end_rule select_rule selects_rule exprs_rule paren_rule brace_end_rule braced_rule cast_rule prim_rule unary_rule operation_rule product_rule sum_rule shift_rule relation_rule equality_rule bitwise_and_rule bitwise_xor_rule bitwise_or_rule logical_and_rule logical_or_rule branches_rule expr_rule target_name_rule targets_rule target_rule statements_rule block_rule if_rule label_arm_rule label_arms_rule default_arm_rule default_arms_rule arms_rule case_rule set_rule header_rule for_rule assignment_rule argument_rule arguments_rule task_rule statement_rule direction_rule shape_rule port_rule entry_rule entries_rule plist_rule header_ports_rule type_rule valued_rule header_param_rule header_params_rule port_item_rule net_rule net_item_rule variable_rule variable_item_rule integer_item_rule parameter_item_rule continuous_item_rule edge_rule timed_rule always_item_rule initial_item_rule overrides_rule connections_rule one_rule instance_item_rule item_rule items_rule module_rule source_rule
not_nullable expression = refl
not_nullable (operand level.Unary) = refl
not_nullable (operand level.Product) = refl
not_nullable (operand level.Sum) = refl
not_nullable (operand level.Shift) = refl
not_nullable (operand level.Relation) = refl
not_nullable (operand level.Equality) = refl
not_nullable (operand level.BitwiseAnd) = refl
not_nullable (operand level.BitwiseXor) = refl
not_nullable (operand level.BitwiseOr) = refl
not_nullable (operand level.LogicalAnd) = refl
not_nullable (operand level.LogicalOr) = refl
not_nullable target = refl
not_nullable (statement Combinational) = refl
not_nullable (statement Clocked) = refl
not_nullable (statement Initial) = refl

begins_first : (p : Phrase) → first verilog begins (rule_of p) ≡ begins p
unfolding range_rule number_rule select_end_rule select_rule selects_rule exprs_rule paren_rule brace_end_rule braced_rule cast_rule prim_rule unary_rule operation_rule product_rule sum_rule shift_rule relation_rule equality_rule bitwise_and_rule bitwise_xor_rule bitwise_or_rule logical_and_rule logical_or_rule branches_rule expr_rule target_name_rule targets_rule target_rule statements_rule block_rule if_rule label_arm_rule label_arms_rule default_arm_rule default_arms_rule arms_rule case_rule set_rule header_rule for_rule assignment_rule argument_rule arguments_rule task_rule statement_rule direction_rule shape_rule port_rule entry_rule entries_rule plist_rule header_ports_rule type_rule valued_rule header_param_rule header_params_rule port_item_rule net_rule net_item_rule variable_rule variable_item_rule integer_item_rule parameter_item_rule continuous_item_rule edge_rule timed_rule always_item_rule initial_item_rule overrides_rule connections_rule one_rule instance_item_rule item_rule items_rule module_rule source_rule
begins_first expression = refl
begins_first (operand level.Unary) = refl
begins_first (operand level.Product) = refl
begins_first (operand level.Sum) = refl
begins_first (operand level.Shift) = refl
begins_first (operand level.Relation) = refl
begins_first (operand level.Equality) = refl
begins_first (operand level.BitwiseAnd) = refl
begins_first (operand level.BitwiseXor) = refl
begins_first (operand level.BitwiseOr) = refl
begins_first (operand level.LogicalAnd) = refl
begins_first (operand level.LogicalOr) = refl
begins_first target = refl
begins_first (statement Combinational) = refl
begins_first (statement Clocked) = refl
begins_first (statement Initial) = refl

no_end : (p : Phrase) → member 0 (begins p) ≡ false
no_end expression = refl
no_end (operand level.Unary) = refl
no_end (operand level.Product) = refl
no_end (operand level.Sum) = refl
no_end (operand level.Shift) = refl
no_end (operand level.Relation) = refl
no_end (operand level.Equality) = refl
no_end (operand level.BitwiseAnd) = refl
no_end (operand level.BitwiseXor) = refl
no_end (operand level.BitwiseOr) = refl
no_end (operand level.LogicalAnd) = refl
no_end (operand level.LogicalOr) = refl
no_end target = refl
no_end (statement Combinational) = refl
no_end (statement Clocked) = refl
no_end (statement Initial) = refl

told : (p : Phrase) → is_told verilog begins follow (rule_of p) (follow p) ≡ true
unfolding range_rule number_rule select_end_rule select_rule selects_rule exprs_rule paren_rule brace_end_rule braced_rule cast_rule prim_rule unary_rule operation_rule product_rule sum_rule shift_rule relation_rule equality_rule bitwise_and_rule bitwise_xor_rule bitwise_or_rule logical_and_rule logical_or_rule branches_rule expr_rule target_name_rule targets_rule target_rule statements_rule block_rule if_rule label_arm_rule label_arms_rule default_arm_rule default_arms_rule arms_rule case_rule set_rule header_rule for_rule assignment_rule argument_rule arguments_rule task_rule statement_rule direction_rule shape_rule port_rule entry_rule entries_rule plist_rule header_ports_rule type_rule valued_rule header_param_rule header_params_rule port_item_rule net_rule net_item_rule variable_rule variable_item_rule integer_item_rule parameter_item_rule continuous_item_rule edge_rule timed_rule always_item_rule initial_item_rule overrides_rule connections_rule one_rule instance_item_rule item_rule items_rule module_rule source_rule
told expression = refl
told (operand level.Unary) = refl
told (operand level.Product) = refl
told (operand level.Sum) = refl
told (operand level.Shift) = refl
told (operand level.Relation) = refl
told (operand level.Equality) = refl
told (operand level.BitwiseAnd) = refl
told (operand level.BitwiseXor) = refl
told (operand level.BitwiseOr) = refl
told (operand level.LogicalAnd) = refl
told (operand level.LogicalOr) = refl
told target = refl
told (statement Combinational) = refl
told (statement Clocked) = refl
told (statement Initial) = refl

fit : (p : Phrase) → is_fit verilog greedy begins token (rule_of p) ≡ true
unfolding range_rule number_rule select_end_rule select_rule selects_rule exprs_rule paren_rule brace_end_rule braced_rule cast_rule prim_rule unary_rule operation_rule product_rule sum_rule shift_rule relation_rule equality_rule bitwise_and_rule bitwise_xor_rule bitwise_or_rule logical_and_rule logical_or_rule branches_rule expr_rule target_name_rule targets_rule target_rule statements_rule block_rule if_rule label_arm_rule label_arms_rule default_arm_rule default_arms_rule arms_rule case_rule set_rule header_rule for_rule assignment_rule argument_rule arguments_rule task_rule statement_rule direction_rule shape_rule port_rule entry_rule entries_rule plist_rule header_ports_rule type_rule valued_rule header_param_rule header_params_rule port_item_rule net_rule net_item_rule variable_rule variable_item_rule integer_item_rule parameter_item_rule continuous_item_rule edge_rule timed_rule always_item_rule initial_item_rule overrides_rule connections_rule one_rule instance_item_rule item_rule items_rule module_rule source_rule kind_of
fit expression = refl
fit (operand level.Unary) = refl
fit (operand level.Product) = refl
fit (operand level.Sum) = refl
fit (operand level.Shift) = refl
fit (operand level.Relation) = refl
fit (operand level.Equality) = refl
fit (operand level.BitwiseAnd) = refl
fit (operand level.BitwiseXor) = refl
fit (operand level.BitwiseOr) = refl
fit (operand level.LogicalAnd) = refl
fit (operand level.LogicalOr) = refl
fit target = refl
fit (statement Combinational) = refl
fit (statement Clocked) = refl
fit (statement Initial) = refl

opened : (p : Phrase) → is_open verilog (λ q. is_open verilog (λ r. false) (rule_of q)) (rule_of p) ≡ true
unfolding range_rule number_rule select_end_rule select_rule selects_rule exprs_rule paren_rule brace_end_rule braced_rule cast_rule prim_rule unary_rule operation_rule product_rule sum_rule shift_rule relation_rule equality_rule bitwise_and_rule bitwise_xor_rule bitwise_or_rule logical_and_rule logical_or_rule branches_rule expr_rule target_name_rule targets_rule target_rule statements_rule block_rule if_rule label_arm_rule label_arms_rule default_arm_rule default_arms_rule arms_rule case_rule set_rule header_rule for_rule assignment_rule argument_rule arguments_rule task_rule statement_rule direction_rule shape_rule port_rule entry_rule entries_rule plist_rule header_ports_rule type_rule valued_rule header_param_rule header_params_rule port_item_rule net_rule net_item_rule variable_rule variable_item_rule integer_item_rule parameter_item_rule continuous_item_rule edge_rule timed_rule always_item_rule initial_item_rule overrides_rule connections_rule one_rule instance_item_rule item_rule items_rule module_rule source_rule
opened expression = refl
opened (operand level.Unary) = refl
opened (operand level.Product) = refl
opened (operand level.Sum) = refl
opened (operand level.Shift) = refl
opened (operand level.Relation) = refl
opened (operand level.Equality) = refl
opened (operand level.BitwiseAnd) = refl
opened (operand level.BitwiseXor) = refl
opened (operand level.BitwiseOr) = refl
opened (operand level.LogicalAnd) = refl
opened (operand level.LogicalOr) = refl
opened target = refl
opened (statement Combinational) = refl
opened (statement Clocked) = refl
opened (statement Initial) = refl

lean : (p : Phrase) → is_lean verilog (rule_of p) ≡ true
unfolding range_rule number_rule select_end_rule select_rule selects_rule exprs_rule paren_rule brace_end_rule braced_rule cast_rule prim_rule unary_rule operation_rule product_rule sum_rule shift_rule relation_rule equality_rule bitwise_and_rule bitwise_xor_rule bitwise_or_rule logical_and_rule logical_or_rule branches_rule expr_rule target_name_rule targets_rule target_rule statements_rule block_rule if_rule label_arm_rule label_arms_rule default_arm_rule default_arms_rule arms_rule case_rule set_rule header_rule for_rule assignment_rule argument_rule arguments_rule task_rule statement_rule direction_rule shape_rule port_rule entry_rule entries_rule plist_rule header_ports_rule type_rule valued_rule header_param_rule header_params_rule port_item_rule net_rule net_item_rule variable_rule variable_item_rule integer_item_rule parameter_item_rule continuous_item_rule edge_rule timed_rule always_item_rule initial_item_rule overrides_rule connections_rule one_rule instance_item_rule item_rule items_rule module_rule source_rule
lean expression = refl
lean (operand level.Unary) = refl
lean (operand level.Product) = refl
lean (operand level.Sum) = refl
lean (operand level.Shift) = refl
lean (operand level.Relation) = refl
lean (operand level.Equality) = refl
lean (operand level.BitwiseAnd) = refl
lean (operand level.BitwiseXor) = refl
lean (operand level.BitwiseOr) = refl
lean (operand level.LogicalAnd) = refl
lean (operand level.LogicalOr) = refl
lean target = refl
lean (statement Combinational) = refl
lean (statement Clocked) = refl
lean (statement Initial) = refl

stepping : (p : Phrase) → steps verilog (rule_of p) ≡ true
unfolding range_rule number_rule select_end_rule select_rule selects_rule exprs_rule paren_rule brace_end_rule braced_rule cast_rule prim_rule unary_rule operation_rule product_rule sum_rule shift_rule relation_rule equality_rule bitwise_and_rule bitwise_xor_rule bitwise_or_rule logical_and_rule logical_or_rule branches_rule expr_rule target_name_rule targets_rule target_rule statements_rule block_rule if_rule label_arm_rule label_arms_rule default_arm_rule default_arms_rule arms_rule case_rule set_rule header_rule for_rule assignment_rule argument_rule arguments_rule task_rule statement_rule direction_rule shape_rule port_rule entry_rule entries_rule plist_rule header_ports_rule type_rule valued_rule header_param_rule header_params_rule port_item_rule net_rule net_item_rule variable_rule variable_item_rule integer_item_rule parameter_item_rule continuous_item_rule edge_rule timed_rule always_item_rule initial_item_rule overrides_rule connections_rule one_rule instance_item_rule item_rule items_rule module_rule source_rule
stepping expression = refl
stepping (operand level.Unary) = refl
stepping (operand level.Product) = refl
stepping (operand level.Sum) = refl
stepping (operand level.Shift) = refl
stepping (operand level.Relation) = refl
stepping (operand level.Equality) = refl
stepping (operand level.BitwiseAnd) = refl
stepping (operand level.BitwiseXor) = refl
stepping (operand level.BitwiseOr) = refl
stepping (operand level.LogicalAnd) = refl
stepping (operand level.LogicalOr) = refl
stepping target = refl
stepping (statement Combinational) = refl
stepping (statement Clocked) = refl
stepping (statement Initial) = refl

safe : (p : Phrase) (z : List Lexeme) → member (next verilog (word_of p ++ z)) greedy ≡ false
unfolding kind_of
safe expression z = refl
safe (operand level.Unary) z = refl
safe (operand level.Product) z = refl
safe (operand level.Sum) z = refl
safe (operand level.Shift) z = refl
safe (operand level.Relation) z = refl
safe (operand level.Equality) z = refl
safe (operand level.BitwiseAnd) z = refl
safe (operand level.BitwiseXor) z = refl
safe (operand level.BitwiseOr) z = refl
safe (operand level.LogicalAnd) z = refl
safe (operand level.LogicalOr) z = refl
safe target z = refl
safe (statement Combinational) z = refl
safe (statement Clocked) z = refl
safe (statement Initial) z = refl

word_read : (p : Phrase) → phrase verilog grammar 1 p (word_of p) ≡ Ok (value_of p, [])
unfolding range_rule number_rule select_end_rule select_rule selects_rule exprs_rule paren_rule brace_end_rule braced_rule cast_rule prim_rule unary_rule operation_rule product_rule sum_rule shift_rule relation_rule equality_rule bitwise_and_rule bitwise_xor_rule bitwise_or_rule logical_and_rule logical_or_rule branches_rule expr_rule target_name_rule targets_rule target_rule statements_rule block_rule if_rule label_arm_rule label_arms_rule default_arm_rule default_arms_rule arms_rule case_rule set_rule header_rule for_rule assignment_rule argument_rule arguments_rule task_rule statement_rule direction_rule shape_rule port_rule entry_rule entries_rule plist_rule header_ports_rule type_rule valued_rule header_param_rule header_params_rule port_item_rule net_rule net_item_rule variable_rule variable_item_rule integer_item_rule parameter_item_rule continuous_item_rule edge_rule timed_rule always_item_rule initial_item_rule overrides_rule connections_rule one_rule instance_item_rule item_rule items_rule module_rule source_rule kind_of phrase take_one repeat grow_by
word_read expression = refl
word_read (operand level.Unary) = refl
word_read (operand level.Product) = refl
word_read (operand level.Sum) = refl
word_read (operand level.Shift) = refl
word_read (operand level.Relation) = refl
word_read (operand level.Equality) = refl
word_read (operand level.BitwiseAnd) = refl
word_read (operand level.BitwiseXor) = refl
word_read (operand level.BitwiseOr) = refl
word_read (operand level.LogicalAnd) = refl
word_read (operand level.LogicalOr) = refl
word_read target = refl
word_read (statement Combinational) = refl
word_read (statement Clocked) = refl
word_read (statement Initial) = refl

source_told : is_told verilog begins follow source_rule (0 ∷ []) ≡ true
unfolding range_rule number_rule select_end_rule select_rule selects_rule exprs_rule paren_rule brace_end_rule braced_rule cast_rule prim_rule unary_rule operation_rule product_rule sum_rule shift_rule relation_rule equality_rule bitwise_and_rule bitwise_xor_rule bitwise_or_rule logical_and_rule logical_or_rule branches_rule expr_rule target_name_rule targets_rule target_rule statements_rule block_rule if_rule label_arm_rule label_arms_rule default_arm_rule default_arms_rule arms_rule case_rule set_rule header_rule for_rule assignment_rule argument_rule arguments_rule task_rule statement_rule direction_rule shape_rule port_rule entry_rule entries_rule plist_rule header_ports_rule type_rule valued_rule header_param_rule header_params_rule port_item_rule net_rule net_item_rule variable_rule variable_item_rule integer_item_rule parameter_item_rule continuous_item_rule edge_rule timed_rule always_item_rule initial_item_rule overrides_rule connections_rule one_rule instance_item_rule item_rule items_rule module_rule source_rule
source_told = refl

source_fit : is_fit verilog greedy begins token source_rule ≡ true
unfolding range_rule number_rule select_end_rule select_rule selects_rule exprs_rule paren_rule brace_end_rule braced_rule cast_rule prim_rule unary_rule operation_rule product_rule sum_rule shift_rule relation_rule equality_rule bitwise_and_rule bitwise_xor_rule bitwise_or_rule logical_and_rule logical_or_rule branches_rule expr_rule target_name_rule targets_rule target_rule statements_rule block_rule if_rule label_arm_rule label_arms_rule default_arm_rule default_arms_rule arms_rule case_rule set_rule header_rule for_rule assignment_rule argument_rule arguments_rule task_rule statement_rule direction_rule shape_rule port_rule entry_rule entries_rule plist_rule header_ports_rule type_rule valued_rule header_param_rule header_params_rule port_item_rule net_rule net_item_rule variable_rule variable_item_rule integer_item_rule parameter_item_rule continuous_item_rule edge_rule timed_rule always_item_rule initial_item_rule overrides_rule connections_rule one_rule instance_item_rule item_rule items_rule module_rule source_rule kind_of
source_fit = refl

source_steps : steps verilog source_rule ≡ true
unfolding range_rule number_rule select_end_rule select_rule selects_rule exprs_rule paren_rule brace_end_rule braced_rule cast_rule prim_rule unary_rule operation_rule product_rule sum_rule shift_rule relation_rule equality_rule bitwise_and_rule bitwise_xor_rule bitwise_or_rule logical_and_rule logical_or_rule branches_rule expr_rule target_name_rule targets_rule target_rule statements_rule block_rule if_rule label_arm_rule label_arms_rule default_arm_rule default_arms_rule arms_rule case_rule set_rule header_rule for_rule assignment_rule argument_rule arguments_rule task_rule statement_rule direction_rule shape_rule port_rule entry_rule entries_rule plist_rule header_ports_rule type_rule valued_rule header_param_rule header_params_rule port_item_rule net_rule net_item_rule variable_rule variable_item_rule integer_item_rule parameter_item_rule continuous_item_rule edge_rule timed_rule always_item_rule initial_item_rule overrides_rule connections_rule one_rule instance_item_rule item_rule items_rule module_rule source_rule
source_steps = refl

pub passes : Passes verilog grammar tables
passes = record {
  not_nullable = not_nullable;
  begins_first = begins_first;
  no_end = no_end;
  told = told;
  fit = fit;
  opened = opened;
  lean = lean;
  stepping = stepping;
  safe = safe;
  word_read = word_read;
  end_not_greedy = refl;
  source_told = source_told;
  source_fit = source_fit;
  source_steps = source_steps;
}

pub verilog_exact : IsExact verilog grammar
verilog_exact = exact verilog grammar tables passes measures

too_deep_chain : said 2 (codes "module m ; assign y = a + b + c ; endmodule") ≡ wrong (too_deep (at 7)) 4
unfolding range_rule number_rule select_end_rule select_rule selects_rule exprs_rule paren_rule brace_end_rule braced_rule cast_rule prim_rule unary_rule operation_rule product_rule sum_rule shift_rule relation_rule equality_rule bitwise_and_rule bitwise_xor_rule bitwise_or_rule logical_and_rule logical_or_rule branches_rule expr_rule target_name_rule targets_rule target_rule statements_rule block_rule if_rule label_arm_rule label_arms_rule default_arm_rule default_arms_rule arms_rule case_rule set_rule header_rule for_rule assignment_rule argument_rule arguments_rule task_rule statement_rule direction_rule shape_rule port_rule entry_rule entries_rule plist_rule header_ports_rule type_rule valued_rule header_param_rule header_params_rule port_item_rule net_rule net_item_rule variable_rule variable_item_rule integer_item_rule parameter_item_rule continuous_item_rule edge_rule timed_rule always_item_rule initial_item_rule overrides_rule connections_rule one_rule instance_item_rule item_rule items_rule module_rule source_rule kind_of phrase whole take_one repeat grow_by is_reserved
too_deep_chain = refl

chain_stands : Stands verilog grammar 2 (tokens_of (codes "module m ; assign y = a + b + c ; endmodule")) (too_deep (at 7)) 4
chain_stands = verilog_exact.faults 2 (tokens_of (codes "module m ; assign y = a + b + c ; endmodule")) (record { kind = too_deep (at 7); left = 4 }) too_deep_chain

pub reads_texts : ReadsTexts
unfolding range_rule number_rule select_end_rule select_rule selects_rule exprs_rule paren_rule brace_end_rule braced_rule cast_rule prim_rule unary_rule operation_rule product_rule sum_rule shift_rule relation_rule equality_rule bitwise_and_rule bitwise_xor_rule bitwise_or_rule logical_and_rule logical_or_rule branches_rule expr_rule target_name_rule targets_rule target_rule statements_rule block_rule if_rule label_arm_rule label_arms_rule default_arm_rule default_arms_rule arms_rule case_rule set_rule header_rule for_rule assignment_rule argument_rule arguments_rule task_rule statement_rule direction_rule shape_rule port_rule entry_rule entries_rule plist_rule header_ports_rule type_rule valued_rule header_param_rule header_params_rule port_item_rule net_rule net_item_rule variable_rule variable_item_rule integer_item_rule parameter_item_rule continuous_item_rule edge_rule timed_rule always_item_rule initial_item_rule overrides_rule connections_rule one_rule instance_item_rule item_rule items_rule module_rule source_rule kind_of phrase whole take_one repeat grow_by is_reserved
reads_texts = record {
  nothing = refl;
  left = refl;
  tighter = refl;
  right = refl;
  selects = refl;
  nearest = refl;
  no_connection = refl;
  two_connections = refl;
  no_semicolon = refl;
  delay = refl;
  third_select = refl;
  part_of_a_part = refl;
  late_under_star = refl;
  name_after_place = refl;
  two_defaults = refl;
  no_end = refl;
  too_deep_left = refl;
  too_deep_chain = too_deep_chain;
  first_too_deep = chain_stands.1;
  deep_in_each = chain_stands.2;
  too_deep_name = refl;
}
