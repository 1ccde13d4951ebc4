-- The tokens spell the modules.
use Rattle.std.proofs.Common.{◌≡◌, Ok, refl}
use Rattle.grammar_rules.specs.Grammar.{phrase, whole}
use Rattle.grammar_rules.specs.Rule.{grow_by, repeat, take_one}
use Rattle.verilog_grammar.specs.Kind.{kind_of}
use Rattle.verilog_grammar.specs.Language.{verilog}
use Rattle.verilog_grammar.specs.Verilog.{grammar}
use Rattle.verilog_grammar.specs.Parts.{range_rule}
use Rattle.verilog_grammar.specs.Expressions.{number_rule, select_end_rule, select_rule, selects_rule, exprs_rule, paren_rule, brace_end_rule, braced_rule, cast_rule, prim_rule, unary_rule, operation_rule, product_rule, sum_rule, shift_rule, relation_rule, equality_rule, bitwise_and_rule, bitwise_xor_rule, bitwise_or_rule, logical_and_rule, logical_or_rule, branches_rule, expr_rule, target_name_rule, targets_rule, target_rule}
use Rattle.verilog_grammar.specs.Statements.{statements_rule, block_rule, if_rule, label_arm_rule, label_arms_rule, default_arm_rule, default_arms_rule, arms_rule, case_rule, set_rule, header_rule, for_rule, assignment_rule, argument_rule, arguments_rule, task_rule, statement_rule}
use Rattle.verilog_grammar.specs.Modules.{direction_rule, shape_rule, port_rule, entry_rule, entries_rule, plist_rule, header_ports_rule, type_rule, valued_rule, header_param_rule, header_params_rule, port_item_rule, net_rule, net_item_rule, variable_rule, variable_item_rule, integer_item_rule, parameter_item_rule, continuous_item_rule, edge_rule, timed_rule, always_item_rule, initial_item_rule, overrides_rule, connections_rule, one_rule, instance_item_rule, item_rule, items_rule, module_rule, source_rule}
use Rattle.selfrun_design.proofs.Modules.{modules}
use Rattle.selfrun_design.proofs.Tokens.{tokens}

pub spelled : whole verilog grammar 256 tokens ≡ Ok modules
unfolding range_rule number_rule select_end_rule select_rule selects_rule exprs_rule paren_rule brace_end_rule braced_rule cast_rule prim_rule unary_rule operation_rule product_rule sum_rule shift_rule relation_rule equality_rule bitwise_and_rule bitwise_xor_rule bitwise_or_rule logical_and_rule logical_or_rule branches_rule expr_rule target_name_rule targets_rule target_rule statements_rule block_rule if_rule label_arm_rule label_arms_rule default_arm_rule default_arms_rule arms_rule case_rule set_rule header_rule for_rule assignment_rule argument_rule arguments_rule task_rule statement_rule direction_rule shape_rule port_rule entry_rule entries_rule plist_rule header_ports_rule type_rule valued_rule header_param_rule header_params_rule port_item_rule net_rule net_item_rule variable_rule variable_item_rule integer_item_rule parameter_item_rule continuous_item_rule edge_rule timed_rule always_item_rule initial_item_rule overrides_rule connections_rule one_rule instance_item_rule item_rule items_rule module_rule source_rule kind_of phrase whole take_one repeat grow_by
spelled = refl
