-- The first fault of each of these texts.
use Rattle.std.proofs.Common.{◌≡◌, refl}
use Rattle.std.specs.Prelude.{true, false, List, [], ◌∷◌, Option, Some, None, codes}
use Rattle.four_state.specs.declared.bit.Bit.TheVariants.{X}
use Rattle.four_state.specs.declared.edge.Edge.TheVariants.{Pos}
use Rattle.four_state.specs.declared.operator.Binary.TheVariants as binary
use Rattle.four_state.specs.declared.operator.Unary.TheVariants as unary
use Rattle.verilog_tree.specs.declared.item.When.TheVariants.{Star, Names, Edges}
use Rattle.verilog_tree.specs.Tree.{literal, identifier, bit_select, part_select, unary_operator, binary_operator, concatenation, replication, no_exprs, an_expr, sequential_block, for_loop, assignment, no_statements, a_statement, port_item, net_item, variable_item, integer_item, parameter_item, continuous_item, always_item, instance_item, Module}
use Rattle.elab_const.specs.declared.fault.ConstKind.TheVariants.{NotConstant, TooWide, LoopNotConstant, BadRange}
use Rattle.flat_design.specs.Fault.{Fault, first_fault, of_constant, of_modules}
use Rattle.flat_design.specs.declared.fault.ElabKind.TheVariants.{NoModule, TwoModules, Recursion, Undeclared, TwiceDeclared, PortMismatch, TwoDrivers, MixedAssign, Incomplete, EventNotBit, SelfAssign, Limit, WrongTarget, WrongUse}
use Rattle.flat_design.specs.Faults.{faults_of}
use Rattle.flat_design.specs.Identifiers.{named}
use Rattle.flat_laws.proofs.TextParts.{declared_as, given_as, header_as, instance_as, item_as, module_as, one_as, param_as, port_as, range_as, vector_as}
use Rattle.flat_laws.proofs.ExampleParts.{at, known, vector}

-- the first fault of modules with the top m
abbrev first : List Module → Option Fault
first ms = first_fault (faults_of ms (codes "m"))

--   module m(input a); assign y = a; endmodule
abbrev pub text_undeclared : List Module
text_undeclared = module_as (named (codes "m") (at 1 8)) [] ((named (codes "a") (at 1 16)) ∷
    []) (item_as (at 1 10) (port_item (port_as true false false None ((named (codes "a") (at 1 16)) ∷ []))) ∷
    item_as (at 1 20) (continuous_item (identifier (at 1 27) (codes "y")) (identifier (at 1 31) (codes "a"))) ∷ []) ∷ []

undeclared : first text_undeclared ≡ Some (of_modules Undeclared (Some (at 1 27)) (codes "y"))
undeclared = refl

--   module m(input a, output y); assign y = a; assign y = ~a; endmodule
abbrev pub text_two_drivers : List Module
text_two_drivers = module_as (named (codes "m") (at 1 8)) [] ((named (codes "a") (at 1 16)) ∷ (named (codes "y") (at 1 26)) ∷
    []) (item_as (at 1 10) (port_item (port_as true false false None ((named (codes "a") (at 1 16)) ∷ []))) ∷
    item_as (at 1 19) (port_item (port_as false false false None ((named (codes "y") (at 1 26)) ∷ []))) ∷
    item_as (at 1 30) (continuous_item (identifier (at 1 37) (codes "y")) (identifier (at 1 41) (codes "a"))) ∷
    item_as (at 1 44) (continuous_item (identifier (at 1 51) (codes "y")) (unary_operator (at 1 55) unary.BitwiseNot (identifier (at 1 56) (codes "a")))) ∷ []) ∷ []

two_drivers : first text_two_drivers ≡ Some (of_modules TwoDrivers (Some (at 1 51)) (codes "y"))
two_drivers = refl

--   module n(input a); endmodule
abbrev pub text_no_top : List Module
text_no_top = module_as (named (codes "n") (at 1 8)) [] ((named (codes "a") (at 1 16)) ∷
    []) (item_as (at 1 10) (port_item (port_as true false false None ((named (codes "a") (at 1 16)) ∷ []))) ∷ []) ∷ []

no_top : first text_no_top ≡ Some (of_modules NoModule None (codes "m"))
no_top = refl

--   module m(input [128:0] a); endmodule
abbrev pub text_too_wide : List Module
text_too_wide = module_as (named (codes "m") (at 1 8)) [] ((named (codes "a") (at 1 24)) ∷
    []) (item_as (at 1 10) (port_item (port_as true false false (Some (range_as (literal (at 1 17) (known 32 128 true)) (literal (at 1 21) (known 32 0 true)) (at 1 16)))
    ((named (codes "a") (at 1 24)) ∷ []))) ∷ []) ∷ []

too_wide : first text_too_wide ≡ Some (of_constant TooWide (at 1 16))
too_wide = refl

--   module m(input a); endmodule module m(input b); endmodule
abbrev pub text_two_modules : List Module
text_two_modules = module_as (named (codes "m") (at 1 8)) [] ((named (codes "a") (at 1 16)) ∷
    []) (item_as (at 1 10) (port_item (port_as true false false None ((named (codes "a") (at 1 16)) ∷ []))) ∷ []) ∷
    module_as (named (codes "m") (at 1 37)) [] ((named (codes "b") (at 1 45)) ∷
    []) (item_as (at 1 39) (port_item (port_as true false false None ((named (codes "b") (at 1 45)) ∷ []))) ∷ []) ∷ []

two_modules : first text_two_modules ≡ Some (of_modules TwoModules (Some (at 1 37)) (codes "m"))
two_modules = refl

--   module m(input a); n u(a); endmodule module n(input a); m v(a); endmodule
abbrev pub text_recursion : List Module
text_recursion = module_as (named (codes "m") (at 1 8)) [] ((named (codes "a") (at 1 16)) ∷
    []) (item_as (at 1 10) (port_item (port_as true false false None ((named (codes "a") (at 1 16)) ∷ []))) ∷
    item_as (at 1 20) (instance_item (instance_as (named (codes "n") (at 1 20)) [] (one_as (named (codes "u") (at 1 22)) (given_as None (Some (identifier (at 1 24)
    (codes "a"))) ∷ []) ∷ []))) ∷ []) ∷ module_as (named (codes "n") (at 1 45)) [] ((named (codes "a") (at 1 53)) ∷
    []) (item_as (at 1 47) (port_item (port_as true false false None ((named (codes "a") (at 1 53)) ∷ []))) ∷
    item_as (at 1 57) (instance_item (instance_as (named (codes "m") (at 1 57)) [] (one_as (named (codes "v") (at 1 59)) (given_as None (Some (identifier (at 1 61)
    (codes "a"))) ∷ []) ∷ []))) ∷ []) ∷ []

recursion : first text_recursion ≡ Some (of_modules Recursion (Some (at 1 57)) (codes "m"))
recursion = refl

--   module m(input a); wire a; wire a; endmodule
abbrev pub text_declared_twice : List Module
text_declared_twice = module_as (named (codes "m") (at 1 8)) [] ((named (codes "a") (at 1 16)) ∷
    []) (item_as (at 1 10) (port_item (port_as true false false None ((named (codes "a") (at 1 16)) ∷ []))) ∷
    item_as (at 1 20) (net_item (vector_as false None (declared_as (named (codes "a") (at 1 25)) None None ∷ []))) ∷
    item_as (at 1 28) (net_item (vector_as false None (declared_as (named (codes "a") (at 1 33)) None None ∷ []))) ∷ []) ∷ []

declared_twice : first text_declared_twice ≡ Some (of_modules TwiceDeclared (Some (at 1 33)) (codes "a"))
declared_twice = refl

--   module m(a, b); input a; endmodule
abbrev pub text_listed_without_direction : List Module
text_listed_without_direction = module_as (named (codes "m") (at 1 8)) [] ((named (codes "a") (at 1 10)) ∷ (named (codes "b") (at 1 13)) ∷
    []) (item_as (at 1 17) (port_item (port_as true false false None ((named (codes "a") (at 1 23)) ∷ []))) ∷ []) ∷ []

listed_without_direction : first text_listed_without_direction ≡ Some (of_modules PortMismatch (Some (at 1 13)) (codes "b"))
listed_without_direction = refl

--   module m(input a); n u(.q(a)); endmodule module n(input b); endmodule
abbrev pub text_no_such_port : List Module
text_no_such_port = module_as (named (codes "m") (at 1 8)) [] ((named (codes "a") (at 1 16)) ∷
    []) (item_as (at 1 10) (port_item (port_as true false false None ((named (codes "a") (at 1 16)) ∷ []))) ∷
    item_as (at 1 20) (instance_item (instance_as (named (codes "n") (at 1 20)) [] (one_as (named (codes "u") (at 1 22)) (given_as (Some (named (codes "q") (at 1 25)))
    (Some (identifier (at 1 27) (codes "a"))) ∷ []) ∷ []))) ∷ []) ∷ module_as (named (codes "n") (at 1 49)) [] ((named (codes "b") (at 1 57)) ∷
    []) (item_as (at 1 51) (port_item (port_as true false false None ((named (codes "b") (at 1 57)) ∷ []))) ∷ []) ∷ []

no_such_port : first text_no_such_port ≡ Some (of_modules PortMismatch (Some (at 1 25)) (codes "q"))
no_such_port = refl

--   module m(input a); n u(.b(a), .b(a)); endmodule module n(input b); endmodule
abbrev pub text_port_given_twice : List Module
text_port_given_twice = module_as (named (codes "m") (at 1 8)) [] ((named (codes "a") (at 1 16)) ∷
    []) (item_as (at 1 10) (port_item (port_as true false false None ((named (codes "a") (at 1 16)) ∷ []))) ∷
    item_as (at 1 20) (instance_item (instance_as (named (codes "n") (at 1 20)) [] (one_as (named (codes "u") (at 1 22)) (given_as (Some (named (codes "b") (at 1 25)))
    (Some (identifier (at 1 27) (codes "a"))) ∷ given_as (Some (named (codes "b") (at 1 32))) (Some (identifier (at 1 34) (codes "a"))) ∷ []) ∷ []))) ∷ []) ∷
    module_as (named (codes "n") (at 1 56)) [] ((named (codes "b") (at 1 64)) ∷
    []) (item_as (at 1 58) (port_item (port_as true false false None ((named (codes "b") (at 1 64)) ∷ []))) ∷ []) ∷ []

port_given_twice : first text_port_given_twice ≡ Some (of_modules PortMismatch (Some (at 1 32)) (codes "b"))
port_given_twice = refl

--   module m(input a); n u(a, a); endmodule module n(input b); endmodule
abbrev pub text_too_many_ports : List Module
text_too_many_ports = module_as (named (codes "m") (at 1 8)) [] ((named (codes "a") (at 1 16)) ∷
    []) (item_as (at 1 10) (port_item (port_as true false false None ((named (codes "a") (at 1 16)) ∷ []))) ∷
    item_as (at 1 20) (instance_item (instance_as (named (codes "n") (at 1 20)) [] (one_as (named (codes "u") (at 1 22)) (given_as None (Some (identifier (at 1 24)
    (codes "a"))) ∷ given_as None (Some (identifier (at 1 27) (codes "a"))) ∷ []) ∷ []))) ∷ []) ∷
    module_as (named (codes "n") (at 1 48)) [] ((named (codes "b") (at 1 56)) ∷
    []) (item_as (at 1 50) (port_item (port_as true false false None ((named (codes "b") (at 1 56)) ∷ []))) ∷ []) ∷ []

too_many_ports : first text_too_many_ports ≡ Some (of_modules PortMismatch (Some (at 1 20)) (codes "n"))
too_many_ports = refl

--   module m(input a); n #(.L(1)) u(a); endmodule module n(input b); localparam L = 1; endmodule
abbrev pub text_local_parameter_overridden : List Module
text_local_parameter_overridden = module_as (named (codes "m") (at 1 8)) [] ((named (codes "a") (at 1 16)) ∷
    []) (item_as (at 1 10) (port_item (port_as true false false None ((named (codes "a") (at 1 16)) ∷ []))) ∷
    item_as (at 1 20) (instance_item (instance_as (named (codes "n") (at 1 20)) (given_as (Some (named (codes "L") (at 1 25))) (Some (literal (at 1 27) (known 32 1
    true))) ∷ []) (one_as (named (codes "u") (at 1 31)) (given_as None (Some (identifier (at 1 33) (codes "a"))) ∷ []) ∷ []))) ∷ []) ∷
    module_as (named (codes "n") (at 1 54)) [] ((named (codes "b") (at 1 62)) ∷
    []) (item_as (at 1 56) (port_item (port_as true false false None ((named (codes "b") (at 1 62)) ∷ []))) ∷
    item_as (at 1 66) (parameter_item (param_as (named (codes "L") (at 1 77)) true false false None (literal (at 1 81) (known 32 1 true)) ∷ [])) ∷ []) ∷ []

local_parameter_overridden : first text_local_parameter_overridden ≡ Some (of_modules PortMismatch (Some (at 1 25)) (codes "L"))
local_parameter_overridden = refl

--   module m(input a); n u(a); endmodule module n(output b); endmodule
abbrev pub text_output_to_an_input : List Module
text_output_to_an_input = module_as (named (codes "m") (at 1 8)) [] ((named (codes "a") (at 1 16)) ∷
    []) (item_as (at 1 10) (port_item (port_as true false false None ((named (codes "a") (at 1 16)) ∷ []))) ∷
    item_as (at 1 20) (instance_item (instance_as (named (codes "n") (at 1 20)) [] (one_as (named (codes "u") (at 1 22)) (given_as None (Some (identifier (at 1 24)
    (codes "a"))) ∷ []) ∷ []))) ∷ []) ∷ module_as (named (codes "n") (at 1 45)) [] ((named (codes "b") (at 1 54)) ∷
    []) (item_as (at 1 47) (port_item (port_as false false false None ((named (codes "b") (at 1 54)) ∷ []))) ∷ []) ∷ []

output_to_an_input : first text_output_to_an_input ≡ Some (of_modules PortMismatch (Some (at 1 20)) (codes "n"))
output_to_an_input = refl

--   module m(input a); reg r; n u(.b(r)); endmodule module n(output b); endmodule
abbrev pub text_output_to_a_variable : List Module
text_output_to_a_variable = module_as (named (codes "m") (at 1 8)) [] ((named (codes "a") (at 1 16)) ∷
    []) (item_as (at 1 10) (port_item (port_as true false false None ((named (codes "a") (at 1 16)) ∷ []))) ∷
    item_as (at 1 20) (variable_item (vector_as false None (declared_as (named (codes "r") (at 1 24)) None None ∷ []))) ∷
    item_as (at 1 27) (instance_item (instance_as (named (codes "n") (at 1 27)) [] (one_as (named (codes "u") (at 1 29)) (given_as (Some (named (codes "b") (at 1 32)))
    (Some (identifier (at 1 34) (codes "r"))) ∷ []) ∷ []))) ∷ []) ∷ module_as (named (codes "n") (at 1 56)) [] ((named (codes "b") (at 1 65)) ∷
    []) (item_as (at 1 58) (port_item (port_as false false false None ((named (codes "b") (at 1 65)) ∷ []))) ∷ []) ∷ []

output_to_a_variable : first text_output_to_a_variable ≡ Some (of_modules PortMismatch (Some (at 1 32)) (codes "b"))
output_to_a_variable = refl

--   module m(input a, output reg y); always @* y = a; always @* y = ~a; endmodule
abbrev pub text_two_blocks : List Module
text_two_blocks = module_as (named (codes "m") (at 1 8)) [] ((named (codes "a") (at 1 16)) ∷ (named (codes "y") (at 1 30)) ∷
    []) (item_as (at 1 10) (port_item (port_as true false false None ((named (codes "a") (at 1 16)) ∷ []))) ∷
    item_as (at 1 19) (port_item (port_as false true false None ((named (codes "y") (at 1 30)) ∷ []))) ∷
    item_as (at 1 34) (always_item Star (assignment (at 1 44) (identifier (at 1 44) (codes "y")) true (identifier (at 1 48) (codes "a")))) ∷
    item_as (at 1 51) (always_item Star (assignment (at 1 61) (identifier (at 1 61) (codes "y")) true (unary_operator (at 1 65) unary.BitwiseNot (identifier (at 1 66)
    (codes "a"))))) ∷ []) ∷ []

two_blocks : first text_two_blocks ≡ Some (of_modules TwoDrivers (Some (at 1 61)) (codes "y"))
two_blocks = refl

--   module m(input [1:0] a, output [1:0] y); assign y[0] = a; assign y = 2'b00; endmodule
abbrev pub text_bit_driven_twice : List Module
text_bit_driven_twice = module_as (named (codes "m") (at 1 8)) [] ((named (codes "a") (at 1 22)) ∷ (named (codes "y") (at 1 38)) ∷
    []) (item_as (at 1 10) (port_item (port_as true false false (Some (range_as (literal (at 1 17) (known 32 1 true)) (literal (at 1 19) (known 32 0 true)) (at 1 16)))
    ((named (codes "a") (at 1 22)) ∷ []))) ∷ item_as (at 1 25) (port_item (port_as false false false (Some (range_as (literal (at 1 33) (known 32 1 true)) (literal (at 1
    35) (known 32 0 true)) (at 1 32))) ((named (codes "y") (at 1 38)) ∷ []))) ∷
    item_as (at 1 42) (continuous_item (bit_select (at 1 49) (identifier (at 1 49) (codes "y")) (literal (at 1 51) (known 32 0 true))) (identifier (at 1 56) (codes
    "a"))) ∷ item_as (at 1 59) (continuous_item (identifier (at 1 66) (codes "y")) (literal (at 1 70) (known 2 0 false))) ∷ []) ∷ []

bit_driven_twice : first text_bit_driven_twice ≡ Some (of_modules TwoDrivers (Some (at 1 66)) (codes "y"))
bit_driven_twice = refl

--   module m(input [1:0] a, output [1:0] y); assign {y[0], y} = a; endmodule
abbrev pub text_bit_named_twice : List Module
text_bit_named_twice = module_as (named (codes "m") (at 1 8)) [] ((named (codes "a") (at 1 22)) ∷ (named (codes "y") (at 1 38)) ∷
    []) (item_as (at 1 10) (port_item (port_as true false false (Some (range_as (literal (at 1 17) (known 32 1 true)) (literal (at 1 19) (known 32 0 true)) (at 1 16)))
    ((named (codes "a") (at 1 22)) ∷ []))) ∷ item_as (at 1 25) (port_item (port_as false false false (Some (range_as (literal (at 1 33) (known 32 1 true)) (literal (at 1
    35) (known 32 0 true)) (at 1 32))) ((named (codes "y") (at 1 38)) ∷ []))) ∷
    item_as (at 1 42) (continuous_item (concatenation (at 1 49) (an_expr (bit_select (at 1 50) (identifier (at 1 50) (codes "y")) (literal (at 1 52) (known 32 0 true)))
    (an_expr (identifier (at 1 56) (codes "y")) no_exprs))) (identifier (at 1 61) (codes "a"))) ∷ []) ∷ []

bit_named_twice : first text_bit_named_twice ≡ Some (of_modules TwoDrivers (Some (at 1 56)) (codes "y"))
bit_named_twice = refl

--   module m(input a, output y); wire v; s u(v), w(v); endmodule module s(output q); assign q = 1; endmodule
abbrev pub text_driven_through_aliases : List Module
text_driven_through_aliases = module_as (named (codes "m") (at 1 8)) [] ((named (codes "a") (at 1 16)) ∷ (named (codes "y") (at 1 26)) ∷
    []) (item_as (at 1 10) (port_item (port_as true false false None ((named (codes "a") (at 1 16)) ∷ []))) ∷
    item_as (at 1 19) (port_item (port_as false false false None ((named (codes "y") (at 1 26)) ∷ []))) ∷
    item_as (at 1 30) (net_item (vector_as false None (declared_as (named (codes "v") (at 1 35)) None None ∷ []))) ∷
    item_as (at 1 38) (instance_item (instance_as (named (codes "s") (at 1 38)) [] (one_as (named (codes "u") (at 1 40)) (given_as None (Some (identifier (at 1 42)
    (codes "v"))) ∷ []) ∷ one_as (named (codes "w") (at 1 46)) (given_as None (Some (identifier (at 1 48) (codes "v"))) ∷ []) ∷ []))) ∷ []) ∷
    module_as (named (codes "s") (at 1 69)) [] ((named (codes "q") (at 1 78)) ∷
    []) (item_as (at 1 71) (port_item (port_as false false false None ((named (codes "q") (at 1 78)) ∷ []))) ∷
    item_as (at 1 82) (continuous_item (identifier (at 1 89) (codes "q")) (literal (at 1 93) (known 32 1 true))) ∷ []) ∷ []

driven_through_aliases : first text_driven_through_aliases ≡ Some (of_modules TwoDrivers (Some (at 1 89)) (codes "q"))
driven_through_aliases = refl

--   module m(input c, output reg y); always @(posedge c) begin y = 1; y <= 0; end endmodule
abbrev pub text_mixed : List Module
text_mixed = module_as (named (codes "m") (at 1 8)) [] ((named (codes "c") (at 1 16)) ∷ (named (codes "y") (at 1 30)) ∷
    []) (item_as (at 1 10) (port_item (port_as true false false None ((named (codes "c") (at 1 16)) ∷ []))) ∷
    item_as (at 1 19) (port_item (port_as false true false None ((named (codes "y") (at 1 30)) ∷ []))) ∷
    item_as (at 1 34) (always_item (Edges ((Pos, (named (codes "c") (at 1 51))) ∷
    [])) (sequential_block (at 1 54) (a_statement (assignment (at 1 60) (identifier (at 1 60) (codes "y")) true (literal (at 1 64) (known 32 1 true))) (a_statement
    (assignment (at 1 67) (identifier (at 1 67) (codes "y")) false (literal (at 1 72) (known 32 0 true))) no_statements)))) ∷ []) ∷ []

mixed : first text_mixed ≡ Some (of_modules MixedAssign (Some (at 1 67)) (codes "y"))
mixed = refl

--   module m(input a, input b, output reg y); always @(a) y = a & b; endmodule
abbrev pub text_incomplete_list : List Module
text_incomplete_list = module_as (named (codes "m") (at 1 8)) [] ((named (codes "a") (at 1 16)) ∷ (named (codes "b") (at 1 25)) ∷ (named (codes "y") (at 1 39)) ∷
    []) (item_as (at 1 10) (port_item (port_as true false false None ((named (codes "a") (at 1 16)) ∷ []))) ∷
    item_as (at 1 19) (port_item (port_as true false false None ((named (codes "b") (at 1 25)) ∷ []))) ∷
    item_as (at 1 28) (port_item (port_as false true false None ((named (codes "y") (at 1 39)) ∷ []))) ∷
    item_as (at 1 43) (always_item (Names ((named (codes "a") (at 1 52)) ∷
    [])) (assignment (at 1 55) (identifier (at 1 55) (codes "y")) true (binary_operator (at 1 59) binary.BitwiseAnd (identifier (at 1 59) (codes "a")) (identifier (at 1
    63) (codes "b"))))) ∷ []) ∷ []

incomplete_list : first text_incomplete_list ≡ Some (of_modules Incomplete (Some (at 1 63)) (codes "b"))
incomplete_list = refl

--   module m(input a, output reg y); reg t [0:1]; always @(a) y = t[a]; endmodule
abbrev pub text_memory_under_a_list : List Module
text_memory_under_a_list = module_as (named (codes "m") (at 1 8)) [] ((named (codes "a") (at 1 16)) ∷ (named (codes "y") (at 1 30)) ∷
    []) (item_as (at 1 10) (port_item (port_as true false false None ((named (codes "a") (at 1 16)) ∷ []))) ∷
    item_as (at 1 19) (port_item (port_as false true false None ((named (codes "y") (at 1 30)) ∷ []))) ∷
    item_as (at 1 34) (variable_item (vector_as false None (declared_as (named (codes "t") (at 1 38)) None (Some (range_as (literal (at 1 41) (known 32 0 true)) (literal
    (at 1 43) (known 32 1 true)) (at 1 40))) ∷ []))) ∷ item_as (at 1 47) (always_item (Names ((named (codes "a") (at 1 56)) ∷
    [])) (assignment (at 1 59) (identifier (at 1 59) (codes "y")) true (bit_select (at 1 63) (identifier (at 1 63) (codes "t")) (identifier (at 1 65) (codes "a"))))) ∷
    []) ∷ []

memory_under_a_list : first text_memory_under_a_list ≡ Some (of_modules Incomplete (Some (at 1 63)) (codes "t"))
memory_under_a_list = refl

--   module m(input [1:0] c, output reg y); always @(posedge c) y <= 1; endmodule
abbrev pub text_event_of_two_bits : List Module
text_event_of_two_bits = module_as (named (codes "m") (at 1 8)) [] ((named (codes "c") (at 1 22)) ∷ (named (codes "y") (at 1 36)) ∷
    []) (item_as (at 1 10) (port_item (port_as true false false (Some (range_as (literal (at 1 17) (known 32 1 true)) (literal (at 1 19) (known 32 0 true)) (at 1 16)))
    ((named (codes "c") (at 1 22)) ∷ []))) ∷ item_as (at 1 25) (port_item (port_as false true false None ((named (codes "y") (at 1 36)) ∷ []))) ∷
    item_as (at 1 40) (always_item (Edges ((Pos, (named (codes "c") (at 1 57))) ∷
    [])) (assignment (at 1 60) (identifier (at 1 60) (codes "y")) false (literal (at 1 65) (known 32 1 true)))) ∷ []) ∷ []

event_of_two_bits : first text_event_of_two_bits ≡ Some (of_modules EventNotBit (Some (at 1 57)) (codes "c"))
event_of_two_bits = refl

--   module m(input c, output reg y); parameter P = 1; always @(posedge P) y <= 1; endmodule
abbrev pub text_event_of_a_parameter : List Module
text_event_of_a_parameter = module_as (named (codes "m") (at 1 8)) [] ((named (codes "c") (at 1 16)) ∷ (named (codes "y") (at 1 30)) ∷
    []) (item_as (at 1 10) (port_item (port_as true false false None ((named (codes "c") (at 1 16)) ∷ []))) ∷
    item_as (at 1 19) (port_item (port_as false true false None ((named (codes "y") (at 1 30)) ∷ []))) ∷
    item_as (at 1 34) (parameter_item (param_as (named (codes "P") (at 1 44)) false false false None (literal (at 1 48) (known 32 1 true)) ∷ [])) ∷
    item_as (at 1 51) (always_item (Edges ((Pos, (named (codes "P") (at 1 68))) ∷
    [])) (assignment (at 1 71) (identifier (at 1 71) (codes "y")) false (literal (at 1 76) (known 32 1 true)))) ∷ []) ∷ []

event_of_a_parameter : first text_event_of_a_parameter ≡ Some (of_modules WrongUse (Some (at 1 68)) (codes "P"))
event_of_a_parameter = refl

--   module m(input a, output y); assign y = y; endmodule
abbrev pub text_own_bit : List Module
text_own_bit = module_as (named (codes "m") (at 1 8)) [] ((named (codes "a") (at 1 16)) ∷ (named (codes "y") (at 1 26)) ∷
    []) (item_as (at 1 10) (port_item (port_as true false false None ((named (codes "a") (at 1 16)) ∷ []))) ∷
    item_as (at 1 19) (port_item (port_as false false false None ((named (codes "y") (at 1 26)) ∷ []))) ∷
    item_as (at 1 30) (continuous_item (identifier (at 1 37) (codes "y")) (identifier (at 1 41) (codes "y"))) ∷ []) ∷ []

own_bit : first text_own_bit ≡ Some (of_modules SelfAssign (Some (at 1 41)) (codes "y"))
own_bit = refl

--   module m(input a, output [1:0] y); assign y[0] = y[1]; assign y[1] = y[a]; endmodule
abbrev pub text_own_bit_by_an_index : List Module
text_own_bit_by_an_index = module_as (named (codes "m") (at 1 8)) [] ((named (codes "a") (at 1 16)) ∷ (named (codes "y") (at 1 32)) ∷
    []) (item_as (at 1 10) (port_item (port_as true false false None ((named (codes "a") (at 1 16)) ∷ []))) ∷
    item_as (at 1 19) (port_item (port_as false false false (Some (range_as (literal (at 1 27) (known 32 1 true)) (literal (at 1 29) (known 32 0 true)) (at 1 26)))
    ((named (codes "y") (at 1 32)) ∷ []))) ∷ item_as (at 1 36) (continuous_item (bit_select (at 1 43) (identifier (at 1 43) (codes "y")) (literal (at 1 45) (known 32 0
    true))) (bit_select (at 1 50) (identifier (at 1 50) (codes "y")) (literal (at 1 52) (known 32 1 true)))) ∷
    item_as (at 1 56) (continuous_item (bit_select (at 1 63) (identifier (at 1 63) (codes "y")) (literal (at 1 65) (known 32 1 true))) (bit_select (at 1 70) (identifier
    (at 1 70) (codes "y")) (identifier (at 1 72) (codes "a")))) ∷ []) ∷ []

own_bit_by_an_index : first text_own_bit_by_an_index ≡ Some (of_modules SelfAssign (Some (at 1 70)) (codes "y"))
own_bit_by_an_index = refl

--   module m(input a, output reg y); assign y = a; endmodule
abbrev pub text_continuous_to_a_variable : List Module
text_continuous_to_a_variable = module_as (named (codes "m") (at 1 8)) [] ((named (codes "a") (at 1 16)) ∷ (named (codes "y") (at 1 30)) ∷
    []) (item_as (at 1 10) (port_item (port_as true false false None ((named (codes "a") (at 1 16)) ∷ []))) ∷
    item_as (at 1 19) (port_item (port_as false true false None ((named (codes "y") (at 1 30)) ∷ []))) ∷
    item_as (at 1 34) (continuous_item (identifier (at 1 41) (codes "y")) (identifier (at 1 45) (codes "a"))) ∷ []) ∷ []

continuous_to_a_variable : first text_continuous_to_a_variable ≡ Some (of_modules WrongTarget (Some (at 1 41)) (codes "y"))
continuous_to_a_variable = refl

--   module m(input a, output y); always @* y = a; endmodule
abbrev pub text_procedural_to_a_net : List Module
text_procedural_to_a_net = module_as (named (codes "m") (at 1 8)) [] ((named (codes "a") (at 1 16)) ∷ (named (codes "y") (at 1 26)) ∷
    []) (item_as (at 1 10) (port_item (port_as true false false None ((named (codes "a") (at 1 16)) ∷ []))) ∷
    item_as (at 1 19) (port_item (port_as false false false None ((named (codes "y") (at 1 26)) ∷ []))) ∷
    item_as (at 1 30) (always_item Star (assignment (at 1 40) (identifier (at 1 40) (codes "y")) true (identifier (at 1 44) (codes "a")))) ∷ []) ∷ []

procedural_to_a_net : first text_procedural_to_a_net ≡ Some (of_modules WrongTarget (Some (at 1 40)) (codes "y"))
procedural_to_a_net = refl

--   module m(input a, output y); always @* a = y; endmodule
abbrev pub text_to_an_input : List Module
text_to_an_input = module_as (named (codes "m") (at 1 8)) [] ((named (codes "a") (at 1 16)) ∷ (named (codes "y") (at 1 26)) ∷
    []) (item_as (at 1 10) (port_item (port_as true false false None ((named (codes "a") (at 1 16)) ∷ []))) ∷
    item_as (at 1 19) (port_item (port_as false false false None ((named (codes "y") (at 1 26)) ∷ []))) ∷
    item_as (at 1 30) (always_item Star (assignment (at 1 40) (identifier (at 1 40) (codes "a")) true (identifier (at 1 44) (codes "y")))) ∷ []) ∷ []

to_an_input : first text_to_an_input ≡ Some (of_modules WrongTarget (Some (at 1 40)) (codes "a"))
to_an_input = refl

--   module m(input a, output reg y); integer i; assign i = a; always @* for (i = 0; i < 2; i = i + 1) y = a; endmodule
abbrev pub text_to_a_loop_variable : List Module
text_to_a_loop_variable = module_as (named (codes "m") (at 1 8)) [] ((named (codes "a") (at 1 16)) ∷ (named (codes "y") (at 1 30)) ∷
    []) (item_as (at 1 10) (port_item (port_as true false false None ((named (codes "a") (at 1 16)) ∷ []))) ∷
    item_as (at 1 19) (port_item (port_as false true false None ((named (codes "y") (at 1 30)) ∷ []))) ∷
    item_as (at 1 34) (integer_item (declared_as (named (codes "i") (at 1 42)) None None ∷ [])) ∷
    item_as (at 1 45) (continuous_item (identifier (at 1 52) (codes "i")) (identifier (at 1 56) (codes "a"))) ∷
    item_as (at 1 59) (always_item Star (for_loop (at 1 69) (header_as (at 1 69) (identifier (at 1 74) (codes "i")) (literal (at 1 78) (known 32 0 true))
    (binary_operator (at 1 81) binary.LessThan (identifier (at 1 81) (codes "i")) (literal (at 1 85) (known 32 2 true))) (identifier (at 1 88) (codes "i"))
    (binary_operator (at 1 92) binary.Add (identifier (at 1 92) (codes "i")) (literal (at 1 96) (known 32 1 true)))) (assignment (at 1 99) (identifier (at 1 99) (codes
    "y")) true (identifier (at 1 103) (codes "a"))))) ∷ []) ∷ []

to_a_loop_variable : first text_to_a_loop_variable ≡ Some (of_modules WrongTarget (Some (at 1 52)) (codes "i"))
to_a_loop_variable = refl

--   module m(input a, output reg y); reg t [0:1]; always @* t[0] = a; endmodule
abbrev pub text_memory_in_a_combinational_block : List Module
text_memory_in_a_combinational_block = module_as (named (codes "m") (at 1 8)) [] ((named (codes "a") (at 1 16)) ∷ (named (codes "y") (at 1 30)) ∷
    []) (item_as (at 1 10) (port_item (port_as true false false None ((named (codes "a") (at 1 16)) ∷ []))) ∷
    item_as (at 1 19) (port_item (port_as false true false None ((named (codes "y") (at 1 30)) ∷ []))) ∷
    item_as (at 1 34) (variable_item (vector_as false None (declared_as (named (codes "t") (at 1 38)) None (Some (range_as (literal (at 1 41) (known 32 0 true)) (literal
    (at 1 43) (known 32 1 true)) (at 1 40))) ∷ []))) ∷ item_as (at 1 47) (always_item Star (assignment (at 1 57) (bit_select (at 1 57) (identifier (at 1 57) (codes "t"))
    (literal (at 1 59) (known 32 0 true))) true (identifier (at 1 64) (codes "a")))) ∷ []) ∷ []

memory_in_a_combinational_block : first text_memory_in_a_combinational_block ≡ Some (of_modules WrongTarget (Some (at 1 57)) (codes "t"))
memory_in_a_combinational_block = refl

--   module m(input c, output reg y); reg [1:0] t [0:1]; always @(posedge c) t[0][1] <= c; endmodule
abbrev pub text_part_of_a_word : List Module
text_part_of_a_word = module_as (named (codes "m") (at 1 8)) [] ((named (codes "c") (at 1 16)) ∷ (named (codes "y") (at 1 30)) ∷
    []) (item_as (at 1 10) (port_item (port_as true false false None ((named (codes "c") (at 1 16)) ∷ []))) ∷
    item_as (at 1 19) (port_item (port_as false true false None ((named (codes "y") (at 1 30)) ∷ []))) ∷
    item_as (at 1 34) (variable_item (vector_as false (Some (range_as (literal (at 1 39) (known 32 1 true)) (literal (at 1 41) (known 32 0 true)) (at 1 38)))
    (declared_as (named (codes "t") (at 1 44)) None (Some (range_as (literal (at 1 47) (known 32 0 true)) (literal (at 1 49) (known 32 1 true)) (at 1 46))) ∷ []))) ∷
    item_as (at 1 53) (always_item (Edges ((Pos, (named (codes "c") (at 1 70))) ∷
    [])) (assignment (at 1 73) (bit_select (at 1 73) (bit_select (at 1 73) (identifier (at 1 73) (codes "t")) (literal (at 1 75) (known 32 0 true))) (literal (at 1 78)
    (known 32 1 true))) false (identifier (at 1 84) (codes "c")))) ∷ []) ∷ []

part_of_a_word : first text_part_of_a_word ≡ Some (of_modules WrongTarget (Some (at 1 73)) (codes "t"))
part_of_a_word = refl

--   module m(input a, output reg y); integer i; always @* begin for (i = 0; i < 2; i = i + 1) y = a; y = i; end endmodule
abbrev pub text_outside_its_loop : List Module
text_outside_its_loop = module_as (named (codes "m") (at 1 8)) [] ((named (codes "a") (at 1 16)) ∷ (named (codes "y") (at 1 30)) ∷
    []) (item_as (at 1 10) (port_item (port_as true false false None ((named (codes "a") (at 1 16)) ∷ []))) ∷
    item_as (at 1 19) (port_item (port_as false true false None ((named (codes "y") (at 1 30)) ∷ []))) ∷
    item_as (at 1 34) (integer_item (declared_as (named (codes "i") (at 1 42)) None None ∷ [])) ∷
    item_as (at 1 45) (always_item Star (sequential_block (at 1 55) (a_statement (for_loop (at 1 61) (header_as (at 1 61) (identifier (at 1 66) (codes "i")) (literal (at
    1 70) (known 32 0 true)) (binary_operator (at 1 73) binary.LessThan (identifier (at 1 73) (codes "i")) (literal (at 1 77) (known 32 2 true))) (identifier (at 1 80)
    (codes "i")) (binary_operator (at 1 84) binary.Add (identifier (at 1 84) (codes "i")) (literal (at 1 88) (known 32 1 true)))) (assignment (at 1 91) (identifier (at 1
    91) (codes "y")) true (identifier (at 1 95) (codes "a")))) (a_statement (assignment (at 1 98) (identifier (at 1 98) (codes "y")) true (identifier (at 1 102) (codes
    "i"))) no_statements)))) ∷ []) ∷ []

outside_its_loop : first text_outside_its_loop ≡ Some (of_modules WrongUse (Some (at 1 102)) (codes "i"))
outside_its_loop = refl

--   module m(input a, output reg y); integer i; always @* for (i = 0; i < 2; i = i + 1) for (i = 0; i < 2; i = i + 1) y = a; endmodule
abbrev pub text_inner_loop_over_the_outer : List Module
text_inner_loop_over_the_outer = module_as (named (codes "m") (at 1 8)) [] ((named (codes "a") (at 1 16)) ∷ (named (codes "y") (at 1 30)) ∷
    []) (item_as (at 1 10) (port_item (port_as true false false None ((named (codes "a") (at 1 16)) ∷ []))) ∷
    item_as (at 1 19) (port_item (port_as false true false None ((named (codes "y") (at 1 30)) ∷ []))) ∷
    item_as (at 1 34) (integer_item (declared_as (named (codes "i") (at 1 42)) None None ∷ [])) ∷
    item_as (at 1 45) (always_item Star (for_loop (at 1 55) (header_as (at 1 55) (identifier (at 1 60) (codes "i")) (literal (at 1 64) (known 32 0 true))
    (binary_operator (at 1 67) binary.LessThan (identifier (at 1 67) (codes "i")) (literal (at 1 71) (known 32 2 true))) (identifier (at 1 74) (codes "i"))
    (binary_operator (at 1 78) binary.Add (identifier (at 1 78) (codes "i")) (literal (at 1 82) (known 32 1 true)))) (for_loop (at 1 85) (header_as (at 1 85) (identifier
    (at 1 90) (codes "i")) (literal (at 1 94) (known 32 0 true)) (binary_operator (at 1 97) binary.LessThan (identifier (at 1 97) (codes "i")) (literal (at 1 101) (known
    32 2 true))) (identifier (at 1 104) (codes "i")) (binary_operator (at 1 108) binary.Add (identifier (at 1 108) (codes "i")) (literal (at 1 112) (known 32 1 true))))
    (assignment (at 1 115) (identifier (at 1 115) (codes "y")) true (identifier (at 1 119) (codes "a")))))) ∷ []) ∷ []

inner_loop_over_the_outer : first text_inner_loop_over_the_outer ≡ Some (of_modules WrongUse (Some (at 1 90)) (codes "i"))
inner_loop_over_the_outer = refl

--   module m(input c, output reg y); reg t [0:1]; always @(posedge c) y <= t; endmodule
abbrev pub text_memory_without_index : List Module
text_memory_without_index = module_as (named (codes "m") (at 1 8)) [] ((named (codes "c") (at 1 16)) ∷ (named (codes "y") (at 1 30)) ∷
    []) (item_as (at 1 10) (port_item (port_as true false false None ((named (codes "c") (at 1 16)) ∷ []))) ∷
    item_as (at 1 19) (port_item (port_as false true false None ((named (codes "y") (at 1 30)) ∷ []))) ∷
    item_as (at 1 34) (variable_item (vector_as false None (declared_as (named (codes "t") (at 1 38)) None (Some (range_as (literal (at 1 41) (known 32 0 true)) (literal
    (at 1 43) (known 32 1 true)) (at 1 40))) ∷ []))) ∷ item_as (at 1 47) (always_item (Edges ((Pos, (named (codes "c") (at 1 64))) ∷
    [])) (assignment (at 1 67) (identifier (at 1 67) (codes "y")) false (identifier (at 1 72) (codes "t")))) ∷ []) ∷ []

memory_without_index : first text_memory_without_index ≡ Some (of_modules WrongUse (Some (at 1 72)) (codes "t"))
memory_without_index = refl

--   module m(input a, output y); assign y = a[0]; endmodule
abbrev pub text_select_without_range : List Module
text_select_without_range = module_as (named (codes "m") (at 1 8)) [] ((named (codes "a") (at 1 16)) ∷ (named (codes "y") (at 1 26)) ∷
    []) (item_as (at 1 10) (port_item (port_as true false false None ((named (codes "a") (at 1 16)) ∷ []))) ∷
    item_as (at 1 19) (port_item (port_as false false false None ((named (codes "y") (at 1 26)) ∷ []))) ∷
    item_as (at 1 30) (continuous_item (identifier (at 1 37) (codes "y")) (bit_select (at 1 41) (identifier (at 1 41) (codes "a")) (literal (at 1 43) (known 32 0
    true)))) ∷ []) ∷ []

select_without_range : first text_select_without_range ≡ Some (of_modules WrongUse (Some (at 1 41)) (codes "a"))
select_without_range = refl

--   module m(input [1:0] a, output y); assign y = a[1][0]; endmodule
abbrev pub text_second_select : List Module
text_second_select = module_as (named (codes "m") (at 1 8)) [] ((named (codes "a") (at 1 22)) ∷ (named (codes "y") (at 1 32)) ∷
    []) (item_as (at 1 10) (port_item (port_as true false false (Some (range_as (literal (at 1 17) (known 32 1 true)) (literal (at 1 19) (known 32 0 true)) (at 1 16)))
    ((named (codes "a") (at 1 22)) ∷ []))) ∷ item_as (at 1 25) (port_item (port_as false false false None ((named (codes "y") (at 1 32)) ∷ []))) ∷
    item_as (at 1 36) (continuous_item (identifier (at 1 43) (codes "y")) (bit_select (at 1 47) (bit_select (at 1 47) (identifier (at 1 47) (codes "a")) (literal (at 1
    49) (known 32 1 true))) (literal (at 1 52) (known 32 0 true)))) ∷ []) ∷ []

second_select : first text_second_select ≡ Some (of_modules WrongUse (Some (at 1 47)) (codes "a"))
second_select = refl

--   module m(input c, output reg y); reg t [0:1]; always @(posedge c) y <= t[1:0]; endmodule
abbrev pub text_part_of_a_memory : List Module
text_part_of_a_memory = module_as (named (codes "m") (at 1 8)) [] ((named (codes "c") (at 1 16)) ∷ (named (codes "y") (at 1 30)) ∷
    []) (item_as (at 1 10) (port_item (port_as true false false None ((named (codes "c") (at 1 16)) ∷ []))) ∷
    item_as (at 1 19) (port_item (port_as false true false None ((named (codes "y") (at 1 30)) ∷ []))) ∷
    item_as (at 1 34) (variable_item (vector_as false None (declared_as (named (codes "t") (at 1 38)) None (Some (range_as (literal (at 1 41) (known 32 0 true)) (literal
    (at 1 43) (known 32 1 true)) (at 1 40))) ∷ []))) ∷ item_as (at 1 47) (always_item (Edges ((Pos, (named (codes "c") (at 1 64))) ∷
    [])) (assignment (at 1 67) (identifier (at 1 67) (codes "y")) false (part_select (at 1 72) (identifier (at 1 72) (codes "t")) (literal (at 1 74) (known 32 1 true))
    (literal (at 1 76) (known 32 0 true)) (at 1 73)))) ∷ []) ∷ []

part_of_a_memory : first text_part_of_a_memory ≡ Some (of_modules WrongUse (Some (at 1 72)) (codes "t"))
part_of_a_memory = refl

--   module m(input [3:0] a, output y); assign y = a[9] + x; endmodule
abbrev pub text_select_out_of_range : List Module
text_select_out_of_range = module_as (named (codes "m") (at 1 8)) [] ((named (codes "a") (at 1 22)) ∷ (named (codes "y") (at 1 32)) ∷
    []) (item_as (at 1 10) (port_item (port_as true false false (Some (range_as (literal (at 1 17) (known 32 3 true)) (literal (at 1 19) (known 32 0 true)) (at 1 16)))
    ((named (codes "a") (at 1 22)) ∷ []))) ∷ item_as (at 1 25) (port_item (port_as false false false None ((named (codes "y") (at 1 32)) ∷ []))) ∷
    item_as (at 1 36) (continuous_item (identifier (at 1 43) (codes "y")) (binary_operator (at 1 47) binary.Add (bit_select (at 1 47) (identifier (at 1 47) (codes "a"))
    (literal (at 1 49) (known 32 9 true))) (identifier (at 1 54) (codes "x")))) ∷ []) ∷ []

select_out_of_range : first text_select_out_of_range ≡ Some (of_modules WrongUse (Some (at 1 47)) (codes "a"))
select_out_of_range = refl

--   module m(input [3:0] a, output reg y); integer i; always @* for (i = 0; i < 5; i = i + 1) y = a[i]; endmodule
abbrev pub text_turn_out_of_range : List Module
text_turn_out_of_range = module_as (named (codes "m") (at 1 8)) [] ((named (codes "a") (at 1 22)) ∷ (named (codes "y") (at 1 36)) ∷
    []) (item_as (at 1 10) (port_item (port_as true false false (Some (range_as (literal (at 1 17) (known 32 3 true)) (literal (at 1 19) (known 32 0 true)) (at 1 16)))
    ((named (codes "a") (at 1 22)) ∷ []))) ∷ item_as (at 1 25) (port_item (port_as false true false None ((named (codes "y") (at 1 36)) ∷ []))) ∷
    item_as (at 1 40) (integer_item (declared_as (named (codes "i") (at 1 48)) None None ∷ [])) ∷
    item_as (at 1 51) (always_item Star (for_loop (at 1 61) (header_as (at 1 61) (identifier (at 1 66) (codes "i")) (literal (at 1 70) (known 32 0 true))
    (binary_operator (at 1 73) binary.LessThan (identifier (at 1 73) (codes "i")) (literal (at 1 77) (known 32 5 true))) (identifier (at 1 80) (codes "i"))
    (binary_operator (at 1 84) binary.Add (identifier (at 1 84) (codes "i")) (literal (at 1 88) (known 32 1 true)))) (assignment (at 1 91) (identifier (at 1 91) (codes
    "y")) true (bit_select (at 1 95) (identifier (at 1 95) (codes "a")) (identifier (at 1 97) (codes "i")))))) ∷ []) ∷ []

turn_out_of_range : first text_turn_out_of_range ≡ Some (of_modules WrongUse (Some (at 1 95)) (codes "a"))
turn_out_of_range = refl

--   module m(input a); reg t [0:1]; n u(t); endmodule module n(input b); endmodule
abbrev pub text_memory_in_a_connection : List Module
text_memory_in_a_connection = module_as (named (codes "m") (at 1 8)) [] ((named (codes "a") (at 1 16)) ∷
    []) (item_as (at 1 10) (port_item (port_as true false false None ((named (codes "a") (at 1 16)) ∷ []))) ∷
    item_as (at 1 20) (variable_item (vector_as false None (declared_as (named (codes "t") (at 1 24)) None (Some (range_as (literal (at 1 27) (known 32 0 true)) (literal
    (at 1 29) (known 32 1 true)) (at 1 26))) ∷ []))) ∷ item_as (at 1 33) (instance_item (instance_as (named (codes "n") (at 1 33)) [] (one_as (named (codes "u") (at 1
    35)) (given_as None (Some (identifier (at 1 37) (codes "t"))) ∷ []) ∷ []))) ∷ []) ∷ module_as (named (codes "n") (at 1 58)) [] ((named (codes "b") (at 1 66)) ∷
    []) (item_as (at 1 60) (port_item (port_as true false false None ((named (codes "b") (at 1 66)) ∷ []))) ∷ []) ∷ []

memory_in_a_connection : first text_memory_in_a_connection ≡ Some (of_modules WrongUse (Some (at 1 37)) (codes "t"))
memory_in_a_connection = refl

--   module m(input a, output y); parameter P = 1; assign y = P[0]; endmodule
abbrev pub text_select_on_a_parameter : List Module
text_select_on_a_parameter = module_as (named (codes "m") (at 1 8)) [] ((named (codes "a") (at 1 16)) ∷ (named (codes "y") (at 1 26)) ∷
    []) (item_as (at 1 10) (port_item (port_as true false false None ((named (codes "a") (at 1 16)) ∷ []))) ∷
    item_as (at 1 19) (port_item (port_as false false false None ((named (codes "y") (at 1 26)) ∷ []))) ∷
    item_as (at 1 30) (parameter_item (param_as (named (codes "P") (at 1 40)) false false false None (literal (at 1 44) (known 32 1 true)) ∷ [])) ∷
    item_as (at 1 47) (continuous_item (identifier (at 1 54) (codes "y")) (bit_select (at 1 58) (identifier (at 1 58) (codes "P")) (literal (at 1 60) (known 32 0
    true)))) ∷ []) ∷ []

select_on_a_parameter : first text_select_on_a_parameter ≡ Some (of_modules WrongUse (Some (at 1 58)) (codes "P"))
select_on_a_parameter = refl

--   module m(input a); integer i; reg r; always @* for (i = 0; i < 2; i = i + 1) r = a; n u(.b(i)); endmodule module n(output b); endmodule
abbrev pub text_output_to_a_loop_variable : List Module
text_output_to_a_loop_variable = module_as (named (codes "m") (at 1 8)) [] ((named (codes "a") (at 1 16)) ∷
    []) (item_as (at 1 10) (port_item (port_as true false false None ((named (codes "a") (at 1 16)) ∷ []))) ∷
    item_as (at 1 20) (integer_item (declared_as (named (codes "i") (at 1 28)) None None ∷ [])) ∷
    item_as (at 1 31) (variable_item (vector_as false None (declared_as (named (codes "r") (at 1 35)) None None ∷ []))) ∷
    item_as (at 1 38) (always_item Star (for_loop (at 1 48) (header_as (at 1 48) (identifier (at 1 53) (codes "i")) (literal (at 1 57) (known 32 0 true))
    (binary_operator (at 1 60) binary.LessThan (identifier (at 1 60) (codes "i")) (literal (at 1 64) (known 32 2 true))) (identifier (at 1 67) (codes "i"))
    (binary_operator (at 1 71) binary.Add (identifier (at 1 71) (codes "i")) (literal (at 1 75) (known 32 1 true)))) (assignment (at 1 78) (identifier (at 1 78) (codes
    "r")) true (identifier (at 1 82) (codes "a"))))) ∷ item_as (at 1 85) (instance_item (instance_as (named (codes "n") (at 1 85)) [] (one_as (named (codes "u") (at 1
    87)) (given_as (Some (named (codes "b") (at 1 90))) (Some (identifier (at 1 92) (codes "i"))) ∷ []) ∷ []))) ∷ []) ∷
    module_as (named (codes "n") (at 1 114)) [] ((named (codes "b") (at 1 123)) ∷
    []) (item_as (at 1 116) (port_item (port_as false false false None ((named (codes "b") (at 1 123)) ∷ []))) ∷ []) ∷ []

output_to_a_loop_variable : first text_output_to_a_loop_variable ≡ Some (of_modules PortMismatch (Some (at 1 90)) (codes "b"))
output_to_a_loop_variable = refl

--   module m(input a); wire P; parameter P = 1; endmodule
abbrev pub text_parameter_declared_twice : List Module
text_parameter_declared_twice = module_as (named (codes "m") (at 1 8)) [] ((named (codes "a") (at 1 16)) ∷
    []) (item_as (at 1 10) (port_item (port_as true false false None ((named (codes "a") (at 1 16)) ∷ []))) ∷
    item_as (at 1 20) (net_item (vector_as false None (declared_as (named (codes "P") (at 1 25)) None None ∷ []))) ∷
    item_as (at 1 28) (parameter_item (param_as (named (codes "P") (at 1 38)) false false false None (literal (at 1 42) (known 32 1 true)) ∷ [])) ∷ []) ∷ []

parameter_declared_twice : first text_parameter_declared_twice ≡ Some (of_modules TwiceDeclared (Some (at 1 38)) (codes "P"))
parameter_declared_twice = refl

--   module m(input a); wire [a:0] w; endmodule
abbrev pub text_range_that_is_no_constant : List Module
text_range_that_is_no_constant = module_as (named (codes "m") (at 1 8)) [] ((named (codes "a") (at 1 16)) ∷
    []) (item_as (at 1 10) (port_item (port_as true false false None ((named (codes "a") (at 1 16)) ∷ []))) ∷
    item_as (at 1 20) (net_item (vector_as false (Some (range_as (identifier (at 1 26) (codes "a")) (literal (at 1 28) (known 32 0 true)) (at 1 25))) (declared_as (named
    (codes "w") (at 1 31)) None None ∷ []))) ∷ []) ∷ []

range_that_is_no_constant : first text_range_that_is_no_constant ≡ Some (of_constant NotConstant (at 1 26))
range_that_is_no_constant = refl

--   module m(input a); parameter P = Q, Q = 1; endmodule
abbrev pub text_parameter_before_its_value : List Module
text_parameter_before_its_value = module_as (named (codes "m") (at 1 8)) [] ((named (codes "a") (at 1 16)) ∷
    []) (item_as (at 1 10) (port_item (port_as true false false None ((named (codes "a") (at 1 16)) ∷ []))) ∷
    item_as (at 1 20) (parameter_item (param_as (named (codes "P") (at 1 30)) false false false None (identifier (at 1 34) (codes "Q")) ∷
    param_as (named (codes "Q") (at 1 37)) false false false None (literal (at 1 41) (known 32 1 true)) ∷ [])) ∷ []) ∷ []

parameter_before_its_value : first text_parameter_before_its_value ≡ Some (of_constant NotConstant (at 1 34))
parameter_before_its_value = refl

--   module m(input a); wire [X:0] w; endmodule
abbrev pub text_undeclared_goes_first : List Module
text_undeclared_goes_first = module_as (named (codes "m") (at 1 8)) [] ((named (codes "a") (at 1 16)) ∷
    []) (item_as (at 1 10) (port_item (port_as true false false None ((named (codes "a") (at 1 16)) ∷ []))) ∷
    item_as (at 1 20) (net_item (vector_as false (Some (range_as (identifier (at 1 26) (codes "X")) (literal (at 1 28) (known 32 0 true)) (at 1 25))) (declared_as (named
    (codes "w") (at 1 31)) None None ∷ []))) ∷ []) ∷ []

undeclared_goes_first : first text_undeclared_goes_first ≡ Some (of_modules Undeclared (Some (at 1 26)) (codes "X"))
undeclared_goes_first = refl

--   module m(input a); parameter P = 1'bx; wire [P:0] w; endmodule
abbrev pub text_bound_with_an_x : List Module
text_bound_with_an_x = module_as (named (codes "m") (at 1 8)) [] ((named (codes "a") (at 1 16)) ∷
    []) (item_as (at 1 10) (port_item (port_as true false false None ((named (codes "a") (at 1 16)) ∷ []))) ∷
    item_as (at 1 20) (parameter_item (param_as (named (codes "P") (at 1 30)) false false false None (literal (at 1 34) (vector (X ∷ []) false)) ∷ [])) ∷
    item_as (at 1 40) (net_item (vector_as false (Some (range_as (identifier (at 1 46) (codes "P")) (literal (at 1 48) (known 32 0 true)) (at 1 45))) (declared_as (named
    (codes "w") (at 1 51)) None None ∷ []))) ∷ []) ∷ []

bound_with_an_x : first text_bound_with_an_x ≡ Some (of_constant NotConstant (at 1 46))
bound_with_an_x = refl

--   module m(input a); wire [-1:0] w; endmodule
abbrev pub text_bound_below_zero : List Module
text_bound_below_zero = module_as (named (codes "m") (at 1 8)) [] ((named (codes "a") (at 1 16)) ∷
    []) (item_as (at 1 10) (port_item (port_as true false false None ((named (codes "a") (at 1 16)) ∷ []))) ∷
    item_as (at 1 20) (net_item (vector_as false (Some (range_as (unary_operator (at 1 26) unary.Negative (literal (at 1 27) (known 32 1 true))) (literal (at 1 29)
    (known 32 0 true)) (at 1 25))) (declared_as (named (codes "w") (at 1 32)) None None ∷ []))) ∷ []) ∷ []

bound_below_zero : first text_bound_below_zero ≡ Some (of_constant BadRange (at 1 25))
bound_below_zero = refl

--   module m(input a); wire [1048576:0] w; endmodule
abbrev pub text_bound_too_large : List Module
text_bound_too_large = module_as (named (codes "m") (at 1 8)) [] ((named (codes "a") (at 1 16)) ∷
    []) (item_as (at 1 10) (port_item (port_as true false false None ((named (codes "a") (at 1 16)) ∷ []))) ∷
    item_as (at 1 20) (net_item (vector_as false (Some (range_as (literal (at 1 26) (known 32 1048576 true)) (literal (at 1 34) (known 32 0 true)) (at 1 25)))
    (declared_as (named (codes "w") (at 1 37)) None None ∷ []))) ∷ []) ∷ []

bound_too_large : first text_bound_too_large ≡ Some (of_constant BadRange (at 1 25))
bound_too_large = refl

--   module m(input [1:0] a, output y); assign y = a[0:1]; endmodule
abbrev pub text_part_against_the_range : List Module
text_part_against_the_range = module_as (named (codes "m") (at 1 8)) [] ((named (codes "a") (at 1 22)) ∷ (named (codes "y") (at 1 32)) ∷
    []) (item_as (at 1 10) (port_item (port_as true false false (Some (range_as (literal (at 1 17) (known 32 1 true)) (literal (at 1 19) (known 32 0 true)) (at 1 16)))
    ((named (codes "a") (at 1 22)) ∷ []))) ∷ item_as (at 1 25) (port_item (port_as false false false None ((named (codes "y") (at 1 32)) ∷ []))) ∷
    item_as (at 1 36) (continuous_item (identifier (at 1 43) (codes "y")) (part_select (at 1 47) (identifier (at 1 47) (codes "a")) (literal (at 1 49) (known 32 0 true))
    (literal (at 1 51) (known 32 1 true)) (at 1 48))) ∷ []) ∷ []

part_against_the_range : first text_part_against_the_range ≡ Some (of_constant BadRange (at 1 48))
part_against_the_range = refl

--   module m(input a, output y); assign y = {0{a}}; endmodule
abbrev pub text_repeat_of_none : List Module
text_repeat_of_none = module_as (named (codes "m") (at 1 8)) [] ((named (codes "a") (at 1 16)) ∷ (named (codes "y") (at 1 26)) ∷
    []) (item_as (at 1 10) (port_item (port_as true false false None ((named (codes "a") (at 1 16)) ∷ []))) ∷
    item_as (at 1 19) (port_item (port_as false false false None ((named (codes "y") (at 1 26)) ∷ []))) ∷
    item_as (at 1 30) (continuous_item (identifier (at 1 37) (codes "y")) (replication (at 1 41) (literal (at 1 42) (known 32 0 true)) (an_expr (identifier (at 1 44)
    (codes "a")) no_exprs))) ∷ []) ∷ []

repeat_of_none : first text_repeat_of_none ≡ Some (of_constant BadRange (at 1 41))
repeat_of_none = refl

--   module m(input [127:0] a, output y); assign y = {a, 1'b0}; endmodule
abbrev pub text_concatenation_too_wide : List Module
text_concatenation_too_wide = module_as (named (codes "m") (at 1 8)) [] ((named (codes "a") (at 1 24)) ∷ (named (codes "y") (at 1 34)) ∷
    []) (item_as (at 1 10) (port_item (port_as true false false (Some (range_as (literal (at 1 17) (known 32 127 true)) (literal (at 1 21) (known 32 0 true)) (at 1 16)))
    ((named (codes "a") (at 1 24)) ∷ []))) ∷ item_as (at 1 27) (port_item (port_as false false false None ((named (codes "y") (at 1 34)) ∷ []))) ∷
    item_as (at 1 38) (continuous_item (identifier (at 1 45) (codes "y")) (concatenation (at 1 49) (an_expr (identifier (at 1 50) (codes "a")) (an_expr (literal (at 1
    53) (known 1 0 false)) no_exprs)))) ∷ []) ∷ []

concatenation_too_wide : first text_concatenation_too_wide ≡ Some (of_constant TooWide (at 1 49))
concatenation_too_wide = refl

--   module m(input a, output [1:0] y); assign y[a] = a; endmodule
abbrev pub text_target_index_not_constant : List Module
text_target_index_not_constant = module_as (named (codes "m") (at 1 8)) [] ((named (codes "a") (at 1 16)) ∷ (named (codes "y") (at 1 32)) ∷
    []) (item_as (at 1 10) (port_item (port_as true false false None ((named (codes "a") (at 1 16)) ∷ []))) ∷
    item_as (at 1 19) (port_item (port_as false false false (Some (range_as (literal (at 1 27) (known 32 1 true)) (literal (at 1 29) (known 32 0 true)) (at 1 26)))
    ((named (codes "y") (at 1 32)) ∷ []))) ∷ item_as (at 1 36) (continuous_item (bit_select (at 1 43) (identifier (at 1 43) (codes "y")) (identifier (at 1 45) (codes
    "a"))) (identifier (at 1 50) (codes "a"))) ∷ []) ∷ []

target_index_not_constant : first text_target_index_not_constant ≡ Some (of_constant NotConstant (at 1 45))
target_index_not_constant = refl

--   module m(input a, output reg y); always @* for (a = 0; a < 2; a = a + 1) y = a; endmodule
abbrev pub text_loop_over_a_signal : List Module
text_loop_over_a_signal = module_as (named (codes "m") (at 1 8)) [] ((named (codes "a") (at 1 16)) ∷ (named (codes "y") (at 1 30)) ∷
    []) (item_as (at 1 10) (port_item (port_as true false false None ((named (codes "a") (at 1 16)) ∷ []))) ∷
    item_as (at 1 19) (port_item (port_as false true false None ((named (codes "y") (at 1 30)) ∷ []))) ∷
    item_as (at 1 34) (always_item Star (for_loop (at 1 44) (header_as (at 1 44) (identifier (at 1 49) (codes "a")) (literal (at 1 53) (known 32 0 true))
    (binary_operator (at 1 56) binary.LessThan (identifier (at 1 56) (codes "a")) (literal (at 1 60) (known 32 2 true))) (identifier (at 1 63) (codes "a"))
    (binary_operator (at 1 67) binary.Add (identifier (at 1 67) (codes "a")) (literal (at 1 71) (known 32 1 true)))) (assignment (at 1 74) (identifier (at 1 74) (codes
    "y")) true (identifier (at 1 78) (codes "a"))))) ∷ []) ∷ []

loop_over_a_signal : first text_loop_over_a_signal ≡ Some (of_constant LoopNotConstant (at 1 44))
loop_over_a_signal = refl

--   module m(input a, output reg y); integer i; always @* for (i = 0; i < a; i = i + 1) y = a; endmodule
abbrev pub text_loop_header_reads_a_signal : List Module
text_loop_header_reads_a_signal = module_as (named (codes "m") (at 1 8)) [] ((named (codes "a") (at 1 16)) ∷ (named (codes "y") (at 1 30)) ∷
    []) (item_as (at 1 10) (port_item (port_as true false false None ((named (codes "a") (at 1 16)) ∷ []))) ∷
    item_as (at 1 19) (port_item (port_as false true false None ((named (codes "y") (at 1 30)) ∷ []))) ∷
    item_as (at 1 34) (integer_item (declared_as (named (codes "i") (at 1 42)) None None ∷ [])) ∷
    item_as (at 1 45) (always_item Star (for_loop (at 1 55) (header_as (at 1 55) (identifier (at 1 60) (codes "i")) (literal (at 1 64) (known 32 0 true))
    (binary_operator (at 1 67) binary.LessThan (identifier (at 1 67) (codes "i")) (identifier (at 1 71) (codes "a"))) (identifier (at 1 74) (codes "i")) (binary_operator
    (at 1 78) binary.Add (identifier (at 1 78) (codes "i")) (literal (at 1 82) (known 32 1 true)))) (assignment (at 1 85) (identifier (at 1 85) (codes "y")) true
    (identifier (at 1 89) (codes "a"))))) ∷ []) ∷ []

loop_header_reads_a_signal : first text_loop_header_reads_a_signal ≡ Some (of_constant LoopNotConstant (at 1 55))
loop_header_reads_a_signal = refl

--   module m(input a, output reg y); integer i; always @* for (i = 0; 1'bx; i = i + 1) y = a; endmodule
abbrev pub text_loop_test_with_an_x : List Module
text_loop_test_with_an_x = module_as (named (codes "m") (at 1 8)) [] ((named (codes "a") (at 1 16)) ∷ (named (codes "y") (at 1 30)) ∷
    []) (item_as (at 1 10) (port_item (port_as true false false None ((named (codes "a") (at 1 16)) ∷ []))) ∷
    item_as (at 1 19) (port_item (port_as false true false None ((named (codes "y") (at 1 30)) ∷ []))) ∷
    item_as (at 1 34) (integer_item (declared_as (named (codes "i") (at 1 42)) None None ∷ [])) ∷
    item_as (at 1 45) (always_item Star (for_loop (at 1 55) (header_as (at 1 55) (identifier (at 1 60) (codes "i")) (literal (at 1 64) (known 32 0 true)) (literal (at 1
    67) (vector (X ∷ []) false)) (identifier (at 1 73) (codes "i")) (binary_operator (at 1 77) binary.Add (identifier (at 1 77) (codes "i")) (literal (at 1 81) (known 32
    1 true)))) (assignment (at 1 84) (identifier (at 1 84) (codes "y")) true (identifier (at 1 88) (codes "a"))))) ∷ []) ∷ []

loop_test_with_an_x : first text_loop_test_with_an_x ≡ Some (of_constant LoopNotConstant (at 1 55))
loop_test_with_an_x = refl

--   module m(input a); reg r [0:65536]; endmodule
abbrev pub text_memory_too_long : List Module
text_memory_too_long = module_as (named (codes "m") (at 1 8)) [] ((named (codes "a") (at 1 16)) ∷
    []) (item_as (at 1 10) (port_item (port_as true false false None ((named (codes "a") (at 1 16)) ∷ []))) ∷
    item_as (at 1 20) (variable_item (vector_as false None (declared_as (named (codes "r") (at 1 24)) None (Some (range_as (literal (at 1 27) (known 32 0 true)) (literal
    (at 1 29) (known 32 65536 true)) (at 1 26))) ∷ []))) ∷ []) ∷ []

memory_too_long : first text_memory_too_long ≡ Some (of_modules Limit (Some (at 1 20)) (codes "3"))
memory_too_long = refl

--   module m(input a); reg r [0:65535]; reg s [0:65535]; reg t [0:65535]; reg u [0:65535]; reg v [0:0]; endmodule
abbrev pub text_words_too_many : List Module
text_words_too_many = module_as (named (codes "m") (at 1 8)) [] ((named (codes "a") (at 1 16)) ∷
    []) (item_as (at 1 10) (port_item (port_as true false false None ((named (codes "a") (at 1 16)) ∷ []))) ∷
    item_as (at 1 20) (variable_item (vector_as false None (declared_as (named (codes "r") (at 1 24)) None (Some (range_as (literal (at 1 27) (known 32 0 true)) (literal
    (at 1 29) (known 32 65535 true)) (at 1 26))) ∷ []))) ∷ item_as (at 1 37) (variable_item (vector_as false None (declared_as (named (codes "s") (at 1 41)) None (Some
    (range_as (literal (at 1 44) (known 32 0 true)) (literal (at 1 46) (known 32 65535 true)) (at 1 43))) ∷ []))) ∷
    item_as (at 1 54) (variable_item (vector_as false None (declared_as (named (codes "t") (at 1 58)) None (Some (range_as (literal (at 1 61) (known 32 0 true)) (literal
    (at 1 63) (known 32 65535 true)) (at 1 60))) ∷ []))) ∷ item_as (at 1 71) (variable_item (vector_as false None (declared_as (named (codes "u") (at 1 75)) None (Some
    (range_as (literal (at 1 78) (known 32 0 true)) (literal (at 1 80) (known 32 65535 true)) (at 1 77))) ∷ []))) ∷
    item_as (at 1 88) (variable_item (vector_as false None (declared_as (named (codes "v") (at 1 92)) None (Some (range_as (literal (at 1 95) (known 32 0 true)) (literal
    (at 1 97) (known 32 0 true)) (at 1 94))) ∷ []))) ∷ []) ∷ []

words_too_many : first text_words_too_many ≡ Some (of_modules Limit (Some (at 1 88)) (codes "4"))
words_too_many = refl
