-- The index of the lowest bit of an indexed part of a target, computed, and its shape as a term alone.
use Rattle.std.proofs.Common.{◌≡◌, refl}
use Rattle.std.specs.Prelude.{ℕ, Bool, true, false, [], ℤ, pos, negsuc, Option, Some, None}
use Rattle.four_state.specs.Parts.{index}
use Rattle.design_model.specs.Design.{Design}
use Rattle.design_model.specs.Mentions.{blank}
use Rattle.design_model.specs.Shape.{is_alone}
use Rattle.design_model.specs.Value.{value}
use Rattle.four_state.specs.declared.operator.Binary.TheVariants.{Add}
use Rattle.verilog_tree.specs.Tree.{Expr, binary_operator, literal}
use Rattle.flat_design.specs.Scope.{no_names}
use Rattle.flat_design.specs.Targets.{moved_index}
use Rattle.flat_laws.proofs.ExampleParts.{at, known}

abbrev no_design : Design
no_design = record { top = []; instances = []; signals = []; memories = []; processes = []; constants = []; aliases = [] }

-- a base with so many bits
abbrev base : ℕ → ℕ → Bool → Expr
base w n signed = literal (at 1 1) (known w n signed)

abbrev number_of : Bool → ℕ → Expr → Option ℤ
number_of up by e = index true (value no_design blank (moved_index 0 no_names up by e 1))

-- 3 bits up from 4'd15, and down from 4'd1
up_15 : number_of true 3 (base 4 15 false) ≡ Some (pos 18)
up_15 = refl

down_1 : number_of false 3 (base 4 1 false) ≡ Some (negsuc 1)
down_1 = refl

-- up from 4'sb1111
up_signed : number_of true 3 (base 4 15 true) ≡ Some (pos 2)
up_signed = refl

-- down from 4'sd7 + 4'sd7 + 4'sd7, which has 4 bits and so is 5
wrapping : Expr
wrapping = binary_operator (at 1 1) Add (binary_operator (at 1 1) Add (base 4 7 true) (base 4 7 true)) (base 4 7 true)

down_wrapping : number_of false 1 wrapping ≡ Some (pos 4)
unfolding wrapping
down_wrapping = refl

-- with 128 bits, of which the highest is 0 or 1
up_wide : number_of true 3 (base 128 7 false) ≡ Some (pos 10)
up_wide = refl

past_all : number_of true 3 (base 128 170141183460469231731687303715884105728 false) ≡ None
past_all = refl

-- each has its shape alone
shaped_4 : is_alone no_design (moved_index 0 no_names true 3 (base 4 15 false) 1) ≡ true
shaped_4 = refl

shaped_127 : is_alone no_design (moved_index 0 no_names true 3 (base 127 15 false) 1) ≡ true
shaped_127 = refl

shaped_128 : is_alone no_design (moved_index 0 no_names true 3 (base 128 15 false) 1) ≡ true
shaped_128 = refl

shaped_signed : is_alone no_design (moved_index 0 no_names false 3 (base 128 15 true) 1) ≡ true
shaped_signed = refl
