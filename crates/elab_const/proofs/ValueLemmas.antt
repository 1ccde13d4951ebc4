-- The contexts of operands, and their widths and signs.
use Rattle.std.proofs.Common.{◌≡◌, ◌∙◌, ℕ, Bool, true, false, ◌&&◌, refl, sym, ap, arith, if◌then◌else◌, Option, Some, None, Result, Ok}
use Rattle.std.specs.Prelude.{IfOk}
use Rattle.std.specs.Bool.{OnTrue}
use Rattle.four_state.specs.Operators.{takes_same_shape, SameShape, unary_value}
use Rattle.four_state.specs.Vector.{Vector}
use Rattle.four_state.specs.declared.operator.Binary.{Binary}
use Rattle.four_state.specs.declared.operator.Binary.TheVariants as op
use Rattle.four_state.specs.declared.operator.Unary.{Unary}
use Rattle.design_model.specs.Shape.{is_wide_unary}
use Rattle.elab_const.specs.Scope.{Fault, both, earlier, unless}
use Rattle.elab_const.specs.Meaning.{Shape, Meaning, Evaluated, at, within, bits_within, means, pair_within, operands_within, one_bit, shape_as, common_shape, context_of, vector_in, unary_shape, unary_bits, operand_shape, around_operand, operands_of, operand_values}
use Rattle.elab_const.specs.Faults.{beside, shape_in, value_in}
use Rattle.elab_const.proofs.ContextLemmas.{length-fit}

-- what is around an operand gives it its context
pub operand_context : (o : Unary) (around : Option Shape) (s : Shape) → context_of (around_operand o around) s ≡ operand_shape o s (context_of around (unary_shape o s))
operand_context o around s = go (is_wide_unary o)
  where
    go : (b : Bool) → context_of (if b then around else None) s ≡ (if b then context_of around (if b then s else one_bit) else s)
    go true = refl
    go false = refl

-- the operand of an operator as it takes it
pub unary_is : (o : Unary) (around : Option Shape) (m : Meaning) →
    bits_within (unary_shape o m.shape) (unary_value o (within m (around_operand o around)).value.bits) around ≡ within (means (unary_shape o m.shape) (unary_bits o m)) around
unary_is o around m = ap (λ c. bits_within (unary_shape o m.shape) (unary_value o (vector_in m c).bits) around) (operand_context o around m.shape)

-- signs in any order
and_swap : (a b c : Bool) → ((a && b) && c) ≡ (a && (c && b))
and_swap true true true = refl
and_swap true true false = refl
and_swap true false true = refl
and_swap true false false = refl
and_swap false b c = refl

and_assoc : (a b c : Bool) → ((a && b) && c) ≡ (a && (b && c))
and_assoc true b c = refl
and_assoc false b c = refl

and_comm : (a b : Bool) → (a && b) ≡ (b && a)
and_comm true true = refl
and_comm true false = refl
and_comm false true = refl
and_comm false false = refl

-- two shapes are the same
same_shape : (w v : ℕ) (s t : Bool) → w ≡ v → s ≡ t → shape_as w s ≡ shape_as v t
same_shape w v s t p q = rw (p, q) refl

-- the context of two shapes, whichever is given first
pub first_beside : (around : Option Shape) (a b : Shape) → context_of (Some (context_of around a)) b ≡ context_of around (common_shape a b)
first_beside None a b = refl
first_beside (Some c) a b = same_shape _ _ _ _ (omega arith) (and_assoc c.signed a.signed b.signed)

pub last_beside : (around : Option Shape) (a b : Shape) → context_of (Some (context_of around b)) a ≡ context_of around (common_shape a b)
last_beside None a b = same_shape _ _ _ _ (omega arith) (and_comm b.signed a.signed)
last_beside (Some c) a b = same_shape _ _ _ _ (omega arith) (and_swap c.signed b.signed a.signed)

-- the shape in an answer
pub shape_of : (f : Option Fault) (e : Evaluated) (r : Result Evaluated Fault) → r ≡ unless f e → shape_in r ≡ unless f e.shape
shape_of None e r is = rw is refl
shape_of (Some h) e r is = rw is refl

-- and the value
pub value_of : (f : Option Fault) (e : Evaluated) (r : Result Evaluated Fault) → r ≡ unless f e → value_in r ≡ unless f e.value
value_of None e r is = rw is refl
value_of (Some h) e r is = rw is refl

-- two expressions, each evaluated beside the other's shape
pub pair_is : (around : Option Shape) (f h : Option Fault) (a b : Meaning) (x y : Result Shape Fault) (first last : Result Evaluated Fault) →
    x ≡ unless h b.shape → y ≡ unless f a.shape → first ≡ unless f (within a (beside around x)) → last ≡ unless h (within b (beside around y)) →
    both first last ≡ unless (earlier f h) (pair_within a b around)
pair_is around None None a b x y first last p q r l =
    rw (r, l, p, q) (ap Ok (same_pair _ _ _ _ (ap (at a) (last_beside around a.shape b.shape)) (ap (at b) (first_beside around a.shape b.shape))))
  where
    same_pair : (x y u v : Evaluated) → x ≡ u → y ≡ v → ◌≡◌ {A = Evaluated × Evaluated} (x, y) (u, v)
    same_pair x y u v p q = rw (p, q) refl
pair_is around None (Some h) a b x y first last p q r l = rw (r, l) refl
pair_is around (Some f) None a b x y first last p q r l = rw (r, l) refl
pair_is around (Some f) (Some h) a b x y first last p q r l = rw (r, l) refl

-- two values in one context
pub same_in : (a b : Meaning) (s : Shape) → SameShape (vector_in a s) (vector_in b s)
same_in a b s = (length-fit s.width _ (a.bits s.width s.signed) ∙ sym (length-fit s.width _ (b.bits s.width s.signed)), refl)

-- the operands of an operator
abbrev pair : Binary → Meaning → Meaning → Shape → Vector × Vector
pair o a b s = operand_values (operands_of o) a b s

fit : (o : Binary) (a b : Meaning) (s : Shape) → OnTrue (takes_same_shape o) (SameShape (pair o a b s).0 (pair o a b s).1)
fit op.Multiply a b s = same_in a b s
fit op.Divide a b s = same_in a b s
fit op.Modulus a b s = same_in a b s
fit op.Add a b s = same_in a b s
fit op.Subtract a b s = same_in a b s
fit op.BitwiseAnd a b s = same_in a b s
fit op.BitwiseXor a b s = same_in a b s
fit op.BitwiseXnor a b s = same_in a b s
fit op.BitwiseNxor a b s = same_in a b s
fit op.BitwiseOr a b s = same_in a b s
fit op.ShiftLeft a b s = tt
fit op.ShiftRight a b s = tt
fit op.ArithmeticShiftLeft a b s = tt
fit op.ArithmeticShiftRight a b s = tt
fit op.LogicalAnd a b s = tt
fit op.LogicalOr a b s = tt
fit op.LessThan a b s = same_in a b (common_shape a.shape b.shape)
fit op.LessOrEqual a b s = same_in a b (common_shape a.shape b.shape)
fit op.GreaterThan a b s = same_in a b (common_shape a.shape b.shape)
fit op.GreaterOrEqual a b s = same_in a b (common_shape a.shape b.shape)
fit op.Equal a b s = same_in a b (common_shape a.shape b.shape)
fit op.NotEqual a b s = same_in a b (common_shape a.shape b.shape)
fit op.CaseEqual a b s = same_in a b (common_shape a.shape b.shape)
fit op.CaseNotEqual a b s = same_in a b (common_shape a.shape b.shape)

-- the same of an answer
pub fit_answer : (f : Option Fault) (o : Binary) (a b : Meaning) (around : Option Shape) → IfOk (unless f (operands_within o a b around)) (λ p. OnTrue (takes_same_shape o) (SameShape p.0.value p.1.value))
fit_answer None o a b around = fit o a b _
fit_answer (Some f) o a b around = tt

-- the sides of a choice
pub fit_sides : (f : Option Fault) (c : Evaluated) (a b : Meaning) (around : Option Shape) → IfOk {T = Evaluated × (Evaluated × Evaluated)} (unless f (c, pair_within a b around)) (λ p. SameShape p.1.0.value p.1.1.value)
fit_sides None c a b around = same_in a b _
fit_sides (Some f) c a b around = tt
