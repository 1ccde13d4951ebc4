-- The term of an expression that names constants alone mentions no signal and no memory.
use Rattle.std.proofs.Common.{◌≡◌, ℕ, ◌+◌, ◌-◌, ◌==◌, Bool, true, false, not, ◌&&◌, ◌||◌, if◌then◌else◌, refl, sym, ◌∙◌, Option, Some, None}
use Rattle.std.specs.Prelude.{nat_le, nat_lt}
use Rattle.std.specs.List.{list_all}
use Rattle.std.proofs.lemmas.Bool.{false≢true}
use Rattle.design_model.specs.Mentions.{are_constant, is_constant}
use Rattle.design_model.specs.Shape.{same_bool}
use Rattle.design_model.specs.Tree as t
use Rattle.design_model.specs.Tree.{Head, Term}
use Rattle.design_model.specs.declared.design.Range.{Range}
use Rattle.verilog_tree.specs.Tree.{Expr, Exprs, an_expr, binary_operator, bit_select, concatenation, conditional, identifier, indexed_part, literal, no_exprs, parentheses, part_select, replication, sign_cast, unary_operator}
use Rattle.elab_const.specs.Meaning.{operand_shape, operand_shapes, operands_of}
use Rattle.elab_const.specs.declared.width.Shape.{Shape}
use Rattle.flat_design.specs.Identifiers.{all_identifiers, identifiers}
use Rattle.flat_design.specs.Numbering.{condition_nodes, is_counted_condition, nodes, one_if}
use Rattle.flat_design.specs.Scope.{Scope, is_constant_entry, is_memory_entry, is_memory_name, look_up, names_constants, names_thing, shape}
use Rattle.flat_design.specs.declared.entry.Entry.{Entry}
use Rattle.flat_design.specs.declared.entry.Entry.TheVariants.{Constant as a_constant, Turn as a_turn, Signal as a_signal, Memory as a_memory, LoopVariable as a_loop_variable, Instance as an_instance, NoConstant as no_constant, Faulty as a_faulty_one}
use Rattle.flat_design.specs.Targets.{behind_zero, guarded_term, lowest_index, moved_index, moved_term, with_sign_bit}
use Rattle.flat_design.specs.Terms.{alone, condition_as, counted_as, name_term, term, terms, word_or_bit}
use Rattle.flat_design.proofs.NoConstFaults.{both_true, each, each_of_three, true_both}

name_constant : (o : Option Entry) (h : Head) → is_constant_entry o ≡ true → is_constant (name_term o h) ≡ true
name_constant None h k = absurd (false≢true k)
name_constant (Some (a_constant v)) h k = refl
name_constant (Some (a_turn v)) h k = refl
name_constant (Some (a_signal s)) h k = absurd (false≢true k)
name_constant (Some (a_memory m)) h k = absurd (false≢true k)
name_constant (Some a_loop_variable) h k = absurd (false≢true k)
name_constant (Some an_instance) h k = absurd (false≢true k)
name_constant (Some no_constant) h k = absurd (false≢true k)
name_constant (Some a_faulty_one) h k = absurd (false≢true k)

constant_no_memory : (o : Option Entry) → is_constant_entry o ≡ true → is_memory_entry o ≡ false
constant_no_memory None k = absurd (false≢true k)
constant_no_memory (Some (a_constant v)) k = refl
constant_no_memory (Some (a_turn v)) k = refl
constant_no_memory (Some (a_signal s)) k = absurd (false≢true k)
constant_no_memory (Some (a_memory m)) k = absurd (false≢true k)
constant_no_memory (Some a_loop_variable) k = absurd (false≢true k)
constant_no_memory (Some an_instance) k = absurd (false≢true k)
constant_no_memory (Some no_constant) k = absurd (false≢true k)
constant_no_memory (Some a_faulty_one) k = absurd (false≢true k)

no_memory_name : (g : Scope) (e : Expr) → names_constants g e ≡ true → is_memory_name g e ≡ false
no_memory_name g (identifier p x) h = constant_no_memory (look_up g x) (both_true _ true h).0
no_memory_name g _ h = refl

pub counted_constant : (n : ℕ) (x : Term) → is_constant (counted_as n x) ≡ is_constant x
counted_constant n (t.number h k) = refl
counted_constant n (t.signal h s) = refl
counted_constant n (t.word h m i) = refl
counted_constant n (t.bit h of i) = refl
counted_constant n (t.part h of i j) = refl
counted_constant n (t.slide h of b w up) = refl
counted_constant n (t.unary h op a) = refl
counted_constant n (t.binary h op a b) = refl
counted_constant n (t.choice h c a b) = refl
counted_constant n (t.concat h ts) = refl
counted_constant n (t.repeat h k ts) = refl
counted_constant n (t.sign h s a) = refl

condition_constant : (counted : Bool) (n : ℕ) (c : ℕ → Term) → ((k : ℕ) → is_constant (c k) ≡ true) → is_constant (condition_as counted n c) ≡ true
condition_constant true n c h = counted_constant n (c (n + 1)) ∙ h (n + 1)
condition_constant false n c h = h n

select_constant : (b : Bool) (m : ℕ) (h : Head) (of i j : Term) → b ≡ false → is_constant of ≡ true → is_constant j ≡ true → is_constant (word_or_bit b m h of i j) ≡ true
select_constant false m h of i j e a c = true_both _ _ a c
select_constant true m h of i j e a c = absurd (false≢true (sym e))

mutual
  pub constant_term : (base : ℕ) (g : Scope) (e : Expr) → names_constants g e ≡ true → (n : ℕ) (s : Shape) → is_constant (term base g e n s) ≡ true
  constant_term base g (literal p v) h n s = refl
  constant_term base g (identifier p x) h n s = name_constant (look_up g x) _ (both_true _ true h).0
  constant_term base g (bit_select p of i) h n s =
      let c = each (λ x. is_constant_entry (look_up g x.name)) (identifiers of) (identifiers i) h in
      select_constant (is_memory_name g of) _ _ _ _ _ (no_memory_name g of c.0) (constant_term base g of c.0 n (shape g of)) (constant_term base g i c.1 (n + nodes g of) (shape g i))
  constant_term base g (part_select p of a l b) h n s =
      let c = each_of_three (λ x. is_constant_entry (look_up g x.name)) (identifiers of) (identifiers a) (identifiers l) h in
      true_both _ _ (constant_term base g of c.0 n (shape g of)) (true_both _ _ (constant_term base g a c.1 (n + nodes g of) (shape g a)) (constant_term base g l c.2 (n + nodes g of + nodes g a) (shape g l)))
  constant_term base g (indexed_part p of b w up k) h n s =
      let c = each_of_three (λ x. is_constant_entry (look_up g x.name)) (identifiers of) (identifiers b) (identifiers w) h in
      true_both _ _ (constant_term base g of c.0 n (shape g of)) (true_both _ _ (constant_term base g b c.1 (n + nodes g of) (shape g b)) (constant_term base g w c.2 (n + nodes g of + nodes g b) (shape g w)))
  constant_term base g (unary_operator p op a) h n s = constant_term base g a h (n + one_if (names_thing g a)) (operand_shape op (shape g a) s)
  constant_term base g (binary_operator p op a b) h n s =
      let counted : Bool = names_thing g (binary_operator p op a b) in
      let shapes : Shape × Shape = operand_shapes (operands_of op) (shape g a) (shape g b) s in
      let c = each (λ x. is_constant_entry (look_up g x.name)) (identifiers a) (identifiers b) h in
      true_both _ _ (constant_term base g a c.0 (n + one_if counted) shapes.0) (constant_term base g b c.1 (n + one_if counted + nodes g a) shapes.1)
  constant_term base g (conditional p x a b) h n s =
      let c = each_of_three (λ x. is_constant_entry (look_up g x.name)) (identifiers x) (identifiers a) (identifiers b) h in
      true_both _ _ (condition_constant (is_counted_condition g x) n (λ k. term base g x k (shape g x)) (λ k. constant_term base g x c.0 k (shape g x)))
      (true_both _ _ (constant_term base g a c.1 (n + condition_nodes g x) s) (constant_term base g b c.2 (n + condition_nodes g x + nodes g a) s))
  constant_term base g (concatenation p es) h n s = constant_terms base g es h n
  constant_term base g (replication p x es) h n s =
      let c = each (λ x. is_constant_entry (look_up g x.name)) (identifiers x) (all_identifiers es) h in
      true_both _ _ (constant_term base g x c.0 n (shape g x)) (constant_terms base g es c.1 (n + nodes g x))
  constant_term base g (sign_cast p signed a) h n s = constant_term base g a h n (shape g a)
  constant_term base g (parentheses p a) h n s = constant_term base g a h n s

  pub constant_terms : (base : ℕ) (g : Scope) (es : Exprs) → list_all (λ x. is_constant_entry (look_up g x.name)) (all_identifiers es) ≡ true → (n : ℕ) → are_constant (terms base g es n) ≡ true
  constant_terms base g no_exprs h n = refl
  constant_terms base g (an_expr e es) h n =
      let c = each (λ x. is_constant_entry (look_up g x.name)) (identifiers e) (all_identifiers es) h in
      true_both _ _ (constant_term base g e c.0 n (shape g e)) (constant_terms base g es c.1 (n + nodes g e))

either_constant : (b : Bool) (x y : Term) → is_constant x ≡ true → is_constant y ≡ true → is_constant (if b then x else y) ≡ true
either_constant true x y h k = h
either_constant false x y h k = k

-- so does the index of the lowest bit of an indexed part
pub lowest_constant : (base : ℕ) (g : Scope) (r : Range) (up : Bool) (w : ℕ) (e : Expr) → names_constants g e ≡ true → (n : ℕ) → is_constant (lowest_index base g r up w e n) ≡ true
lowest_constant base g r up w e h n = either_constant (same_bool up (nat_le r.low r.high) || (w == 1)) (alone base g e n) (moved_index base g up (w - 1) e n) own moved_constant
  where
    own : is_constant (alone base g e n) ≡ true
    own = constant_term base g e h n (shape g e)

    with_bit : is_constant (with_sign_bit base g e n) ≡ true
    with_bit = either_constant (nat_lt (shape g e).width 128 && not (shape g e).signed) (behind_zero base g e n) (alone base g e n) (true_both _ true own refl) own

    moved_one : is_constant (moved_term base g up (w - 1) e n) ≡ true
    moved_one = true_both _ true with_bit refl

    moved_constant : is_constant (moved_index base g up (w - 1) e n) ≡ true
    moved_constant = either_constant (nat_lt (shape g e).width 128 || (shape g e).signed) (moved_term base g up (w - 1) e n) (guarded_term base g e n (moved_term base g up (w - 1) e n)) moved_one (true_both _ _ (true_both _ true own refl) moved_one)
