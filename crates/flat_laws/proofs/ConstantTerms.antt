-- The term of a constant expression has the value of the expression, in every design and state.
use Rattle.std.proofs.Common.{◌≡◌, refl, sym, ap, subst, ◌∙◌, ℕ, ◌+◌, ◌&&◌, Bool, true, false, if◌then◌else◌, List, pos, negsuc, Option, Some, None}
use Rattle.std.specs.Prelude.{map}
use Rattle.std.proofs.lemmas.Bool.{and_parts, false≢true}
use Rattle.event_machine.specs.Cell.{Values}
use Rattle.four_state.specs.Arithmetic.{natural, not_bit}
use Rattle.four_state.specs.Operators.{binary_value, choice_value, unary_value}
use Rattle.four_state.specs.Parts.{index, index_of}
use Rattle.four_state.specs.Vector.{all_known, extend, is_one, top, truth}
use Rattle.four_state.specs.declared.bit.Bit.{Bit}
use Rattle.four_state.specs.declared.operator.Binary.{Binary}
use Rattle.design_model.specs.Design.{Design}
use Rattle.design_model.specs.Tree as t
use Rattle.design_model.specs.Tree.{Head, Term}
use Rattle.design_model.specs.Value.{copies, head, joined, value}
use Rattle.verilog_tree.specs.Tree.{Expr, literal, identifier, bit_select, part_select, indexed_part, unary_operator, binary_operator, conditional, concatenation, replication, sign_cast, parentheses, Exprs, no_exprs, an_expr, place_of}
use Rattle.elab_const.specs.Faults as const
use Rattle.elab_const.specs.Faults.{fault_of, first_fault, number_fault, count_fault, is_below_one, are_constant}
use Rattle.elab_const.specs.Meaning.{count_of, entry_bits, in_context, meaning, number_of, operand_shape, operand_shapes, operands_of, parts_of}
use Rattle.elab_const.specs.Scope.{Names, earlier, fault_if, or_else}
use Rattle.elab_const.specs.declared.fault.ConstKind.{ConstKind}
use Rattle.elab_const.specs.declared.fault.ConstKind.TheVariants.{NotConstant}
use Rattle.elab_const.specs.declared.width.Shape.{Shape}
use Rattle.cov_host.specs.declared.place.Place.{Place}
use Rattle.flat_design.specs.Numbering.{condition_nodes, is_counted_condition, nodes, one_if}
use Rattle.flat_design.specs.Scope.{Scope, is_memory_name, look_up, names, names_thing, shape, value_entry}
use Rattle.flat_design.specs.declared.entry.Entry.{Entry}
use Rattle.flat_design.specs.declared.entry.Entry.TheVariants.{Constant as a_constant, Turn as a_turn, Signal as a_signal, Memory as a_memory, LoopVariable as a_loop_variable, Instance as an_instance, NoConstant as no_constant, Faulty as a_faulty_one}
use Rattle.flat_design.specs.Terms.{condition_as, counted_as, name_term, term, terms, word_or_bit}

-- of two faults none is there
neither : (f h : Option _) → earlier f h ≡ None → (f ≡ None) × (h ≡ None)
neither None None e = (refl, refl)
neither None (Some h) e = absurd cc
neither (Some f) None e = absurd cc
neither (Some f) (Some h) e = absurd cc

-- nor the first or the second of two in turn
none_in_turn : (f h : Option _) → or_else f h ≡ None → (f ≡ None) × (h ≡ None)
none_in_turn None h e = (refl, e)
none_in_turn (Some f) h e = absurd cc

-- what is found without a fault began without one
none_found : (g : Names) (o : Option _) (es : Exprs) → first_fault g o es ≡ None → o ≡ None
none_found g o no_exprs h = h
none_found g o (an_expr e es) h = (neither o (fault_of g e) (none_found g (earlier o (fault_of g e)) es h)).0

-- of parts without a fault the first has no fault, nor have the others
sound_parts : (g : Names) (e : Expr) (es : Exprs) → first_fault g None (an_expr e es) ≡ None → (fault_of g e ≡ None) × (first_fault g None es ≡ None)
sound_parts g e es h =
    let first : fault_of g e ≡ None = none_found g (fault_of g e) es h in
    (first, subst (λ o. first_fault g o es ≡ None) first h)

-- a term with a name has the sign of its context
name_signed : (x : Option Entry) (h : Head) → (head (name_term x h)).signed ≡ h.signed
name_signed None h = refl
name_signed (Some (a_constant v)) h = refl
name_signed (Some (a_turn v)) h = refl
name_signed (Some (a_signal s)) h = refl
name_signed (Some (a_memory m)) h = refl
name_signed (Some a_loop_variable) h = refl
name_signed (Some an_instance) h = refl
name_signed (Some no_constant) h = refl
name_signed (Some a_faulty_one) h = refl

select_signed : (b : Bool) (x : ℕ) (h : Head) (of i j : Term) → (head (word_or_bit b x h of i j)).signed ≡ h.signed
select_signed true x h of i j = refl
select_signed false x h of i j = refl

-- each term has the sign of its context
pub term_signed : (base : ℕ) (g : Scope) (e : Expr) (n : ℕ) (s : Shape) → (head (term base g e n s)).signed ≡ s.signed
term_signed base g (literal p v) n s = refl
term_signed base g (identifier p x) n s = name_signed (look_up g x) _
term_signed base g (bit_select p of i) n s = select_signed (is_memory_name g of) _ _ _ _ _
term_signed base g (part_select p of h l b) n s = refl
term_signed base g (indexed_part p of b w up k) n s = refl
term_signed base g (unary_operator p op a) n s = refl
term_signed base g (binary_operator p op a b) n s = refl
term_signed base g (conditional p c a b) n s = refl
term_signed base g (concatenation p es) n s = refl
term_signed base g (replication p k es) n s = refl
term_signed base g (sign_cast p signed a) n s = refl
term_signed base g (parentheses p a) n s = term_signed base g a n s

-- the number of a counted node does not change the value
value_counted : (d : Design) (v : Values Bit) (n : ℕ) (x : Term) → value d v (counted_as n x) ≡ value d v x
value_counted d v n (t.number h k) = refl
value_counted d v n (t.signal h s) = refl
value_counted d v n (t.word h m i) = refl
value_counted d v n (t.bit h of i) = refl
value_counted d v n (t.part h of i j) = refl
value_counted d v n (t.slide h of b w up) = refl
value_counted d v n (t.unary h op a) = refl
value_counted d v n (t.binary h op a b) = refl
value_counted d v n (t.choice h c a b) = refl
value_counted d v n (t.concat h ts) = refl
value_counted d v n (t.repeat h k ts) = refl
value_counted d v n (t.sign h s a) = refl

condition_value : (d : Design) (v : Values Bit) (counted : Bool) (n : ℕ) (c : ℕ → Term) (bs : List Bit) → ((k : ℕ) → value d v (c k) ≡ bs) → value d v (condition_as counted n c) ≡ bs
condition_value d v true n c bs h = value_counted d v n (c (n + 1)) ∙ h (n + 1)
condition_value d v false n c bs h = h n

named_value : (d : Design) (v : Values Bit) (x : Option Entry) (h : Head) → const.is_constant_entry (value_entry x) ≡ true → value d v (name_term x h) ≡ extend h.width
    h.signed (entry_bits (value_entry x))
named_value d v None h c = absurd (false≢true c)
named_value d v (Some (a_constant k)) h c = refl
named_value d v (Some (a_turn k)) h c = refl
named_value d v (Some (a_signal s)) h c = absurd (false≢true c)
named_value d v (Some (a_memory m)) h c = absurd (false≢true c)
named_value d v (Some a_loop_variable) h c = absurd (false≢true c)
named_value d v (Some an_instance) h c = absurd (false≢true c)
named_value d v (Some no_constant) h c = absurd (false≢true c)
named_value d v (Some a_faulty_one) h c = absurd (false≢true c)

binary_same : (op : Binary) (s r : Bool) (a b x y : List Bit) → s ≡ r → a ≡ x → b ≡ y → binary_value op s a b ≡ binary_value op r x y
binary_same op s r a b x y e f g = rw (e, f, g) refl

choice_same : (c z a b x y : List Bit) → c ≡ z → a ≡ x → b ≡ y → choice_value (truth c) a b ≡ choice_value (truth z) x y
choice_same c z a b x y e f g = rw (e, f, g) refl

copies_same : (n k : ℕ) (a b : List Bit) → n ≡ k → a ≡ b → copies n a ≡ copies k b
copies_same n k a b e f = rw (e, f) refl

-- where an index is a number from 1 on, it is the number that its bits say
counted : (known negative : Bool) (n m : ℕ) → is_below_one (index_of (if known then Some (if negative then negsuc m else pos n) else None)) ≡ false → n ≡ count_of
    (index_of (if known then Some (if negative then negsuc m else pos n) else None))
counted true false n m h = refl
counted true true n m h = absurd (false≢true (sym h))
counted false b n m h = absurd (false≢true (sym h))

pub number_natural : (s : Bool) (bs : List Bit) → is_below_one (index_of (index s bs)) ≡ false → natural bs ≡ count_of (index_of (index s bs))
number_natural s bs h = counted (all_known bs) (s && is_one (top bs)) (natural bs) (natural (map not_bit bs)) h

pub no_fault : (b : Bool) (k : ConstKind) (p : Place) → fault_if b k p ≡ None → b ≡ false
no_fault true k p e = absurd cc
no_fault false k p e = refl

-- a count without a fault is a number from 1 on, and has no fault as an expression
pub count_sound : (g : Scope) (p : Place) (e : Expr) → const.is_constant (names g) e ≡ true → count_fault (names g) p e (fault_of (names g) e) ≡ None → (fault_of (names g) e
    ≡ None) × (is_below_one (number_of (names g) e) ≡ false)
count_sound g p e c h =
    let q = none_in_turn (number_fault (names g) e (fault_of (names g) e)) _ h in
    let r = none_in_turn (const.constant_fault (names g) e (fault_of (names g) e)) _ q.0 in
    (subst (λ b. (if b then fault_of (names g) e else fault_if true NotConstant (place_of e)) ≡ None) c r.0, no_fault _ _ _ q.1)

mutual
  pub constant_value : (base : ℕ) (d : Design) (v : Values Bit) (g : Scope) (e : Expr) → const.is_constant (names g) e ≡ true → fault_of (names g) e ≡ None → (n : ℕ) (s : Shape) →
      value d v (term base g e n s) ≡ in_context (meaning (names g) e) s.width s.signed
  constant_value base d v g (literal p k) c f n s = refl
  constant_value base d v g (identifier p x) c f n s = named_value d v (look_up g x) _ c
  constant_value base d v g (bit_select p of i) c f n s = absurd (false≢true c)
  constant_value base d v g (part_select p of h l b) c f n s = absurd (false≢true c)
  constant_value base d v g (indexed_part p of b w up k) c f n s = absurd (false≢true c)
  constant_value base d v g (unary_operator p op a) c f n s =
      ap (λ bs. extend s.width s.signed (unary_value op bs)) (constant_value base d v g a c f (n + one_if (names_thing g a)) (operand_shape op (shape g a) s))
  constant_value base d v g (binary_operator p op a b) c f n s =
      let counted : Bool = names_thing g (binary_operator p op a b) in
      let shapes : Shape × Shape = operand_shapes (operands_of op) (shape g a) (shape g b) s in
      let k = and_parts (const.is_constant (names g) a) (const.is_constant (names g) b) c in
      let q = neither (fault_of (names g) a) (fault_of (names g) b) f in
      ap (extend s.width s.signed) (binary_same op _ _ _ _ _ _ (term_signed base g a (n + one_if counted) shapes.0) (constant_value base d v g a k.0 q.0 (n + one_if counted)
      shapes.0) (constant_value base d v g b k.1 q.1 (n + one_if counted + nodes g a) shapes.1))
  constant_value base d v g (conditional p x a b) c f n s =
      let k = and_parts (const.is_constant (names g) x && const.is_constant (names g) a) (const.is_constant (names g) b) c in
      let l = and_parts (const.is_constant (names g) x) (const.is_constant (names g) a) k.0 in
      let q = neither (fault_of (names g) x) _ f in
      let r = neither (fault_of (names g) a) (fault_of (names g) b) q.1 in
      ap (extend s.width s.signed) (choice_same _ _ _ _ _ _ (condition_value d v (is_counted_condition g x) n (λ m. term base g x m (shape g x)) _ (λ m. constant_value base d v g
      x l.0 q.0 m (shape g x))) (constant_value base d v g a l.1 r.0 (n + condition_nodes g x) s) (constant_value base d v g b k.1 r.1 (n + condition_nodes g x + nodes g a) s))
  constant_value base d v g (concatenation p es) c f n s =
      ap (extend s.width s.signed) (constant_parts base d v g es c (none_in_turn (first_fault (names g) None es) _ f).0 n)
  constant_value base d v g (replication p x es) c f n s =
      let k = and_parts (const.is_constant (names g) x) (are_constant (names g) es) c in
      let q = neither (count_fault (names g) p x (fault_of (names g) x)) (first_fault (names g) None es) (none_in_turn _ _ f).0 in
      let r = count_sound g p x k.0 q.0 in
      ap (extend s.width s.signed) (copies_same _ _ _ _ (ap natural (constant_value base d v g x k.0 r.0 n (shape g x)) ∙ number_natural (shape g x).signed _ r.1)
      (constant_parts base d v g es k.1 q.1 (n + nodes g x)))
  constant_value base d v g (sign_cast p signed a) c f n s = ap (extend s.width s.signed) (constant_value base d v g a c f n (shape g a))
  constant_value base d v g (parentheses p a) c f n s = constant_value base d v g a c f n s

  pub constant_parts : (base : ℕ) (d : Design) (v : Values Bit) (g : Scope) (es : Exprs) → are_constant (names g) es ≡ true → first_fault (names g) None es ≡ None → (n : ℕ) →
      joined d v (terms base g es n) ≡ (parts_of (names g) es).bits
  constant_parts base d v g no_exprs c f n = refl
  constant_parts base d v g (an_expr e es) c f n =
      let k = and_parts (const.is_constant (names g) e) (are_constant (names g) es) c in
      let h = sound_parts (names g) e es f in
      rw (constant_value base d v g e k.0 h.0 n (shape g e), constant_parts base d v g es k.1 h.1 (n + nodes g e)) refl
