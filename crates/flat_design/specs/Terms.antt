-- The term that an expression becomes: its form, and the width and sign that each context gives it (clauses 4.4, 4.5).
use Rattle.std.specs.Prelude.{ℕ, ◌+◌, max, Bool, true, false, if◌then◌else◌, [], Option, Some, None}
use Rattle.cov_host.specs.declared.place.Place.{Place}
use Rattle.design_model.specs.Tree as t
use Rattle.design_model.specs.Tree.{Head, Term, Terms, no_terms, a_term}
use Rattle.verilog_tree.specs.Tree.{Expr, literal, identifier, bit_select, part_select, indexed_part, unary_operator, binary_operator, conditional, concatenation, replication, sign_cast, parentheses, Exprs, no_exprs, an_expr}
use Rattle.elab_const.specs.declared.width.Shape.{Shape}
use Rattle.elab_const.specs.Meaning.{shape_as, operand_shape, operand_shapes, operands_of}
use Rattle.flat_design.specs.Identifiers.{base_name}
use Rattle.flat_design.specs.Scope.{Scope, Entry, a_constant, a_turn, a_signal, look_up, shape, names_thing, is_memory_name, thing_of, thing_number}
use Rattle.flat_design.specs.Numbering.{nodes, condition_nodes, is_counted_condition, one_if}

-- what a term at this place has, in a context of this shape
abbrev pub head_as : Place → Shape → Option ℕ → Head
head_as p s n = record { place = p; width = s.width; signed = s.signed; node = n }

-- the number of a node that is counted
abbrev pub number_if : Bool → ℕ → Option ℕ
number_if test n = if test then Some n else None

-- the same with this number as a counted node
abbrev pub with_node : ℕ → Head → Head
with_node n h = record { place = h.place; width = h.width; signed = h.signed; node = Some n }

-- the term with this number as a counted node
abbrev pub counted_as : ℕ → Term → Term
counted_as n (t.number h v) = t.number (with_node n h) v
counted_as n (t.signal h s) = t.signal (with_node n h) s
counted_as n (t.word h m i) = t.word (with_node n h) m i
counted_as n (t.bit h of i) = t.bit (with_node n h) of i
counted_as n (t.part h of i j) = t.part (with_node n h) of i j
counted_as n (t.slide h of b w up) = t.slide (with_node n h) of b w up
counted_as n (t.unary h op a) = t.unary (with_node n h) op a
counted_as n (t.binary h op a b) = t.binary (with_node n h) op a b
counted_as n (t.choice h c a b) = t.choice (with_node n h) c a b
counted_as n (t.concat h ts) = t.concat (with_node n h) ts
counted_as n (t.repeat h k ts) = t.repeat (with_node n h) k ts
counted_as n (t.sign h s a) = t.sign (with_node n h) s a

-- a condition by its term in no context, which is a counted node of its own where it is no operator
abbrev pub condition_as : Bool → ℕ → (ℕ → Term) → Term
condition_as counted n c = if counted then counted_as n (c (n + 1)) else c n

-- the term that a name becomes
abbrev pub name_term : Option Entry → Head → Term
name_term (Some (a_constant v)) h = t.number h v
name_term (Some (a_turn v)) h = t.number h v
name_term (Some (a_signal x)) h = t.signal h x.number
name_term _ h = t.number h (record { bits = []; signed = false })

-- a word of the memory with this number, or a bit
abbrev pub word_or_bit : Bool → ℕ → Head → Term → Term → Term → Term
word_or_bit true m h of word_index bit_index = t.word h m word_index
word_or_bit false m h of word_index bit_index = t.bit h of bit_index

-- the term in a context of this shape; memories are numbered from base on, and its counted nodes from n on, an operator before its operands
abbrev mutual
  pub term : ℕ → Scope → Expr → ℕ → Shape → Term
  term base g (literal p v) n s = t.number (head_as p s None) v
  term base g (identifier p x) n s = name_term (look_up g x) (head_as p s None)
  term base g (bit_select p of i) n s =
      word_or_bit (is_memory_name g of) (thing_number base (thing_of (look_up g (base_name of).name))) (head_as p s None) (term base g of n (shape g of)) (term base g i n (shape g i)) (term base g i (n + nodes g of) (shape g i))
  term base g (part_select p of h l b) n s = t.part (head_as p s None) (term base g of n (shape g of)) (term base g h (n + nodes g of) (shape g h)) (term base g l (n + nodes g of + nodes g h) (shape g l))
  term base g (indexed_part p of b w up k) n s =
      t.slide (head_as p s None) (term base g of n (shape g of)) (term base g b (n + nodes g of) (shape g b)) (term base g w (n + nodes g of + nodes g b) (shape g w)) up
  term base g (unary_operator p op a) n s = t.unary (head_as p s (number_if (names_thing g a) n)) op (term base g a (n + one_if (names_thing g a)) (operand_shape op (shape g a) s))
  term base g (binary_operator p op a b) n s =
      let counted : Bool = names_thing g (binary_operator p op a b) in
      let shapes : Shape × Shape = operand_shapes (operands_of op) (shape g a) (shape g b) s in
      t.binary (head_as p s (number_if counted n)) op (term base g a (n + one_if counted) shapes.0) (term base g b (n + one_if counted + nodes g a) shapes.1)
  term base g (conditional p c a b) n s =
      t.choice (head_as p s None) (condition_as (is_counted_condition g c) n (λ k. term base g c k (shape g c))) (term base g a (n + condition_nodes g c) s) (term base g b (n + condition_nodes g c + nodes g a) s)
  term base g (concatenation p es) n s = t.concat (head_as p s None) (terms base g es n)
  term base g (replication p k es) n s = t.repeat (head_as p s None) (term base g k n (shape g k)) (terms base g es (n + nodes g k))
  term base g (sign_cast p signed a) n s = t.sign (head_as p s None) signed (term base g a n (shape g a))
  term base g (parentheses p a) n s = term base g a n s

  pub terms : ℕ → Scope → Exprs → ℕ → Terms
  terms base g no_exprs n = no_terms
  terms base g (an_expr e es) n = a_term (term base g e n (shape g e)) (terms base g es (n + nodes g e))

-- in no context
abbrev pub alone : ℕ → Scope → Expr → ℕ → Term
alone base g e n = term base g e n (shape g e)

-- the condition of an if
abbrev pub condition_term : ℕ → Scope → Expr → ℕ → Term
condition_term base g c n = condition_as (is_counted_condition g c) n (alone base g c)

-- a right side: in the context of its target's width
abbrev pub right_side : ℕ → Scope → ℕ → Expr → ℕ → Term
right_side base g width e n = term base g e n (shape_as (max width (shape g e).width) (shape g e).signed)
