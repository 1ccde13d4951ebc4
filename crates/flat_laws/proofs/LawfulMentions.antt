-- What a term of an expression may read it mentions, and what it mentions is a signal or memory of the scope.
use Rattle.std.proofs.Common.{◌≡◌, ◌⊎◌, inl, inr, ⊎_elim, ℕ, ◌+◌, ◌==◌, Bool, true, false, ◌&&◌, ◌||◌, List, Option, Some, None, refl, sym, ap, ◌∙◌}
use Rattle.std.proofs.lemmas.Bool.{and_parts, eq-eqb, eqb-true, false≢true, or_cases, or_left, or_right}
use Rattle.event_machine.specs.Cell.{Cell}
use Rattle.design_model.specs.Design.{Design}
use Rattle.design_model.specs.Lawful.{may_read, some_may_read}
use Rattle.design_model.specs.Mentions.{mentions, mentions_any}
use Rattle.design_model.specs.Tree as t
use Rattle.design_model.specs.Tree.{Head, Term, Terms}
use Rattle.verilog_tree.specs.Tree.{Expr, Exprs, an_expr, binary_operator, bit_select, concatenation, conditional, identifier, indexed_part, literal, no_exprs, parentheses, part_select, replication, sign_cast, unary_operator}
use Rattle.elab_const.specs.Meaning.{operand_shape, operand_shapes, operands_of}
use Rattle.elab_const.specs.declared.width.Shape.{Shape}
use Rattle.flat_design.specs.Identifiers.{base_name}
use Rattle.flat_design.specs.Numbering.{condition_nodes, is_counted_condition, nodes, one_if}
use Rattle.flat_design.specs.Processes.{all_uncounted, uncounted}
use Rattle.flat_design.specs.Scope.{Scope, is_memory_entry, is_memory_name, look_up, names_thing, shape, thing_number, thing_of}
use Rattle.flat_design.specs.declared.entry.Entry.{Entry}
use Rattle.flat_design.specs.declared.entry.Entry.TheVariants.{Constant as a_constant, Turn as a_turn, Signal as a_signal, Memory as a_memory, LoopVariable as a_loop_variable, Instance as an_instance, NoConstant as no_constant, Faulty as a_faulty_one}
use Rattle.flat_design.specs.declared.entry.MemoryEntry.{MemoryEntry}
use Rattle.flat_design.specs.declared.entry.SignalEntry.{SignalEntry}
use Rattle.flat_design.specs.Terms.{condition_as, counted_as, name_term, term, terms, word_or_bit}

flip : (a b : ℕ) → (a == b) ≡ true → (b == a) ≡ true
flip a b e = eq-eqb b a (sym (eqb-true a b e))

-- one of two tests holds where one of two others does
either_way : (a b x y : Bool) → (a ≡ true → x ≡ true) → (b ≡ true → y ≡ true) → (a || b) ≡ true → (x || y) ≡ true
either_way a b x y f g h = ⊎_elim (λ k. or_left x y (f k)) (λ k. or_right x y (g k)) (or_cases a b h)

first_holds : (a b : Bool) → (a && b) ≡ true → a ≡ true
first_holds a b h = (and_parts a b h).0

mutual
  pub read_mentions : (d : Design) (x : Term) (c : Cell) → may_read d x c ≡ true → mentions c.thing x ≡ true
  read_mentions d (t.number h n) c k = absurd (false≢true k)
  read_mentions d (t.signal h s) c k = flip c.thing s k
  read_mentions d (t.word h m i) c k = either_way (c.thing == m) (may_read d i c) (m == c.thing) (mentions c.thing i) (flip c.thing m) (read_mentions d i c) k
  read_mentions d (t.bit h of i) c k =
      ⊎_elim (λ a. or_right (mentions c.thing of) (mentions c.thing i) (read_mentions d i c a)) (λ a. or_left (mentions c.thing of) (mentions c.thing i) (read_mentions d of c (first_holds _ _ a))) (or_cases (may_read d i c) _ k)
  read_mentions d (t.part h of i j) c k = or_left (mentions c.thing of) _ (read_mentions d of c (first_holds _ _ k))
  read_mentions d (t.slide h of b w up) c k =
      ⊎_elim (λ a. or_right (mentions c.thing of) _ (or_left (mentions c.thing b) (mentions c.thing w) (read_mentions d b c a))) (λ a. or_left (mentions c.thing of) _ (read_mentions d of c (first_holds _ _ a))) (or_cases (may_read d b c) _ k)
  read_mentions d (t.unary h op a) c k = read_mentions d a c k
  read_mentions d (t.binary h op a b) c k = either_way _ _ _ _ (read_mentions d a c) (read_mentions d b c) k
  read_mentions d (t.choice h x a b) c k = either_way _ _ _ _ (read_mentions d x c) (either_way _ _ _ _ (read_mentions d a c) (read_mentions d b c)) k
  read_mentions d (t.concat h ts) c k = some_read_mentions d ts c k
  read_mentions d (t.repeat h n ts) c k = or_right (mentions c.thing n) _ (some_read_mentions d ts c k)
  read_mentions d (t.sign h s a) c k = read_mentions d a c k

  some_read_mentions : (d : Design) (xs : Terms) (c : Cell) → some_may_read d xs c ≡ true → mentions_any c.thing xs ≡ true
  some_read_mentions d t.no_terms c k = k
  some_read_mentions d (t.a_term x xs) c k = either_way _ _ _ _ (read_mentions d x c) (some_read_mentions d xs c) k

mutual
  pub mentions_uncounted : (y : ℕ) (x : Term) → mentions y (uncounted x) ≡ mentions y x
  mentions_uncounted y (t.number h n) = refl
  mentions_uncounted y (t.signal h s) = refl
  mentions_uncounted y (t.word h m i) = rw (mentions_uncounted y i) refl
  mentions_uncounted y (t.bit h of i) = rw (mentions_uncounted y of, mentions_uncounted y i) refl
  mentions_uncounted y (t.part h of i j) = rw (mentions_uncounted y of, mentions_uncounted y i, mentions_uncounted y j) refl
  mentions_uncounted y (t.slide h of b w up) = rw (mentions_uncounted y of, mentions_uncounted y b, mentions_uncounted y w) refl
  mentions_uncounted y (t.unary h op a) = mentions_uncounted y a
  mentions_uncounted y (t.binary h op a b) = rw (mentions_uncounted y a, mentions_uncounted y b) refl
  mentions_uncounted y (t.choice h c a b) = rw (mentions_uncounted y c, mentions_uncounted y a, mentions_uncounted y b) refl
  mentions_uncounted y (t.concat h ts) = all_mention_uncounted y ts
  mentions_uncounted y (t.repeat h k ts) = rw (mentions_uncounted y k, all_mention_uncounted y ts) refl
  mentions_uncounted y (t.sign h s a) = mentions_uncounted y a

  all_mention_uncounted : (y : ℕ) (xs : Terms) → mentions_any y (all_uncounted xs) ≡ mentions_any y xs
  all_mention_uncounted y t.no_terms = refl
  all_mention_uncounted y (t.a_term x xs) = rw (mentions_uncounted y x, all_mention_uncounted y xs) refl

-- a signal or memory of the scope by this number
abbrev pub IsNamed : ℕ → Scope → ℕ → Type 0
IsNamed base g y = ((x : List ℕ) × (s : SignalEntry) × (look_up g x ≡ Some (a_signal s)) × (s.number ≡ y)) ⊎ ((x : List ℕ) × (m : MemoryEntry) × (look_up g x ≡ Some (a_memory m)) × (base + m.number ≡ y))

name_mentions : (base : ℕ) (g : Scope) (y : ℕ) (x : List ℕ) (h : Head) (o : Option Entry) → look_up g x ≡ o → mentions y (name_term o h) ≡ true → IsNamed base g y
name_mentions base g y x h (Some (a_signal s)) is k = inl (x, s, is, eqb-true s.number y k)
name_mentions base g y x h None is k = absurd (false≢true k)
name_mentions base g y x h (Some (a_constant v)) is k = absurd (false≢true k)
name_mentions base g y x h (Some (a_turn v)) is k = absurd (false≢true k)
name_mentions base g y x h (Some (a_memory m)) is k = absurd (false≢true k)
name_mentions base g y x h (Some a_loop_variable) is k = absurd (false≢true k)
name_mentions base g y x h (Some an_instance) is k = absurd (false≢true k)
name_mentions base g y x h (Some no_constant) is k = absurd (false≢true k)
name_mentions base g y x h (Some a_faulty_one) is k = absurd (false≢true k)

-- what is indexed as a memory is one
memory_of : (o : Option Entry) → is_memory_entry o ≡ true → (m : MemoryEntry) × (o ≡ Some (a_memory m))
memory_of (Some (a_memory m)) h = (m, refl)
memory_of None h = absurd (false≢true h)
memory_of (Some (a_signal s)) h = absurd (false≢true h)
memory_of (Some (a_constant v)) h = absurd (false≢true h)
memory_of (Some (a_turn v)) h = absurd (false≢true h)
memory_of (Some a_loop_variable) h = absurd (false≢true h)
memory_of (Some an_instance) h = absurd (false≢true h)
memory_of (Some no_constant) h = absurd (false≢true h)
memory_of (Some a_faulty_one) h = absurd (false≢true h)

pub memory_name : (g : Scope) (e : Expr) → is_memory_name g e ≡ true → (m : MemoryEntry) × (look_up g (base_name e).name ≡ Some (a_memory m))
memory_name g (identifier p x) h = memory_of (look_up g x) h
memory_name g _ h = absurd (false≢true h)

counted_mentions : (y n : ℕ) (x : Term) → mentions y (counted_as n x) ≡ mentions y x
counted_mentions y n (t.number h k) = refl
counted_mentions y n (t.signal h s) = refl
counted_mentions y n (t.word h m i) = refl
counted_mentions y n (t.bit h of i) = refl
counted_mentions y n (t.part h of i j) = refl
counted_mentions y n (t.slide h of b w up) = refl
counted_mentions y n (t.unary h op a) = refl
counted_mentions y n (t.binary h op a b) = refl
counted_mentions y n (t.choice h c a b) = refl
counted_mentions y n (t.concat h ts) = refl
counted_mentions y n (t.repeat h k ts) = refl
counted_mentions y n (t.sign h s a) = refl

pub condition_mentions : (P : Type 0) (y : ℕ) (counted : Bool) (n : ℕ) (c : ℕ → Term) → ((k : ℕ) → mentions y (c k) ≡ true → P) → mentions y (condition_as counted n c) ≡ true → P
condition_mentions P y true n c f h = f (n + 1) (sym (counted_mentions y n (c (n + 1))) ∙ h)
condition_mentions P y false n c f h = f n h

select_mentions : (P : Type 0) (y : ℕ) (b : Bool) (m : ℕ) (h : Head) (of i j : Term) → (b ≡ true → m ≡ y → P) → (mentions y of ≡ true → P) → (mentions y i ≡ true → P) → (mentions y j ≡ true → P) → mentions y (word_or_bit b m h of i j) ≡ true → P
select_mentions P y true m h of i j f k l r e = ⊎_elim (λ a. f refl (eqb-true m y a)) l (or_cases _ _ e)
select_mentions P y false m h of i j f k l r e = ⊎_elim k r (or_cases _ _ e)

mutual
  pub term_mentions : (base : ℕ) (g : Scope) (y : ℕ) (e : Expr) (n : ℕ) (s : Shape) → mentions y (term base g e n s) ≡ true → IsNamed base g y
  term_mentions base g y (literal p v) n s k = absurd (false≢true k)
  term_mentions base g y (identifier p x) n s k = name_mentions base g y x _ (look_up g x) refl k
  term_mentions base g y (bit_select p of i) n s k =
      select_mentions (IsNamed base g y) y (is_memory_name g of) _ _ (term base g of n (shape g of)) (term base g i n (shape g i)) (term base g i (n + nodes g of) (shape g i))
      (λ is e. let m = memory_name g of is in inr ((base_name of).name, m.0, m.1, sym (ap (λ o. thing_number base (thing_of o)) m.1) ∙ e))
      (term_mentions base g y of n (shape g of)) (term_mentions base g y i n (shape g i)) (term_mentions base g y i (n + nodes g of) (shape g i)) k
  term_mentions base g y (part_select p of h l b) n s k =
      ⊎_elim (term_mentions base g y of n (shape g of)) (λ a. ⊎_elim (term_mentions base g y h (n + nodes g of) (shape g h)) (term_mentions base g y l (n + nodes g of + nodes g h) (shape g l)) (or_cases _ _ a)) (or_cases _ _ k)
  term_mentions base g y (indexed_part p of b w up q) n s k =
      ⊎_elim (term_mentions base g y of n (shape g of)) (λ a. ⊎_elim (term_mentions base g y b (n + nodes g of) (shape g b)) (term_mentions base g y w (n + nodes g of + nodes g b) (shape g w)) (or_cases _ _ a)) (or_cases _ _ k)
  term_mentions base g y (unary_operator p op a) n s k = term_mentions base g y a (n + one_if (names_thing g a)) (operand_shape op (shape g a) s) k
  term_mentions base g y (binary_operator p op a b) n s k =
      let counted : Bool = names_thing g (binary_operator p op a b) in
      let shapes : Shape × Shape = operand_shapes (operands_of op) (shape g a) (shape g b) s in
      ⊎_elim (term_mentions base g y a (n + one_if counted) shapes.0) (term_mentions base g y b (n + one_if counted + nodes g a) shapes.1) (or_cases _ _ k)
  term_mentions base g y (conditional p x a b) n s k =
      ⊎_elim (condition_mentions (IsNamed base g y) y (is_counted_condition g x) n (λ m. term base g x m (shape g x)) (λ m. term_mentions base g y x m (shape g x)))
      (λ r. ⊎_elim (term_mentions base g y a (n + condition_nodes g x) s) (term_mentions base g y b (n + condition_nodes g x + nodes g a) s) (or_cases _ _ r)) (or_cases _ _ k)
  term_mentions base g y (concatenation p es) n s k = terms_mention base g y es n k
  term_mentions base g y (replication p x es) n s k = ⊎_elim (term_mentions base g y x n (shape g x)) (terms_mention base g y es (n + nodes g x)) (or_cases _ _ k)
  term_mentions base g y (sign_cast p signed a) n s k = term_mentions base g y a n (shape g a) k
  term_mentions base g y (parentheses p a) n s k = term_mentions base g y a n s k

  terms_mention : (base : ℕ) (g : Scope) (y : ℕ) (es : Exprs) (n : ℕ) → mentions_any y (terms base g es n) ≡ true → IsNamed base g y
  terms_mention base g y no_exprs n k = absurd (false≢true k)
  terms_mention base g y (an_expr e es) n k = ⊎_elim (term_mentions base g y e n (shape g e)) (terms_mention base g y es (n + nodes g e)) (or_cases _ _ k)
