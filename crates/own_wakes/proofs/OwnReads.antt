-- What an expression without self assignments mentions of a signal it names by bits that are not driven.
use Rattle.std.proofs.Common.{◌≡◌, ◌⊎◌, inl, inr, ⊎_elim, ℕ, ◌+◌, ◌<◌, ◌==◌, Bool, true, false, ◌&&◌, ◌||◌, if◌then◌else◌, List, [], ◌∷◌, ◌++◌, length, Option, Some, None, refl, sym, ap, ◌∙◌, subst, arith}
use Rattle.std.proofs.lemmas.Bool.{and_parts, eqb-true, false≢true, or_cases}
use Rattle.cov_host.specs.declared.place.Place.{Place}
use Rattle.design_model.specs.Design.{Design}
use Rattle.design_model.specs.Mentions.{are_constant, is_constant, mentions, mentions_any}
use Rattle.design_model.specs.Tree as t
use Rattle.design_model.specs.Tree.{Head, Term, Terms}
use Rattle.verilog_tree.specs.Tree.{Expr, Exprs, an_expr, binary_operator, bit_select, concatenation, conditional, identifier, indexed_part, literal, no_exprs, parentheses, part_select, replication, sign_cast, unary_operator}
use Rattle.elab_const.specs.Meaning.{operand_shape, operand_shapes, operands_of}
use Rattle.elab_const.specs.declared.width.Shape.{Shape}
use Rattle.flat_design.specs.Expressions.{all_faults, bound_faults, faults, index_faults, number_faults, select_faults, selected, width_faults, word_faults}
use Rattle.flat_design.specs.Fault.{none}
use Rattle.flat_design.specs.Identifiers.{base_name}
use Rattle.flat_design.specs.Loops.{is_identifier}
use Rattle.flat_design.specs.Numbering.{condition_nodes, is_counted_condition, nodes, one_if}
use Rattle.flat_design.specs.Processes.{all_self_reads, self_read, self_reads}
use Rattle.flat_design.specs.Scope.{Scope, is_memory_name, look_up, names_constants, names_thing, shape, thing_number, thing_of}
use Rattle.flat_design.specs.declared.entry.Entry.{Entry}
use Rattle.flat_design.specs.declared.entry.Entry.TheVariants.{Constant as a_constant, Turn as a_turn, Signal as a_signal, Memory as a_memory, LoopVariable as a_loop_variable, Instance as an_instance, NoConstant as no_constant, Faulty as a_faulty_one}
use Rattle.flat_design.specs.declared.entry.SignalEntry.{SignalEntry}
use Rattle.flat_design.specs.Targets.{Writing}
use Rattle.flat_design.specs.Terms.{condition_as, head_as, name_term, term, terms, word_or_bit}
use Rattle.flat_design.proofs.NoConstFaults.{both_none, four_none, number_clean, width_clean}
use Rattle.flat_laws.proofs.Freedom.{both_empty}
use Rattle.flat_laws.proofs.LawfulConstants.{constant_term}
use Rattle.flat_laws.proofs.LawfulDrivers.{IsPlaced}
use Rattle.flat_laws.proofs.LawfulMentions.{condition_mentions, memory_name}
use Rattle.flat_laws.proofs.LawfulSound.{names_sound}
use Rattle.flat_laws.proofs.SelectNumbers.{bound_number}

-- ---- a constant mentions nothing

mutual
  pub constant_mentions : (y : ℕ) (x : Term) → is_constant x ≡ true → mentions y x ≡ true → {P : Type 0} → P
  constant_mentions y (t.number h n) c k = absurd (false≢true k)
  constant_mentions y (t.signal h s) c k = absurd (false≢true c)
  constant_mentions y (t.word h m i) c k = absurd (false≢true c)
  constant_mentions y (t.bit h of i) c k = let p = and_parts (is_constant of) (is_constant i) c in ⊎_elim (λ a. constant_mentions y of p.0 a) (λ a. constant_mentions y i p.1 a) (or_cases _ _ k)
  constant_mentions y (t.part h of i j) c k =
      let p = and_parts (is_constant of) _ c in
      let q = and_parts (is_constant i) (is_constant j) p.1 in
      ⊎_elim (λ a. constant_mentions y of p.0 a) (λ a. ⊎_elim (λ b. constant_mentions y i q.0 b) (λ b. constant_mentions y j q.1 b) (or_cases _ _ a)) (or_cases _ _ k)
  constant_mentions y (t.slide h of b w up) c k =
      let p = and_parts (is_constant of) _ c in
      let q = and_parts (is_constant b) (is_constant w) p.1 in
      ⊎_elim (λ a. constant_mentions y of p.0 a) (λ a. ⊎_elim (λ e. constant_mentions y b q.0 e) (λ e. constant_mentions y w q.1 e) (or_cases _ _ a)) (or_cases _ _ k)
  constant_mentions y (t.unary h op a) c k = constant_mentions y a c k
  constant_mentions y (t.binary h op a b) c k = let p = and_parts (is_constant a) (is_constant b) c in ⊎_elim (λ e. constant_mentions y a p.0 e) (λ e. constant_mentions y b p.1 e) (or_cases _ _ k)
  constant_mentions y (t.choice h x a b) c k =
      let p = and_parts (is_constant x) _ c in
      let q = and_parts (is_constant a) (is_constant b) p.1 in
      ⊎_elim (λ e. constant_mentions y x p.0 e) (λ e. ⊎_elim (λ f. constant_mentions y a q.0 f) (λ f. constant_mentions y b q.1 f) (or_cases _ _ e)) (or_cases _ _ k)
  constant_mentions y (t.concat h ts) c k = constants_mention y ts c k
  constant_mentions y (t.repeat h n ts) c k = let p = and_parts (is_constant n) (are_constant ts) c in ⊎_elim (λ a. constant_mentions y n p.0 a) (λ a. constants_mention y ts p.1 a) (or_cases _ _ k)
  constant_mentions y (t.sign h s a) c k = constant_mentions y a c k

  constants_mention : (y : ℕ) (xs : Terms) → are_constant xs ≡ true → mentions_any y xs ≡ true → {P : Type 0} → P
  constants_mention y t.no_terms c k = absurd (false≢true k)
  constants_mention y (t.a_term x xs) c k = let p = and_parts (is_constant x) (are_constant xs) c in ⊎_elim (λ a. constant_mentions y x p.0 a) (λ a. constants_mention y xs p.1 a) (or_cases _ _ k)

-- ---- what is read

-- a name or a select that reads signal y, and reads nothing that these targets drive
pub record IsRead (g : Scope) (ws : List Writing) (y : ℕ) : Type 0 where
  pub part : Expr
  pub entry : SignalEntry
  pub found : look_up g (base_name part).name ≡ Some (a_signal entry)
  pub number : entry.number ≡ y
  pub free : self_read g ws part ≡ []

-- a name that mentions y is that of the signal y
named_signal : (y : ℕ) (o : Option Entry) (h : Head) → mentions y (name_term o h) ≡ true → (s : SignalEntry) × (o ≡ Some (a_signal s)) × (s.number ≡ y)
named_signal y (Some (a_signal s)) h k = (s, refl, eqb-true s.number y k)
named_signal y None h k = absurd (false≢true k)
named_signal y (Some (a_constant v)) h k = absurd (false≢true k)
named_signal y (Some (a_turn v)) h k = absurd (false≢true k)
named_signal y (Some (a_memory m)) h k = absurd (false≢true k)
named_signal y (Some a_loop_variable) h k = absurd (false≢true k)
named_signal y (Some an_instance) h k = absurd (false≢true k)
named_signal y (Some no_constant) h k = absurd (false≢true k)
named_signal y (Some a_faulty_one) h k = absurd (false≢true k)

module _ (d : Design) (base : ℕ) (g : Scope) (ws : List Writing) (y : ℕ) (h : IsPlaced d base g) (less : y < length d.signals) where
  -- an expression without faults, of which no read is reported, reads y without what is driven where it mentions it
  abbrev Reads : Expr → ℕ → Shape → Type 0
  Reads e n s = faults g e ≡ [] → self_reads g ws e ≡ [] → mentions y (term base g e n s) ≡ true → IsRead g ws y

  -- a number without faults mentions nothing
  pub number_mentions : (e : Expr) (n : ℕ) → number_faults g e (faults g e) ≡ [] → mentions y (term base g e n (shape g e)) ≡ true → {P : Type 0} → P
  number_mentions e n free k = constant_mentions y (term base g e n (shape g e)) (constant_term base g e (number_clean g e (faults g e) (ap none free) (names_sound g h.good.sound e)).0 n (shape g e)) k

  -- what is selected from: a name, which the select reads, or a select of its own
  selected_reads : (of : Expr) (n : ℕ) (e : Expr) → (base_name e).name ≡ (base_name of).name → self_read g ws e ≡ [] → (self_reads g ws of ≡ [] → mentions y (term base g of n (shape g of)) ≡ true → IsRead g ws y) →
      (if is_identifier of then [] else self_reads g ws of) ≡ [] → mentions y (term base g of n (shape g of)) ≡ true → IsRead g ws y
  selected_reads (identifier p x) n e same free deeper told k =
      let q = named_signal y (look_up g x) _ k in record { part = e; entry = q.0; found = ap (look_up g) same ∙ q.1; number = q.2; free = free }
  selected_reads _ n e same free deeper told k = deeper told k

  read_bit : (p : Place) (of i : Expr) (n : ℕ) (s : Shape) → ((m : ℕ) → Reads of m (shape g of)) → ((m : ℕ) → Reads i m (shape g i)) → Reads (bit_select p of i) n s
  read_bit p of i n s deeper_of deeper_i sound told = by_kind (is_memory_name g of) refl sound
    where
      parts : ((self_read g ws (bit_select p of i) ++ (if is_identifier of then [] else self_reads g ws of)) ≡ []) × (self_reads g ws i ≡ [])
      parts = both_empty (self_read g ws (bit_select p of i) ++ (if is_identifier of then [] else self_reads g ws of)) (self_reads g ws i) told

      first : (self_read g ws (bit_select p of i) ≡ []) × ((if is_identifier of then [] else self_reads g ws of) ≡ [])
      first = both_empty (self_read g ws (bit_select p of i)) (if is_identifier of then [] else self_reads g ws of) parts.0

      by_kind : (b : Bool) → is_memory_name g of ≡ b → (if b then word_faults g (look_up g (base_name of).name) (base_name of) i (faults g i) else faults g of ++ select_faults (selected g of) ++ faults g i ++ index_faults g (selected g of) i (faults g i)) ≡ [] →
          mentions y (word_or_bit b (thing_number base (thing_of (look_up g (base_name of).name))) (head_as p s None) (term base g of n (shape g of)) (term base g i n (shape g i)) (term base g i (n + nodes g of) (shape g i))) ≡ true → IsRead g ws y
      by_kind true is f k =
          let m = memory_name g of is in
          let fi = (both_empty (faults g i) _ (subst (λ o. word_faults g o (base_name of) i (faults g i) ≡ []) m.1 f)).0 in
          ⊎_elim (λ a. let same : base + m.0.number ≡ y = sym (ap (λ o. thing_number base (thing_of o)) m.1) ∙ eqb-true _ y a in absurd (omega (arith, h.base_is))) (deeper_i n fi parts.1) (or_cases _ _ k)
      by_kind false is f k =
          let f1 = both_empty (faults g of ++ select_faults (selected g of) ++ faults g i) _ f in
          let f2 = both_empty (faults g of ++ select_faults (selected g of)) (faults g i) f1.0 in
          let f3 = both_empty (faults g of) (select_faults (selected g of)) f2.0 in
          ⊎_elim (selected_reads of n (bit_select p of i) refl first.0 (deeper_of n f3.0) first.1) (deeper_i (n + nodes g of) f2.1 parts.1) (or_cases _ _ k)

  read_part : (p : Place) (of a l : Expr) (b : Place) (n : ℕ) (s : Shape) → ((m : ℕ) → Reads of m (shape g of)) → Reads (part_select p of a l b) n s
  read_part p of a l b n s deeper sound told k =
      let high : Term = term base g a (n + nodes g of) (shape g a) in
      let low : Term = term base g l (n + nodes g of + nodes g a) (shape g l) in
      let first = both_empty (self_read g ws (part_select p of a l b)) (if is_identifier of then [] else self_reads g ws of) told in
      let f = both_empty (faults g of) _ sound in
      let e = four_none (select_faults (selected g of)) (bound_faults g b a (faults g a)) (bound_faults g b l (faults g l)) _ (ap none f.1) in
      let constant : (x : Expr) (m : ℕ) → none (bound_faults g b x (faults g x)) ≡ true → is_constant (term base g x m (shape g x)) ≡ true = λ x m none. constant_term base g x (bound_number d base g h.good b x none).1 m (shape g x) in
      ⊎_elim (selected_reads of n (part_select p of a l b) refl first.0 (deeper n f.0) first.1)
      (λ r. ⊎_elim (λ q. constant_mentions y high (constant a (n + nodes g of) e.1) q) (λ q. constant_mentions y low (constant l (n + nodes g of + nodes g a) e.2) q) (or_cases (mentions y high) (mentions y low) r)) (or_cases _ _ k)

  read_slide : (p : Place) (of i w : Expr) (up : Bool) (b : Place) (n : ℕ) (s : Shape) → ((m : ℕ) → Reads of m (shape g of)) → ((m : ℕ) → Reads i m (shape g i)) → Reads (indexed_part p of i w up b) n s
  read_slide p of i w up b n s deeper_of deeper_i sound told k =
      let parts = both_empty (self_read g ws (indexed_part p of i w up b) ++ (if is_identifier of then [] else self_reads g ws of)) (self_reads g ws i) told in
      let first = both_empty (self_read g ws (indexed_part p of i w up b)) (if is_identifier of then [] else self_reads g ws of) parts.0 in
      let f = both_empty (faults g of) _ sound in
      let f1 = both_empty (select_faults (selected g of) ++ faults g i ++ width_faults g b w (faults g w)) _ f.1 in
      let f2 = both_empty (select_faults (selected g of) ++ faults g i) (width_faults g b w (faults g w)) f1.0 in
      let f3 = both_empty (select_faults (selected g of)) (faults g i) f2.0 in
      let clean = width_clean g b w (faults g w) (ap none f2.1) (names_sound g h.good.sound w) in
      let names = (number_clean g w (faults g w) clean.0 (names_sound g h.good.sound w)).0 in
      ⊎_elim (selected_reads of n (indexed_part p of i w up b) refl first.0 (deeper_of n f.0) first.1)
      (λ r. ⊎_elim (deeper_i (n + nodes g of) f3.1 parts.1) (λ q. constant_mentions y (term base g w (n + nodes g of + nodes g i) (shape g w)) (constant_term base g w names (n + nodes g of + nodes g i) (shape g w)) q) (or_cases _ _ r)) (or_cases _ _ k)

  mutual
    pub reads_of : (e : Expr) (n : ℕ) (s : Shape) → Reads e n s
    reads_of (literal p v) n s sound told k = absurd (false≢true k)
    reads_of (identifier p x) n s sound told k = let q = named_signal y (look_up g x) _ k in record { part = identifier p x; entry = q.0; found = q.1; number = q.2; free = told }
    reads_of (bit_select p of i) n s sound told k = read_bit p of i n s (λ m. reads_of of m (shape g of)) (λ m. reads_of i m (shape g i)) sound told k
    reads_of (part_select p of a l b) n s sound told k = read_part p of a l b n s (λ m. reads_of of m (shape g of)) sound told k
    reads_of (indexed_part p of i w up b) n s sound told k = read_slide p of i w up b n s (λ m. reads_of of m (shape g of)) (λ m. reads_of i m (shape g i)) sound told k
    reads_of (unary_operator p op a) n s sound told k = reads_of a (n + one_if (names_thing g a)) (operand_shape op (shape g a) s) sound told k
    reads_of (binary_operator p op a b) n s sound told k =
        let counted : Bool = names_thing g (binary_operator p op a b) in
        let shapes : Shape × Shape = operand_shapes (operands_of op) (shape g a) (shape g b) s in
        let f = both_empty (faults g a) (faults g b) sound in
        let q = both_empty (self_reads g ws a) (self_reads g ws b) told in
        ⊎_elim (reads_of a (n + one_if counted) shapes.0 f.0 q.0) (reads_of b (n + one_if counted + nodes g a) shapes.1 f.1 q.1) (or_cases _ _ k)
    reads_of (conditional p x a b) n s sound told k =
        let f = both_empty (faults g x ++ faults g a) (faults g b) sound in
        let f1 = both_empty (faults g x) (faults g a) f.0 in
        let q = both_empty (self_reads g ws x ++ self_reads g ws a) (self_reads g ws b) told in
        let q1 = both_empty (self_reads g ws x) (self_reads g ws a) q.0 in
        ⊎_elim (condition_mentions (IsRead g ws y) y (is_counted_condition g x) n (λ m. term base g x m (shape g x)) (λ m. reads_of x m (shape g x) f1.0 q1.0))
        (λ r. ⊎_elim (reads_of a (n + condition_nodes g x) s f1.1 q1.1) (reads_of b (n + condition_nodes g x + nodes g a) s f.1 q.1) (or_cases _ _ r)) (or_cases _ _ k)
    reads_of (concatenation p es) n s sound told k = all_reads_of es n (both_empty (all_faults g es) _ sound).0 told k
    reads_of (replication p c es) n s sound told k =
        let f = both_empty (all_faults g es) _ sound in
        let free = both_empty (number_faults g c (faults g c)) _ f.1 in
        ⊎_elim (λ a. number_mentions c n free.0 a) (all_reads_of es (n + nodes g c) f.0 told) (or_cases _ _ k)
    reads_of (sign_cast p signed a) n s sound told k = reads_of a n (shape g a) sound told k
    reads_of (parentheses p a) n s sound told k = reads_of a n s sound told k

    all_reads_of : (es : Exprs) (n : ℕ) → all_faults g es ≡ [] → all_self_reads g ws es ≡ [] → mentions_any y (terms base g es n) ≡ true → IsRead g ws y
    all_reads_of no_exprs n sound told k = absurd (false≢true k)
    all_reads_of (an_expr e es) n sound told k =
        let f = both_empty (faults g e) (all_faults g es) sound in
        let q = both_empty (self_reads g ws e) (all_self_reads g ws es) told in
        ⊎_elim (reads_of e n (shape g e) f.0 q.0) (all_reads_of es (n + nodes g e) f.1 q.1) (or_cases _ _ k)
