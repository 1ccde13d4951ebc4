-- Each flat term has the width and sign that its context gives it, and so have the terms in it.
use Rattle.std.proofs.Common.{◌≡◌, inl, inr, ℕ, ◌+◌, max, Bool, true, false, ◌&&◌, if◌then◌else◌, List, ◌++◌, length, Option, Some, None, refl, sym, ◌∙◌, subst}
use Rattle.std.proofs.lemmas.Bool.{false≢true, eq-eqb, le-leb, lt-ltb}
use Rattle.cov_host.specs.declared.place.Place.{Place}
use Rattle.four_state.specs.declared.operator.Binary.{Binary}
use Rattle.design_model.specs.Design.{Design, is_memory}
use Rattle.design_model.specs.Mentions.{is_constant, are_constant}
use Rattle.design_model.specs.Shape.{are_alone, has_shape, is_alone, is_shaped, is_wide_unary, own_sign, own_width, same_bool}
use Rattle.design_model.specs.Tree as t
use Rattle.design_model.specs.Tree.{Head, Term}
use Rattle.verilog_tree.specs.Tree.{Expr, literal, identifier, bit_select, part_select, indexed_part, unary_operator, binary_operator, conditional, concatenation, replication, sign_cast, parentheses, Exprs, no_exprs, an_expr}
use Rattle.elab_const.specs.Faults as const
use Rattle.elab_const.specs.Meaning.{common_shape, operand_shape, operand_shapes, operands_of}
use Rattle.elab_const.specs.Scope.{IsWidth}
use Rattle.elab_const.specs.declared.width.Shape.{Shape}
use Rattle.flat_design.specs.Expressions.{all_faults, bit_faults, bound_faults, faults, index_faults, number_faults, select_faults, selected, width_faults, word_faults}
use Rattle.flat_design.specs.Fault.{Fault, none}
use Rattle.flat_design.specs.Identifiers.{base_name}
use Rattle.flat_design.specs.Numbering.{condition_nodes, is_counted_condition, nodes, one_if}
use Rattle.flat_design.specs.Scope.{Scope, is_memory_entry, is_memory_name, look_up, names, names_thing, shape, thing_of, thing_number, value_entry}
use Rattle.flat_design.specs.Terms.{alone, condition_as, condition_term, counted_as, head_as, name_term, number_if, term, terms, word_or_bit}
use Rattle.flat_laws.specs.Literals.{all_literals, literals}
use Rattle.flat_design.specs.declared.entry.Entry.{Entry}
use Rattle.flat_design.specs.declared.entry.Entry.TheVariants.{Constant as a_constant, Turn as a_turn, Signal as a_signal, Memory as a_memory, LoopVariable as a_loop_variable, Instance as an_instance, NoConstant as no_constant, Faulty as a_faulty_one}
use Rattle.flat_design.proofs.NoConstFaults.{both_none, bound_clean, constant_there, four_none, no_const_fault, number_clean, three_none, width_clean}
use Rattle.flat_laws.proofs.EntryWidths.{AreFit, HasWidths, expr_width, fit_first, fit_left, fit_right, fit_second, fit_third, max_width}
use Rattle.flat_laws.proofs.LawfulScope.{EntryMatches}
use Rattle.flat_laws.proofs.LawfulSound.{names_sound}
use Rattle.flat_laws.proofs.LawfulTargets.{IsGoodScope}
use Rattle.flat_laws.proofs.Members.{both_true}
use Rattle.flat_laws.proofs.OwnShapes.{HasShape, is_memory_here, own_shape}
use Rattle.flat_laws.proofs.TakenOperands.{IsTaken, taken}

-- a constant expression becomes a constant term
constant_name : (o : Option Entry) (h : Head) → const.is_constant_entry (value_entry o) ≡ true → is_constant (name_term o h) ≡ true
constant_name (Some (a_constant v)) h e = refl
constant_name (Some (a_turn v)) h e = refl
constant_name None h e = absurd (false≢true e)
constant_name (Some (a_signal s)) h e = absurd (false≢true e)
constant_name (Some (a_memory m)) h e = absurd (false≢true e)
constant_name (Some a_loop_variable) h e = absurd (false≢true e)
constant_name (Some an_instance) h e = absurd (false≢true e)
constant_name (Some no_constant) h e = absurd (false≢true e)
constant_name (Some a_faulty_one) h e = absurd (false≢true e)

-- the number of a counted node changes nothing here
constant_counted : (n : ℕ) (x : Term) → is_constant (counted_as n x) ≡ is_constant x
constant_counted n (t.number h v) = refl
constant_counted n (t.signal h s) = refl
constant_counted n (t.word h m i) = refl
constant_counted n (t.bit h of i) = refl
constant_counted n (t.part h of i j) = refl
constant_counted n (t.slide h of b w up) = refl
constant_counted n (t.unary h op a) = refl
constant_counted n (t.binary h op a b) = refl
constant_counted n (t.choice h c a b) = refl
constant_counted n (t.concat h ts) = refl
constant_counted n (t.repeat h k ts) = refl
constant_counted n (t.sign h s a) = refl

constant_condition : (b : Bool) (n : ℕ) (c : ℕ → Term) → ((k : ℕ) → is_constant (c k) ≡ true) → is_constant (condition_as b n c) ≡ true
constant_condition true n c h = constant_counted n (c (n + 1)) ∙ h (n + 1)
constant_condition false n c h = h n

both_parts : (a b : Bool) → (a && b) ≡ true → (a ≡ true) × (b ≡ true)
both_parts true b e = (refl, e)
both_parts false b e = absurd (false≢true e)

mutual
  pub constant_term : (base : ℕ) (g : Scope) (e : Expr) → const.is_constant (names g) e ≡ true → (n : ℕ) (c : Shape) → is_constant (term base g e n c) ≡ true
  constant_term base g (literal p v) con n c = refl
  constant_term base g (identifier p x) con n c = constant_name (look_up g x) _ con
  constant_term base g (bit_select p of i) con n c = absurd (false≢true con)
  constant_term base g (part_select p of i j b) con n c = absurd (false≢true con)
  constant_term base g (indexed_part p of b w up k) con n c = absurd (false≢true con)
  constant_term base g (unary_operator p op a) con n c = constant_term base g a con (n + one_if (names_thing g a)) (operand_shape op (shape g a) c)
  constant_term base g (binary_operator p op a b) con n c =
      let counted = names_thing g (binary_operator p op a b) in
      let shapes : Shape × Shape = operand_shapes (operands_of op) (shape g a) (shape g b) c in
      let parts = both_parts (const.is_constant (names g) a) (const.is_constant (names g) b) con in
      both_true _ _ (constant_term base g a parts.0 (n + one_if counted) shapes.0) (constant_term base g b parts.1 (n + one_if counted + nodes g a) shapes.1)
  constant_term base g (conditional p x a b) con n c =
      let parts = both_parts (const.is_constant (names g) x && const.is_constant (names g) a) (const.is_constant (names g) b) con in
      let more = both_parts (const.is_constant (names g) x) (const.is_constant (names g) a) parts.0 in
      both_true _ _ (constant_condition (is_counted_condition g x) n (λ k. term base g x k (shape g x)) (λ k. constant_term base g x more.0 k (shape g x)))
      (both_true _ _ (constant_term base g a more.1 (n + condition_nodes g x) c) (constant_term base g b parts.1 (n + condition_nodes g x + nodes g a) c))
  constant_term base g (concatenation p es) con n c = constant_terms base g es con n
  constant_term base g (replication p k es) con n c =
      let parts = both_parts (const.is_constant (names g) k) (const.are_constant (names g) es) con in
      both_true _ _ (constant_term base g k parts.0 n (shape g k)) (constant_terms base g es parts.1 (n + nodes g k))
  constant_term base g (sign_cast p signed a) con n c = constant_term base g a con n (shape g a)
  constant_term base g (parentheses p a) con n c = constant_term base g a con n c

  pub constant_terms : (base : ℕ) (g : Scope) (es : Exprs) → const.are_constant (names g) es ≡ true → (n : ℕ) → are_constant (terms base g es n) ≡ true
  constant_terms base g no_exprs con n = refl
  constant_terms base g (an_expr e es) con n =
      let parts = both_parts (const.is_constant (names g) e) (const.are_constant (names g) es) con in
      both_true _ _ (constant_term base g e parts.0 n (shape g e)) (constant_terms base g es parts.1 (n + nodes g e))

same_sign : (b : Bool) → same_bool b b ≡ true
same_sign true = refl
same_sign false = refl

-- a head of its context
pub head_shaped : (p : Place) (c : Shape) (n : Option ℕ) → IsWidth c.width → has_shape c.width c.signed (head_as p c n) ≡ true
head_shaped p c n h = rw (eq-eqb c.width c.width refl, same_sign c.signed, le-leb 1 c.width h.0, le-leb c.width 128 h.1) refl

counted_shaped : (d : Design) (w : ℕ) (s : Bool) (n : ℕ) (x : Term) → is_shaped d w s (counted_as n x) ≡ is_shaped d w s x
counted_shaped d w s n (t.number h v) = refl
counted_shaped d w s n (t.signal h x) = refl
counted_shaped d w s n (t.word h m i) = refl
counted_shaped d w s n (t.bit h of i) = refl
counted_shaped d w s n (t.part h of i j) = refl
counted_shaped d w s n (t.slide h of b k up) = refl
counted_shaped d w s n (t.unary h op a) = refl
counted_shaped d w s n (t.binary h op a b) = refl
counted_shaped d w s n (t.choice h c a b) = refl
counted_shaped d w s n (t.concat h ts) = refl
counted_shaped d w s n (t.repeat h k ts) = refl
counted_shaped d w s n (t.sign h x a) = refl

counted_own : (d : Design) (n : ℕ) (x : Term) → (own_width d (counted_as n x) ≡ own_width d x) × (own_sign d (counted_as n x) ≡ own_sign d x)
counted_own d n (t.number h v) = (refl, refl)
counted_own d n (t.signal h x) = (refl, refl)
counted_own d n (t.word h m i) = (refl, refl)
counted_own d n (t.bit h of i) = (refl, refl)
counted_own d n (t.part h of i j) = (refl, refl)
counted_own d n (t.slide h of b k up) = (refl, refl)
counted_own d n (t.unary h op a) = (refl, refl)
counted_own d n (t.binary h op a b) = (refl, refl)
counted_own d n (t.choice h c a b) = (refl, refl)
counted_own d n (t.concat h ts) = (refl, refl)
counted_own d n (t.repeat h k ts) = (refl, refl)
counted_own d n (t.sign h x a) = (refl, refl)

-- what has its shape in the context that it gives itself is alone
pub shaped_alone : (d : Design) (s : Shape) (x : Term) → HasShape d s x → is_shaped d s.width s.signed x ≡ true → is_alone d x ≡ true
shaped_alone d s x own h = subst (λ w. is_shaped d w (own_sign d x) x ≡ true) (sym own.width) (subst (λ b. is_shaped d s.width b x ≡ true) (sym own.signed) h)

condition_alone : (d : Design) (b : Bool) (n : ℕ) (c : ℕ → Term) → ((k : ℕ) → is_alone d (c k) ≡ true) → is_alone d (condition_as b n c) ≡ true
condition_alone d false n c h = h n
condition_alone d true n c h =
    let own = counted_own d n (c (n + 1)) in
    subst (λ w. is_shaped d w (own_sign d (counted_as n (c (n + 1)))) (counted_as n (c (n + 1))) ≡ true) (sym own.0)
    (subst (λ b. is_shaped d (own_width d (c (n + 1))) b (counted_as n (c (n + 1))) ≡ true) (sym own.1) (counted_shaped d (own_width d (c (n + 1))) (own_sign d (c (n + 1))) n (c (n + 1)) ∙ h (n + 1)))

-- what comes before a select has no fault, unless it is a memory; nor has its index
pub bit_free : (g : Scope) (of : Expr) (i : Expr) (is : List Fault) → none (bit_faults g of (faults g of) i is) ≡ true → (none is ≡ true) × (is_memory_name g of ≡ false → none (faults g of) ≡ true)
bit_free g of i is h = by_test (is_memory_name g of) (look_up g (base_name of).name) h
  where
    by_test : (b : Bool) (o : Option Entry) → none (if b then word_faults g o (base_name of) i is else faults g of ++ select_faults (selected g of) ++ is ++ index_faults g (selected g of) i is) ≡ true → (none is ≡ true) × (b ≡ false → none (faults g of) ≡ true)
    by_test false o k = let p = four_none (faults g of) (select_faults (selected g of)) is _ k in (p.2, λ e. p.0)
    by_test true (Some (a_memory m)) k = ((both_none is _ k).0, λ e. absurd (false≢true (sym e)))
    by_test true None k = (k, λ e. absurd (false≢true (sym e)))
    by_test true (Some (a_constant v)) k = (k, λ e. absurd (false≢true (sym e)))
    by_test true (Some (a_turn v)) k = (k, λ e. absurd (false≢true (sym e)))
    by_test true (Some (a_signal s)) k = (k, λ e. absurd (false≢true (sym e)))
    by_test true (Some a_loop_variable) k = (k, λ e. absurd (false≢true (sym e)))
    by_test true (Some an_instance) k = (k, λ e. absurd (false≢true (sym e)))
    by_test true (Some no_constant) k = (k, λ e. absurd (false≢true (sym e)))
    by_test true (Some a_faulty_one) k = (k, λ e. absurd (false≢true (sym e)))

unary_shaped : (d : Design) (b : Bool) (a s : Shape) (x : Term) → is_shaped d (if b then s else a).width (if b then s else a).signed x ≡ true → HasShape d a x → (if b then is_shaped d s.width s.signed x else is_shaped d (own_width d x) (own_sign d x) x) ≡ true
unary_shaped d true a s x h own = h
unary_shaped d false a s x h own = shaped_alone d a x own h

-- each operand in the context that its operator gives it
binary_shaped : (d : Design) (op : Binary) (a b s : Shape) (x y : Shape → Term) → IsWidth a.width → IsWidth b.width → IsWidth s.width →
    ((c : Shape) → IsWidth c.width → is_shaped d c.width c.signed (x c) ≡ true) → ((c : Shape) → IsWidth c.width → is_shaped d c.width c.signed (y c) ≡ true) → ((c : Shape) → HasShape d a (x c)) → ((c : Shape) → HasShape d b (y c)) → (h : Head) → has_shape s.width s.signed h ≡ true →
    is_shaped d s.width s.signed (t.binary h op (x (operand_shapes (operands_of op) a b s).0) (y (operand_shapes (operands_of op) a b s).1)) ≡ true
binary_shaped d op a b s x y aw bw sw xs ys xo yo h headed = by_case (taken op)
  where
    common : IsWidth (common_shape a b).width
    common = max_width a.width b.width aw bw

    -- the operands in these two contexts
    given : Shape × Shape → Type 0
    given p = is_shaped d s.width s.signed (t.binary h op (x p.0) (y p.1)) ≡ true

    compared : (c : Shape) (z : Shape → Term) → ((e : Shape) → IsWidth e.width → is_shaped d e.width e.signed (z e) ≡ true) → is_shaped d (max (own_width d (x c)) (own_width d (y c))) (own_sign d (x c) && own_sign d (y c)) (z (common_shape a b)) ≡ true
    compared c z zs =
        subst (λ w. is_shaped d w (own_sign d (x c) && own_sign d (y c)) (z (common_shape a b)) ≡ true) (rw ((xo c).width, (yo c).width) refl)
        (subst (λ e. is_shaped d (max a.width b.width) e (z (common_shape a b)) ≡ true) (rw ((xo c).signed, (yo c).signed) refl) (zs (common_shape a b) common))

    by_case : IsTaken op → given (operand_shapes (operands_of op) a b s)
    by_case (inl u) = subst given (sym (u.operands a b s)) (both_true _ _ headed (rw u.wide (both_true _ _ (xs s sw) (ys s sw))))
    by_case (inr (inl u)) = subst given (sym (u.operands a b s)) (both_true _ _ headed (rw (u.wide, u.shift) (both_true _ _ (xs s sw) (shaped_alone d b (y b) (yo b) (ys b bw)))))
    by_case (inr (inr (inl u))) = subst given (sym (u.operands a b s)) (both_true _ _ headed (rw (u.wide, u.shift, u.logic) (both_true _ _ (shaped_alone d a (x a) (xo a) (xs a aw)) (shaped_alone d b (y b) (yo b) (ys b bw)))))
    by_case (inr (inr (inr u))) = subst given (sym (u.operands a b s)) (both_true _ _ headed (rw (u.wide, u.shift, u.logic) (both_true _ _ (compared (common_shape a b) x xs) (compared (common_shape a b) y ys))))

module _ (d : Design) (base : ℕ) (base_is : base ≡ length d.signals) where
  name_shaped : (o : Option Entry) (p : Place) (c : Shape) → EntryMatches d.signals d.memories o → IsWidth c.width → is_shaped d c.width c.signed (name_term o (head_as p c None)) ≡ true
  name_shaped (Some (a_signal s)) p c h w = both_true _ _ (head_shaped p c None w) (lt-ltb s.number (length d.signals) h.number)
  name_shaped (Some (a_constant v)) p c h w = head_shaped p c None w
  name_shaped (Some (a_turn v)) p c h w = head_shaped p c None w
  name_shaped None p c h w = head_shaped p c None w
  name_shaped (Some (a_memory m)) p c h w = head_shaped p c None w
  name_shaped (Some a_loop_variable) p c h w = head_shaped p c None w
  name_shaped (Some an_instance) p c h w = head_shaped p c None w
  name_shaped (Some no_constant) p c h w = head_shaped p c None w
  name_shaped (Some a_faulty_one) p c h w = head_shaped p c None w

  -- the name of a memory is that of one of the design
  pub named_memory : (g : Scope) → IsGoodScope d.signals d.memories g → (of : Expr) → is_memory_name g of ≡ true → is_memory d (thing_number base (thing_of (look_up g (base_name of).name))) ≡ true
  named_memory g good (identifier p x) is = by_entry (look_up g x) (good.matches x) is
    where
      by_entry : (o : Option Entry) → EntryMatches d.signals d.memories o → is_memory_entry o ≡ true → is_memory d (thing_number base (thing_of o)) ≡ true
      by_entry (Some (a_memory m)) k e = is_memory_here d base base_is m.number k.number
      by_entry None k e = absurd (false≢true e)
      by_entry (Some (a_constant v)) k e = absurd (false≢true e)
      by_entry (Some (a_turn v)) k e = absurd (false≢true e)
      by_entry (Some (a_signal s)) k e = absurd (false≢true e)
      by_entry (Some a_loop_variable) k e = absurd (false≢true e)
      by_entry (Some an_instance) k e = absurd (false≢true e)
      by_entry (Some no_constant) k e = absurd (false≢true e)
      by_entry (Some a_faulty_one) k e = absurd (false≢true e)
  named_memory g good (literal p v) is = absurd (false≢true is)
  named_memory g good (bit_select p of j) is = absurd (false≢true is)
  named_memory g good (part_select p of j k b) is = absurd (false≢true is)
  named_memory g good (indexed_part p of b w up k) is = absurd (false≢true is)
  named_memory g good (unary_operator p op a) is = absurd (false≢true is)
  named_memory g good (binary_operator p op a b) is = absurd (false≢true is)
  named_memory g good (conditional p c a b) is = absurd (false≢true is)
  named_memory g good (concatenation p es) is = absurd (false≢true is)
  named_memory g good (replication p k es) is = absurd (false≢true is)
  named_memory g good (sign_cast p s a) is = absurd (false≢true is)
  named_memory g good (parentheses p a) is = absurd (false≢true is)

  -- the width of an expression without fault
  pub sound_width : (g : Scope) → IsGoodScope d.signals d.memories g → HasWidths g → (e : Expr) → AreFit (literals e) → none (faults g e) ≡ true → IsWidth (shape g e).width
  sound_width g good wide e fit free = expr_width g wide e fit (no_const_fault g e free (names_sound g good.sound e))

  -- an expression alone
  pub term_alone : (g : Scope) → IsGoodScope d.signals d.memories g → (e : Expr) → none (faults g e) ≡ true → (n : ℕ) → is_shaped d (shape g e).width (shape g e).signed (term base g e n (shape g e)) ≡ true → is_alone d (alone base g e n) ≡ true
  term_alone g good e free n h = shaped_alone d (shape g e) (term base g e n (shape g e)) (own_shape d base base_is g good e free n (shape g e)) h

  select_shaped : (g : Scope) → IsGoodScope d.signals d.memories g → (of : Expr) (p : Place) (c : Shape) → IsWidth c.width → (x i j : Term) → (is_memory_name g of ≡ false → is_alone d x ≡ true) → is_alone d i ≡ true → is_alone d j ≡ true →
      is_shaped d c.width c.signed (word_or_bit (is_memory_name g of) (thing_number base (thing_of (look_up g (base_name of).name))) (head_as p c None) x i j) ≡ true
  select_shaped g good of p c w x i j xs is js = by_test (is_memory_name g of) refl
    where
      by_test : (b : Bool) → is_memory_name g of ≡ b → is_shaped d c.width c.signed (word_or_bit b (thing_number base (thing_of (look_up g (base_name of).name))) (head_as p c None) x i j) ≡ true
      by_test true e = both_true _ _ (both_true _ _ (head_shaped p c None w) (named_memory g good of e)) is
      by_test false e = both_true _ _ (both_true _ _ (head_shaped p c None w) (xs e)) js

  mutual
    pub shaped : (g : Scope) → IsGoodScope d.signals d.memories g → HasWidths g → (e : Expr) → AreFit (literals e) → none (faults g e) ≡ true → (n : ℕ) (c : Shape) → IsWidth c.width → is_shaped d c.width c.signed (term base g e n c) ≡ true
    shaped g good wide (literal p v) fit free n c w = head_shaped p c None w
    shaped g good wide (identifier p x) fit free n c w = name_shaped (look_up g x) p c (good.matches x) w
    shaped g good wide (bit_select p of i) fit free n c w =
        let parts = bit_free g of i (faults g i) free in
        let fit_of = fit_left (literals of) (literals i) fit in
        let fit_i = fit_right (literals of) (literals i) fit in
        let width = sound_width g good wide i fit_i parts.0 in
        select_shaped g good of p c w (term base g of n (shape g of)) (term base g i n (shape g i)) (term base g i (n + nodes g of) (shape g i))
        (λ is. term_alone g good of (parts.1 is) n (shaped g good wide of fit_of (parts.1 is) n (shape g of) (sound_width g good wide of fit_of (parts.1 is))))
        (term_alone g good i parts.0 n (shaped g good wide i fit_i parts.0 n (shape g i) width)) (term_alone g good i parts.0 (n + nodes g of) (shaped g good wide i fit_i parts.0 (n + nodes g of) (shape g i) width))
    shaped g good wide (part_select p of i j b) fit free n c w =
        let first = both_none (faults g of) _ free in
        let parts = four_none (select_faults (selected g of)) (bound_faults g b i (faults g i)) (bound_faults g b j (faults g j)) _ first.1 in
        let high = number_clean g i (faults g i) (bound_clean g b i (faults g i) parts.1 (names_sound g good.sound i)).0 (names_sound g good.sound i) in
        let low = number_clean g j (faults g j) (bound_clean g b j (faults g j) parts.2 (names_sound g good.sound j)).0 (names_sound g good.sound j) in
        let fit_of = fit_first (literals of) (literals i) (literals j) fit in
        let fit_i = fit_second (literals of) (literals i) (literals j) fit in
        let fit_j = fit_third (literals of) (literals i) (literals j) fit in
        both_true _ _ (both_true _ _ (both_true _ _ (both_true _ _ (both_true _ _ (head_shaped p c None w)
        (term_alone g good of first.0 n (shaped g good wide of fit_of first.0 n (shape g of) (sound_width g good wide of fit_of first.0))))
        (term_alone g good i high.1 (n + nodes g of) (shaped g good wide i fit_i high.1 (n + nodes g of) (shape g i) (sound_width g good wide i fit_i high.1))))
        (term_alone g good j low.1 (n + nodes g of + nodes g i) (shaped g good wide j fit_j low.1 (n + nodes g of + nodes g i) (shape g j) (sound_width g good wide j fit_j low.1))))
        (constant_term base g i (constant_there g i high.0 high.1) (n + nodes g of) (shape g i)))
        (constant_term base g j (constant_there g j low.0 low.1) (n + nodes g of + nodes g i) (shape g j))
    shaped g good wide (indexed_part p of b k up bracket) fit free n c w =
        let first = both_none (faults g of) _ free in
        let parts = four_none (select_faults (selected g of)) (faults g b) (width_faults g bracket k (faults g k)) _ first.1 in
        let number = number_clean g k (faults g k) (width_clean g bracket k (faults g k) parts.2 (names_sound g good.sound k)).0 (names_sound g good.sound k) in
        let fit_of = fit_first (literals of) (literals b) (literals k) fit in
        let fit_b = fit_second (literals of) (literals b) (literals k) fit in
        let fit_k = fit_third (literals of) (literals b) (literals k) fit in
        both_true _ _ (both_true _ _ (both_true _ _ (both_true _ _ (head_shaped p c None w)
        (term_alone g good of first.0 n (shaped g good wide of fit_of first.0 n (shape g of) (sound_width g good wide of fit_of first.0))))
        (term_alone g good b parts.1 (n + nodes g of) (shaped g good wide b fit_b parts.1 (n + nodes g of) (shape g b) (sound_width g good wide b fit_b parts.1))))
        (term_alone g good k number.1 (n + nodes g of + nodes g b) (shaped g good wide k fit_k number.1 (n + nodes g of + nodes g b) (shape g k) (sound_width g good wide k fit_k number.1))))
        (constant_term base g k (constant_there g k number.0 number.1) (n + nodes g of + nodes g b) (shape g k))
    shaped g good wide (unary_operator p op a) fit free n c w =
        both_true _ _ (head_shaped p c (number_if (names_thing g a) n) w)
        (unary_shaped d (is_wide_unary op) (shape g a) c (term base g a (n + one_if (names_thing g a)) (operand_shape op (shape g a) c))
        (shaped g good wide a fit free (n + one_if (names_thing g a)) (operand_shape op (shape g a) c) (either (is_wide_unary op)))
        (own_shape d base base_is g good a free (n + one_if (names_thing g a)) (operand_shape op (shape g a) c)))
      where
        either : (b : Bool) → IsWidth (if b then c else shape g a).width
        either true = w
        either false = sound_width g good wide a fit free
    shaped g good wide (binary_operator p op a b) fit free n c w =
        let counted = names_thing g (binary_operator p op a b) in
        let parts = both_none (faults g a) (faults g b) free in
        let fit_a = fit_left (literals a) (literals b) fit in
        let fit_b = fit_right (literals a) (literals b) fit in
        binary_shaped d op (shape g a) (shape g b) c (λ s. term base g a (n + one_if counted) s) (λ s. term base g b (n + one_if counted + nodes g a) s)
        (sound_width g good wide a fit_a parts.0) (sound_width g good wide b fit_b parts.1) w
        (λ s sw. shaped g good wide a fit_a parts.0 (n + one_if counted) s sw) (λ s sw. shaped g good wide b fit_b parts.1 (n + one_if counted + nodes g a) s sw)
        (λ s. own_shape d base base_is g good a parts.0 (n + one_if counted) s) (λ s. own_shape d base base_is g good b parts.1 (n + one_if counted + nodes g a) s)
        (head_as p c (number_if counted n)) (head_shaped p c (number_if counted n) w)
    shaped g good wide (conditional p x a b) fit free n c w =
        let parts = three_none (faults g x) (faults g a) (faults g b) free in
        let fit_x = fit_first (literals x) (literals a) (literals b) fit in
        let fit_a = fit_second (literals x) (literals a) (literals b) fit in
        let fit_b = fit_third (literals x) (literals a) (literals b) fit in
        let width = sound_width g good wide x fit_x parts.0 in
        both_true _ _ (both_true _ _ (both_true _ _ (head_shaped p c None w)
        (condition_alone d (is_counted_condition g x) n (λ k. term base g x k (shape g x)) (λ k. term_alone g good x parts.0 k (shaped g good wide x fit_x parts.0 k (shape g x) width))))
        (shaped g good wide a fit_a parts.1 (n + condition_nodes g x) c w)) (shaped g good wide b fit_b parts.2 (n + condition_nodes g x + nodes g a) c w)
    shaped g good wide (concatenation p es) fit free n c w = both_true _ _ (head_shaped p c None w) (all_shaped g good wide es fit (both_none (all_faults g es) _ free).0 n)
    shaped g good wide (replication p k es) fit free n c w =
        let parts = both_none (all_faults g es) _ free in
        let number = number_clean g k (faults g k) (both_none (number_faults g k (faults g k)) _ parts.1).0 (names_sound g good.sound k) in
        let fit_k = fit_left (literals k) (all_literals es) fit in
        both_true _ _ (both_true _ _ (both_true _ _ (head_shaped p c None w)
        (term_alone g good k number.1 n (shaped g good wide k fit_k number.1 n (shape g k) (sound_width g good wide k fit_k number.1))))
        (constant_term base g k (constant_there g k number.0 number.1) n (shape g k)))
        (all_shaped g good wide es (fit_right (literals k) (all_literals es) fit) parts.0 (n + nodes g k))
    shaped g good wide (sign_cast p signed a) fit free n c w =
        both_true _ _ (head_shaped p c None w) (term_alone g good a free n (shaped g good wide a fit free n (shape g a) (sound_width g good wide a fit free)))
    shaped g good wide (parentheses p a) fit free n c w = shaped g good wide a fit free n c w

    pub all_shaped : (g : Scope) → IsGoodScope d.signals d.memories g → HasWidths g → (es : Exprs) → AreFit (all_literals es) → none (all_faults g es) ≡ true → (n : ℕ) → are_alone d (terms base g es n) ≡ true
    all_shaped g good wide no_exprs fit free n = refl
    all_shaped g good wide (an_expr e es) fit free n =
        let parts = both_none (faults g e) (all_faults g es) free in
        let fit_e = fit_left (literals e) (all_literals es) fit in
        both_true _ _ (term_alone g good e parts.0 n (shaped g good wide e fit_e parts.0 n (shape g e) (sound_width g good wide e fit_e parts.0)))
        (all_shaped g good wide es (fit_right (literals e) (all_literals es) fit) parts.1 (n + nodes g e))

  -- an expression without fault alone, and as a condition
  pub sound_alone : (g : Scope) → IsGoodScope d.signals d.memories g → HasWidths g → (e : Expr) → AreFit (literals e) → none (faults g e) ≡ true → (n : ℕ) → is_alone d (alone base g e n) ≡ true
  sound_alone g good wide e fit free n = term_alone g good e free n (shaped g good wide e fit free n (shape g e) (sound_width g good wide e fit free))

  pub sound_condition : (g : Scope) → IsGoodScope d.signals d.memories g → HasWidths g → (e : Expr) → AreFit (literals e) → none (faults g e) ≡ true → (n : ℕ) → is_alone d (condition_term base g e n) ≡ true
  sound_condition g good wide e fit free n = condition_alone d (is_counted_condition g e) n (alone base g e) (λ k. sound_alone g good wide e fit free k)
