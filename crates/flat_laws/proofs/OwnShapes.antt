-- The width and sign that a flat term has alone are those of its expression.
use Rattle.std.proofs.Common.{◌≡◌, inl, inr, ℕ, ◌+◌, ◌-◌, ◌*◌, ◌<◌, ◌≤◌, Bool, true, false, ◌&&◌, if◌then◌else◌, List, length, pos, negsuc, Option, Some, None, refl, sym, ap, ◌∙◌, subst, arith, slice_index_or}
use Rattle.std.proofs.lemmas.Bool.{false≢true, le-leb, lt-ltb}
use Rattle.cov_host.specs.declared.place.Place.{Place}
use Rattle.four_state.specs.Arithmetic.{natural, not_bit}
use Rattle.four_state.specs.Parts.{index, index_of}
use Rattle.four_state.specs.Vector.{all_known, is_one, top}
use Rattle.four_state.specs.declared.bit.Bit.{Bit}
use Rattle.four_state.specs.declared.operator.Binary.{Binary}
use Rattle.std.specs.Prelude.{map}
use Rattle.design_model.specs.Design.{Design, is_memory, memory_at, no_memory}
use Rattle.design_model.specs.Mentions.{blank}
use Rattle.design_model.specs.Shape.{is_wide_unary, own_width, own_widths, own_sign}
use Rattle.design_model.specs.Tree as t
use Rattle.design_model.specs.Tree.{Head, Term}
use Rattle.design_model.specs.Value.{part_width, value}
use Rattle.verilog_tree.specs.declared.item.Named.{Named}
use Rattle.verilog_tree.specs.Tree.{Expr, literal, identifier, bit_select, part_select, indexed_part, unary_operator, binary_operator, conditional, concatenation, replication, sign_cast, parentheses, Exprs, no_exprs, an_expr}
use Rattle.elab_const.specs.Faults as const
use Rattle.elab_const.specs.Faults.{bound_fault, count_fault, fault_of, first_fault, is_bad_bound, is_below_one, number_fault, size_fault}
use Rattle.elab_const.specs.Meaning as meaning
use Rattle.elab_const.specs.Meaning.{binary_shape, count_of, entry_shape, falls, indexed_shape, number_of, one_bit, operand_shape, operand_shapes, operands_of, parts_of, select_shape}
use Rattle.elab_const.specs.Scope.{earlier}
use Rattle.elab_const.specs.declared.width.Shape.{Shape}
use Rattle.elab_const.proofs.AnswerLemmas.{none_in_turn, width_within}
use Rattle.flat_design.specs.Expressions.{all_faults, bound_faults, faults, number_faults, select_faults, selected, use_faults, width_faults}
use Rattle.flat_design.specs.Fault.{none}
use Rattle.flat_design.specs.Identifiers.{base_name, named}
use Rattle.flat_design.specs.Numbering.{condition_nodes, nodes, one_if}
use Rattle.flat_design.specs.Scope.{Scope, is_faulty_entry, is_memory_entry, is_memory_name, look_up, names, names_thing, shape, thing_of, thing_number, value_entry}
use Rattle.flat_design.specs.Terms.{head_as, name_term, term, terms, word_or_bit}
use Rattle.flat_design.specs.declared.entry.Entry.{Entry}
use Rattle.flat_design.specs.declared.entry.Entry.TheVariants.{Constant as a_constant, Turn as a_turn, Signal as a_signal, Memory as a_memory, LoopVariable as a_loop_variable, Instance as an_instance, NoConstant as no_constant, Faulty as a_faulty_one}
use Rattle.flat_design.proofs.NoConstFaults.{both_none, bound_clean, constant_there, four_none, no_const_fault, number_clean, three_none, width_clean}
use Rattle.flat_laws.proofs.ConstantTerms.{constant_value, count_sound, no_fault, number_natural}
use Rattle.flat_laws.proofs.EntryWidths.{no_earlier}
use Rattle.flat_laws.proofs.LawfulScope.{EntryMatches}
use Rattle.flat_laws.proofs.LawfulSound.{names_sound}
use Rattle.flat_laws.proofs.LawfulTargets.{IsGoodScope}
use Rattle.flat_laws.proofs.TakenOperands.{IsTaken, taken}

-- alone the term has this width and sign
pub record HasShape (d : Design) (s : Shape) (x : Term) : Type 0 where
  pub width : own_width d x ≡ s.width
  pub signed : own_sign d x ≡ s.signed

-- where an index is a bound, it is the number that its bits say
bound_counted : (known negative : Bool) (n m : ℕ) → is_bad_bound (index_of (if known then Some (if negative then negsuc m else pos n) else None)) ≡ false → n ≡ count_of (index_of (if known then Some (if negative then negsuc m else pos n) else None))
bound_counted true false n m h = refl
bound_counted true true n m h = absurd (false≢true (sym h))
bound_counted false b n m h = absurd (false≢true (sym h))

bound_natural : (s : Bool) (bs : List Bit) → is_bad_bound (index_of (index s bs)) ≡ false → natural bs ≡ count_of (index_of (index s bs))
bound_natural s bs h = bound_counted (all_known bs) (s && is_one (top bs)) (natural bs) (natural (map not_bit bs)) h

-- the bits between two ends, of which the first is the higher one or the lower one
part_same : (falling : Bool) (a b : List Bit) (h l : ℕ) → natural a ≡ h → natural b ≡ l → 1 ≤ meaning.part_width falling h l → part_width a b ≡ meaning.part_width falling h l
part_same true a b h l e f some = omega arith
part_same false a b h l e f some = omega arith

no_word : (o : Option Entry) → is_memory_entry o ≡ false → indexed_shape (value_entry o) ≡ one_bit
no_word None h = refl
no_word (Some (a_constant v)) h = refl
no_word (Some (a_turn v)) h = refl
no_word (Some (a_signal s)) h = refl
no_word (Some (a_memory m)) h = absurd (false≢true (sym h))
no_word (Some a_loop_variable) h = refl
no_word (Some an_instance) h = refl
no_word (Some no_constant) h = refl
no_word (Some a_faulty_one) h = refl

-- what is no memory has bits
pub bit_shape : (g : Scope) (of : Expr) → is_memory_name g of ≡ false → select_shape (names g) of ≡ one_bit
bit_shape g (identifier p x) h = no_word (look_up g x) h
bit_shape g (literal p v) h = refl
bit_shape g (bit_select p of i) h = refl
bit_shape g (part_select p of i j b) h = refl
bit_shape g (indexed_part p of b w up k) h = refl
bit_shape g (unary_operator p op a) h = refl
bit_shape g (binary_operator p op a b) h = refl
bit_shape g (conditional p c a b) h = refl
bit_shape g (concatenation p es) h = refl
bit_shape g (replication p k es) h = refl
bit_shape g (sign_cast p s a) h = refl
bit_shape g (parentheses p a) h = refl

module _ (d : Design) (base : ℕ) (base_is : base ≡ length d.signals) where
  -- memories are numbered after the signals
  pub memory_here : (k : ℕ) → memory_at d (base + k) ≡ slice_index_or d.memories k no_memory
  memory_here k =
      let above : length d.signals ≤ base + k = omega arith in
      let place : base + k - length d.signals ≡ k = omega arith in
      rw (le-leb (length d.signals) (base + k) above, place) refl

  pub is_memory_here : (k : ℕ) → k < length d.memories → is_memory d (base + k) ≡ true
  is_memory_here k less = rw (le-leb (length d.signals) (base + k) (omega arith), lt-ltb (base + k) (length d.signals + length d.memories) (omega arith)) refl

  own_name : (o : Option Entry) (x : Named) (p : Place) (c : Shape) → EntryMatches d.signals d.memories o → is_faulty_entry o ≡ false → none (use_faults o x) ≡ true → HasShape d (entry_shape (value_entry o)) (name_term o (head_as p c None))
  own_name (Some (a_constant v)) x p c h sound free = record { width = refl; signed = refl }
  own_name (Some (a_turn v)) x p c h sound free = record { width = refl; signed = refl }
  own_name (Some (a_signal s)) x p c h sound free = record { width = h.width; signed = h.signed }
  own_name None x p c h sound free = absurd (false≢true free)
  own_name (Some (a_memory m)) x p c h sound free = absurd (false≢true free)
  own_name (Some a_loop_variable) x p c h sound free = absurd (false≢true free)
  own_name (Some an_instance) x p c h sound free = absurd (false≢true free)
  own_name (Some no_constant) x p c h sound free = absurd (false≢true free)
  own_name (Some a_faulty_one) x p c h sound free = absurd (false≢true (sym sound))

  pub own_word : (g : Scope) → IsGoodScope d.signals d.memories g → (of : Expr) → is_memory_name g of ≡ true → (h : Head) (i : Term) → HasShape d (select_shape (names g) of) (t.word h (thing_number base (thing_of (look_up g (base_name of).name))) i)
  own_word g good (identifier p x) is h i = by_entry (look_up g x) (good.matches x) is
    where
      by_entry : (o : Option Entry) → EntryMatches d.signals d.memories o → is_memory_entry o ≡ true → HasShape d (indexed_shape (value_entry o)) (t.word h (thing_number base (thing_of o)) i)
      by_entry (Some (a_memory m)) k e = record { width = ap (λ z. z.width) (memory_here m.number) ∙ k.width; signed = ap (λ z. z.signed) (memory_here m.number) ∙ k.signed }
      by_entry None k e = absurd (false≢true e)
      by_entry (Some (a_constant v)) k e = absurd (false≢true e)
      by_entry (Some (a_turn v)) k e = absurd (false≢true e)
      by_entry (Some (a_signal s)) k e = absurd (false≢true e)
      by_entry (Some a_loop_variable) k e = absurd (false≢true e)
      by_entry (Some an_instance) k e = absurd (false≢true e)
      by_entry (Some no_constant) k e = absurd (false≢true e)
      by_entry (Some a_faulty_one) k e = absurd (false≢true e)
  own_word g good (literal p v) is h i = absurd (false≢true is)
  own_word g good (bit_select p of j) is h i = absurd (false≢true is)
  own_word g good (part_select p of j k b) is h i = absurd (false≢true is)
  own_word g good (indexed_part p of b w up k) is h i = absurd (false≢true is)
  own_word g good (unary_operator p op a) is h i = absurd (false≢true is)
  own_word g good (binary_operator p op a b) is h i = absurd (false≢true is)
  own_word g good (conditional p c a b) is h i = absurd (false≢true is)
  own_word g good (concatenation p es) is h i = absurd (false≢true is)
  own_word g good (replication p k es) is h i = absurd (false≢true is)
  own_word g good (sign_cast p s a) is h i = absurd (false≢true is)
  own_word g good (parentheses p a) is h i = absurd (false≢true is)

  own_select : (g : Scope) → IsGoodScope d.signals d.memories g → (of : Expr) (h : Head) (x i j : Term) → HasShape d (select_shape (names g) of) (word_or_bit (is_memory_name g of) (thing_number base (thing_of (look_up g (base_name of).name))) h x i j)
  own_select g good of h x i j = by_test (is_memory_name g of) refl
    where
      by_test : (b : Bool) → is_memory_name g of ≡ b → HasShape d (select_shape (names g) of) (word_or_bit b (thing_number base (thing_of (look_up g (base_name of).name))) h x i j)
      by_test true is = own_word g good of is h i
      by_test false is = subst (λ s. HasShape d s (t.bit h x j)) (sym (bit_shape g of is)) (record { width = refl; signed = refl })

  -- the number that a constant says
  bound_value : (g : Scope) (e : Expr) (n : ℕ) → const.is_constant (names g) e ≡ true → fault_of (names g) e ≡ None → is_bad_bound (number_of (names g) e) ≡ false → natural (value d blank (term base g e n (shape g e))) ≡ count_of (number_of (names g) e)
  bound_value g e n con sound fine = ap natural (constant_value base d blank g e con sound n (shape g e)) ∙ bound_natural (shape g e).signed _ fine

  size_value : (g : Scope) (e : Expr) (n : ℕ) → const.is_constant (names g) e ≡ true → fault_of (names g) e ≡ None → is_below_one (number_of (names g) e) ≡ false → natural (value d blank (term base g e n (shape g e))) ≡ count_of (number_of (names g) e)
  size_value g e n con sound fine = ap natural (constant_value base d blank g e con sound n (shape g e)) ∙ number_natural (shape g e).signed _ fine

  own_unary : (b : Bool) (s : Shape) (w : ℕ) (signed : Bool) → w ≡ s.width → signed ≡ s.signed → ((if b then w else 1) ≡ (if b then s else one_bit).width) × ((b && signed) ≡ (if b then s else one_bit).signed)
  own_unary true s w signed e f = (e, f)
  own_unary false s w signed e f = (refl, refl)

  own_binary : (op : Binary) (a b : Shape) (h : Head) (x y : Term) → HasShape d a x → HasShape d b y → HasShape d (binary_shape op a b) (t.binary h op x y)
  own_binary op a b h x y k l = by_case (taken op)
    where
      by_case : IsTaken op → HasShape d (binary_shape op a b) (t.binary h op x y)
      by_case (inl u) = subst (λ s. HasShape d s (t.binary h op x y)) (sym (u.shape a b)) (record { width = rw (u.wide, k.width, l.width) refl; signed = rw (u.wide, k.signed, l.signed) refl })
      by_case (inr (inl u)) = subst (λ s. HasShape d s (t.binary h op x y)) (sym (u.shape a b)) (record { width = rw (u.wide, u.shift, k.width) refl; signed = rw (u.wide, u.shift, k.signed) refl })
      by_case (inr (inr (inl u))) = subst (λ s. HasShape d s (t.binary h op x y)) (sym (u.shape a b)) (record { width = rw (u.wide, u.shift) refl; signed = rw (u.wide, u.shift) refl })
      by_case (inr (inr (inr u))) = subst (λ s. HasShape d s (t.binary h op x y)) (sym (u.shape a b)) (record { width = rw (u.wide, u.shift) refl; signed = rw (u.wide, u.shift) refl })

  own_choice : (a b : Shape) (h : Head) (c x y : Term) → HasShape d a x → HasShape d b y → HasShape d (meaning.common_shape a b) (t.choice h c x y)
  own_choice a b h c x y k l = record { width = rw (k.width, l.width) refl; signed = rw (k.signed, l.signed) refl }

  mutual
    pub own_shape : (g : Scope) → IsGoodScope d.signals d.memories g → (e : Expr) → none (faults g e) ≡ true → (n : ℕ) (c : Shape) → HasShape d (shape g e) (term base g e n c)
    own_shape g good (literal p v) free n c = record { width = refl; signed = refl }
    own_shape g good (identifier p x) free n c = own_name (look_up g x) (named x p) p c (good.matches x) (good.sound.sound x) free
    own_shape g good (bit_select p of i) free n c = own_select g good of _ _ _ _
    own_shape g good (part_select p of i j b) free n c =
        let parts = four_none (select_faults (selected g of)) (bound_faults g b i (faults g i)) (bound_faults g b j (faults g j)) _ (both_none (faults g of) _ free).1 in
        let high = bound_clean g b i (faults g i) parts.1 (names_sound g good.sound i) in
        let low = bound_clean g b j (faults g j) parts.2 (names_sound g good.sound j) in
        let above = number_clean g i (faults g i) high.0 (names_sound g good.sound i) in
        let below = number_clean g j (faults g j) low.0 (names_sound g good.sound j) in
        let whole = no_const_fault g (part_select p of i j b) free (names_sound g good.sound (part_select p of i j b)) in
        let size = none_in_turn (earlier (fault_of (names g) of) (earlier (bound_fault (names g) b i (fault_of (names g) i)) (bound_fault (names g) b j (fault_of (names g) j)))) _ whole in
        record {
          width = part_same (falls (names g) of) _ _ (count_of (number_of (names g) i)) (count_of (number_of (names g) j))
              (bound_value g i (n + nodes g of) (constant_there g i above.0 above.1) (no_const_fault g i above.1 (names_sound g good.sound i)) (no_fault _ _ _ high.1))
              (bound_value g j (n + nodes g of + nodes g i) (constant_there g j below.0 below.1) (no_const_fault g j below.1 (names_sound g good.sound j)) (no_fault _ _ _ low.1))
              (width_within _ b size.1).0;
          signed = refl;
        }
    own_shape g good (indexed_part p of b w up k) free n c =
        let parts = four_none (select_faults (selected g of)) (faults g b) (width_faults g k w (faults g w)) _ (both_none (faults g of) _ free).1 in
        let width = width_clean g k w (faults g w) parts.2 (names_sound g good.sound w) in
        let number = number_clean g w (faults g w) width.0 (names_sound g good.sound w) in
        record {
          width = size_value g w (n + nodes g of + nodes g b) (constant_there g w number.0 number.1) (no_const_fault g w number.1 (names_sound g good.sound w)) (no_fault _ _ _ (none_in_turn _ (size_fault (count_of (number_of (names g) w)) k) width.1).0);
          signed = refl;
        }
    own_shape g good (unary_operator p op a) free n c =
        let own = own_shape g good a free (n + one_if (names_thing g a)) (operand_shape op (shape g a) c) in
        let both = own_unary (is_wide_unary op) (shape g a) _ _ own.width own.signed in
        record { width = both.0; signed = both.1 }
    own_shape g good (binary_operator p op a b) free n c =
        let counted = names_thing g (binary_operator p op a b) in
        let shapes : Shape × Shape = operand_shapes (operands_of op) (shape g a) (shape g b) c in
        let parts = both_none (faults g a) (faults g b) free in
        own_binary op (shape g a) (shape g b) _ (term base g a (n + one_if counted) shapes.0) (term base g b (n + one_if counted + nodes g a) shapes.1)
        (own_shape g good a parts.0 (n + one_if counted) shapes.0) (own_shape g good b parts.1 (n + one_if counted + nodes g a) shapes.1)
    own_shape g good (conditional p x a b) free n c =
        let parts = three_none (faults g x) (faults g a) (faults g b) free in
        own_choice (shape g a) (shape g b) _ _ (term base g a (n + condition_nodes g x) c) (term base g b (n + condition_nodes g x + nodes g a) c)
        (own_shape g good a parts.1 (n + condition_nodes g x) c) (own_shape g good b parts.2 (n + condition_nodes g x + nodes g a) c)
    own_shape g good (concatenation p es) free n c = record { width = own_shapes g good es (both_none (all_faults g es) _ free).0 n; signed = refl }
    own_shape g good (replication p k es) free n c =
        let parts = both_none (all_faults g es) _ free in
        let number = number_clean g k (faults g k) (both_none (number_faults g k (faults g k)) _ parts.1).0 (names_sound g good.sound k) in
        let whole = no_const_fault g (replication p k es) free (names_sound g good.sound (replication p k es)) in
        let count = no_earlier (count_fault (names g) p k (fault_of (names g) k)) (first_fault (names g) None es) (none_in_turn _ (size_fault (count_of (number_of (names g) k) * (parts_of (names g) es).width) p) whole).0 in
        let con = constant_there g k number.0 number.1 in
        let sound = count_sound g p k con count.0 in
        record { width = rw (size_value g k n con sound.0 sound.1, own_shapes g good es parts.0 (n + nodes g k)) refl; signed = refl }
    own_shape g good (sign_cast p signed a) free n c = record { width = (own_shape g good a free n (shape g a)).width; signed = refl }
    own_shape g good (parentheses p a) free n c = own_shape g good a free n c

    pub own_shapes : (g : Scope) → IsGoodScope d.signals d.memories g → (es : Exprs) → none (all_faults g es) ≡ true → (n : ℕ) → own_widths d (terms base g es n) ≡ (parts_of (names g) es).width
    own_shapes g good no_exprs free n = refl
    own_shapes g good (an_expr e es) free n =
        let parts = both_none (faults g e) (all_faults g es) free in
        rw ((own_shape g good e parts.0 n (shape g e)).width, own_shapes g good es parts.1 (n + nodes g e)) refl
