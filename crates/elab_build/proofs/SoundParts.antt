-- The parts of an expression without a fault have none.
use Rattle.std.proofs.Common.{◌≡◌, ℕ, Bool, true, false, ◌||◌, List, ◌++◌, refl, if◌then◌else◌, Option, Some, None}
use Rattle.std.specs.List.{list_any}
use Rattle.std.proofs.lemmas.List.Folds.{list_any-append}
use Rattle.cov_host.specs.declared.place.Place.{Place}
use Rattle.four_state.specs.declared.operator.Binary.{Binary}
use Rattle.verilog_tree.specs.declared.item.Named.{Named}
use Rattle.verilog_tree.specs.Tree.{Expr, identifier, bit_select, part_select, indexed_part, binary_operator, conditional, concatenation, replication, Exprs, no_exprs, an_expr}
use Rattle.flat_design.specs.Expressions.{faults, all_faults, use_faults, number_faults, bound_faults, width_faults, word_faults, select_faults, selected}
use Rattle.flat_design.specs.Fault.{Fault, none}
use Rattle.flat_design.specs.Identifiers.{identifiers, all_identifiers, named, base_name}
use Rattle.flat_design.specs.Scope.{Scope, look_up, is_faulty_entry, is_memory_name, names_faulty}
use Rattle.flat_design.specs.declared.entry.Entry.{Entry}
use Rattle.flat_design.specs.declared.entry.Entry.TheVariants.{Constant, Turn, Signal, Memory, LoopVariable, Instance, NoConstant, Faulty}
use Rattle.elab_build.specs.Sound.{IsSound, AreSound, is_value}
use Rattle.flat_design.proofs.NoConstFaults.{both_none, three_none, four_none, both_false, neither, neither_of_three, none_then, none_else, number_clean, bound_clean, width_clean}

-- a name that is read without a fault has a value
value_of : (o : Option Entry) (x : Named) → none (use_faults o x) ≡ true → is_faulty_entry o ≡ false → is_value o ≡ true
value_of None x f n = absurd cc
value_of (Some (Constant v)) x f n = refl
value_of (Some (Turn v)) x f n = refl
value_of (Some (Signal v)) x f n = refl
value_of (Some (Memory v)) x f n = absurd cc
value_of (Some LoopVariable) x f n = absurd cc
value_of (Some Instance) x f n = absurd cc
value_of (Some NoConstant) x f n = absurd cc
value_of (Some Faulty) x f n = absurd cc

-- the index of a word without a fault
word_index : (g : Scope) (o : Option Entry) (x : Named) (i : Expr) (is : List Fault) → none (word_faults g o x i is) ≡ true → none is ≡ true
word_index g None x i is f = f
word_index g (Some (Constant v)) x i is f = f
word_index g (Some (Turn v)) x i is f = f
word_index g (Some (Signal v)) x i is f = f
word_index g (Some (Memory m)) x i is f = (both_none is _ f).0
word_index g (Some LoopVariable) x i is f = f
word_index g (Some Instance) x i is f = f
word_index g (Some NoConstant) x i is f = f
word_index g (Some Faulty) x i is f = f

-- something in two lists passes the test
pub any_of_both : {A : Type 0} (p : A → Bool) (xs ys : List A) → list_any p (xs ++ ys) ≡ (list_any p xs || list_any p ys)
any_of_both p xs ys = list_any-append p xs ys

-- a choice that gives no number is the second
pub no_choice : (b : Bool) (n : ℕ) (r : Option ℕ) → r ≡ (if b then Some n else None) → r ≡ None → b ≡ false
no_choice true n r is none = absurd cc
no_choice false n r is none = refl

module _ (g : Scope) where
  -- the name of something whose declaration has a fault
  abbrev is_bad : Named → Bool
  is_bad x = is_faulty_entry (look_up g x.name)

  pub sound_name : (p : Place) (x : List ℕ) → IsSound g (identifier p x) → is_value (look_up g x) ≡ true
  sound_name p x s = value_of (look_up g x) (named x p) s.0 (both_false (is_faulty_entry (look_up g x)) false s.1).0

  pub sound_binary : (p : Place) (op : Binary) (a b : Expr) → IsSound g (binary_operator p op a b) → IsSound g a × IsSound g b
  sound_binary p op a b s =
      let f = both_none (faults g a) (faults g b) s.0 in
      let n = neither is_bad (identifiers a) (identifiers b) s.1 in
      ((f.0, n.0), (f.1, n.1))

  pub sound_choice : (p : Place) (c a b : Expr) → IsSound g (conditional p c a b) → IsSound g c × (IsSound g a × IsSound g b)
  sound_choice p c a b s =
      let f = three_none (faults g c) (faults g a) (faults g b) s.0 in
      let n = neither_of_three is_bad (identifiers c) (identifiers a) (identifiers b) s.1 in
      ((f.0, n.0), ((f.1, n.1), (f.2, n.2)))

  -- a number
  number_part : (e : Expr) → none (number_faults g e (faults g e)) ≡ true → names_faulty g e ≡ false → IsSound g e
  number_part e f n = ((number_clean g e (faults g e) f n).1, n)

  pub sound_part : (p : Place) (of h l : Expr) (b : Place) → IsSound g (part_select p of h l b) → IsSound g of × (IsSound g h × IsSound g l)
  sound_part p of h l b s =
      let f = both_none (faults g of) _ s.0 in
      let q = four_none (select_faults (selected g of)) (bound_faults g b h (faults g h)) (bound_faults g b l (faults g l)) _ f.1 in
      let n = neither_of_three is_bad (identifiers of) (identifiers h) (identifiers l) s.1 in
      ((f.0, n.0), (number_part h (bound_clean g b h (faults g h) q.1 n.1).0 n.1, number_part l (bound_clean g b l (faults g l) q.2 n.2).0 n.2))

  pub sound_slide : (p : Place) (of b w : Expr) (up : Bool) (k : Place) → IsSound g (indexed_part p of b w up k) → IsSound g of × (IsSound g b × IsSound g w)
  sound_slide p of b w up k s =
      let f = both_none (faults g of) _ s.0 in
      let q = four_none (select_faults (selected g of)) (faults g b) (width_faults g k w (faults g w)) _ f.1 in
      let n = neither_of_three is_bad (identifiers of) (identifiers b) (identifiers w) s.1 in
      ((f.0, n.0), ((q.1, n.1), number_part w (width_clean g k w (faults g w) q.2 n.2).0 n.2))

  pub sound_word : (p : Place) (of i : Expr) → is_memory_name g of ≡ true → IsSound g (bit_select p of i) → IsSound g i
  sound_word p of i memory s =
      let f = none_then (is_memory_name g of) (word_faults g (look_up g (base_name of).name) (base_name of) i (faults g i)) _ memory s.0 in
      (word_index g (look_up g (base_name of).name) (base_name of) i (faults g i) f, (neither is_bad (identifiers of) (identifiers i) s.1).1)

  pub sound_bit : (p : Place) (of i : Expr) → is_memory_name g of ≡ false → IsSound g (bit_select p of i) → IsSound g of × IsSound g i
  sound_bit p of i other s =
      let f = none_else (is_memory_name g of) (word_faults g (look_up g (base_name of).name) (base_name of) i (faults g i)) _ other s.0 in
      let q = four_none (faults g of) (select_faults (selected g of)) (faults g i) _ f in
      let n = neither is_bad (identifiers of) (identifiers i) s.1 in
      ((q.0, n.0), (q.2, n.1))

  sound_all : (es : Exprs) → none (all_faults g es) ≡ true → list_any is_bad (all_identifiers es) ≡ false → AreSound g es
  sound_all no_exprs f n = tt
  sound_all (an_expr e es) f n =
      let q = both_none (faults g e) (all_faults g es) f in
      let m = neither is_bad (identifiers e) (all_identifiers es) n in
      ((q.0, m.0), sound_all es q.1 m.1)

  pub sound_concat : (p : Place) (es : Exprs) → IsSound g (concatenation p es) → AreSound g es
  sound_concat p es s = sound_all es (both_none (all_faults g es) _ s.0).0 s.1

  pub sound_repeat : (p : Place) (k : Expr) (es : Exprs) → IsSound g (replication p k es) → IsSound g k × AreSound g es
  sound_repeat p k es s =
      let f = both_none (all_faults g es) _ s.0 in
      let n = neither is_bad (identifiers k) (all_identifiers es) s.1 in
      let q = both_none (number_faults g k (faults g k)) _ f.1 in
      (number_part k q.0 n.0, sound_all es f.0 n.1)
