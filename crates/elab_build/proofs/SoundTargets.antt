-- The parts of a target without a fault, in a scope where no name means something that has a fault.
use Rattle.std.proofs.Common.{◌≡◌, ◌≤◌, Result, Ok, Err, subst, ℕ, Bool, true, false, not, ◌||◌, ◌&&◌, List, [], ◌∷◌, ◌++◌, refl, sym, ap, ◌∙◌, if◌then◌else◌, Option, Some, None, arith}
use Rattle.std.specs.List.{list_any, list_all}
use Rattle.cov_host.specs.declared.place.Place.{Place}
use Rattle.verilog_tree.specs.declared.item.Named.{Named}
use Rattle.verilog_tree.specs.Tree.{Expr, literal, identifier, bit_select, part_select, indexed_part, unary_operator, binary_operator, conditional, concatenation, replication, sign_cast, parentheses, Exprs, no_exprs, an_expr}
use Rattle.four_state.specs.declared.index.Index.{Index}
use Rattle.four_state.specs.declared.index.Index.TheVariants.{At, Below, Strange}
use Rattle.elab_const.specs.Calls.{told}
use Rattle.elab_const.specs.Faults.{constant_answer}
use Rattle.elab_const.specs.Meaning.{parts_of, number_of, count_of}
use Rattle.elab_const.specs.Scope.{or_else, IsWidth}
use Rattle.elab_const.specs.declared.fault.ConstFault.{ConstFault}
use Rattle.four_state.specs.Parts.{index, index_of}
use Rattle.four_state.specs.Vector.{Vector}
use Rattle.elab_const.proofs.AnswerLemmas.{width_within}
use Rattle.flat_design.specs.Expressions.{faults, all_faults, bound_faults, width_faults, word_faults, select_faults, selected, selected_word, joined_faults}
use Rattle.flat_design.specs.Fault.{Fault, fault_at, none}
use Rattle.flat_design.specs.Identifiers.{identifiers, all_identifiers, named, base_name}
use Rattle.flat_design.specs.Loops.{is_identifier}
use Rattle.flat_design.specs.Numbering.{nodes, all_nodes}
use Rattle.flat_design.specs.Scope.{Scope, constant, look_up, is_faulty_entry, is_constant_entry, is_thing_entry, is_memory_name, names, names_faulty}
use Rattle.flat_design.specs.Targets.{target_faults, all_target_faults, leaf_faults, is_part_of_word, fixed_faults, have_shapes}
use Rattle.flat_design.specs.declared.entry.Entry.{Entry}
use Rattle.flat_design.specs.declared.entry.Entry.TheVariants.{Constant, Turn, Signal, Memory, LoopVariable, Instance, NoConstant, Faulty}
use Rattle.flat_design.specs.declared.entry.Mode.{Mode}
use Rattle.flat_design.specs.declared.entry.Mode.TheVariants.{Continuous, Combinational, Clocked}
use Rattle.elab_build.specs.Sound.{IsSound, IsClear, IsSoundTarget}
use Rattle.elab_build.specs.SoundTargets.{EachSoundTarget}
use Rattle.flat_design.proofs.NoConstFaults.{no_const_fault, constant_none, none_both, true_both, both_none, four_none, both_true, each, each_of_three, none_else, number_clean, bound_clean, width_clean}
use Rattle.elab_build.proofs.SoundParts.{sound_bit, sound_word, sound_part, sound_slide}

-- what a list has after a fault that does not hold
none_unless : (b : Bool) (f : Fault) (xs : List Fault) → none (if b then f ∷ [] else xs) ≡ true → none xs ≡ true
none_unless true f xs e = absurd cc
none_unless false f xs e = e

never : (b : Bool) (f : Fault) (xs : List Fault) → b ≡ true → none (if b then f ∷ [] else xs) ≡ false
never true f xs e = refl
never false f xs e = absurd cc

-- where sound parts are not too wide together, there is no fault of their width in any case
joined_same : (a b : Bool) (w : ℕ) (p : Place) → a ≡ true → none (joined_faults a w p) ≡ true → none (joined_faults b w p) ≡ true
joined_same true true w p e f = f
joined_same true false w p e f = refl
joined_same false b w p e f = absurd cc

or_none : (a b : Option _) → or_else a b ≡ None → b ≡ None
or_none None b e = e
or_none (Some f) b e = absurd cc

-- a width without a fault is from 1 to 128
pub clean_width : (g : Scope) (k : Place) (w : Expr) → none (width_faults g k w (faults g w)) ≡ true → names_faulty g w ≡ false → IsWidth (count_of (number_of (names g) w))
clean_width g k w f n = width_within (count_of (number_of (names g) w)) k (or_none _ _ (width_clean g k w (faults g w) f n).1)

-- and its constant is the answer
pub told_width : (g : Scope) (k : Place) (w : Expr) → none (width_faults g k w (faults g w)) ≡ true → names_faulty g w ≡ false → told (constant_answer (names g) w) ≡ Ok (constant g w)
told_width g k w f n =
    let number = number_clean g w (faults g w) (width_clean g k w (faults g w) f n).0 n in
    rw (constant_none g w number.0 number.1) refl

same_value : (r : Result Vector ConstFault) (x y : Vector) → r ≡ Ok x → r ≡ Ok y → x ≡ y
same_value r x y p q = cc

no_answer : (r : Result Vector ConstFault) (x : Vector) (f : ConstFault) → r ≡ Ok x → r ≡ Err f → ⊥
no_answer r x f p q = absurd cc

-- a number that was read as such a width is from 1 to 128
pub read_width : (g : Scope) (k : Place) (w : Expr) (r : Result Vector ConstFault) (v : Vector) (n : Index) → none (width_faults g k w (faults g w)) ≡ true → names_faulty g w ≡ false →
    r ≡ told (constant_answer (names g) w) → r ≡ Ok v → n ≡ index_of (index v.signed v.bits) → IsWidth (count_of n)
read_width g k w r v n f c is ok read =
    let value : constant g w ≡ v = same_value r (constant g w) v (is ∙ told_width g k w f c) ok in
    subst (λ m. IsWidth (count_of m)) (ap (λ v. index_of (index v.signed v.bits)) value ∙ sym read) (clean_width g k w f c)

-- and it is read
pub read_some : (g : Scope) (k : Place) (w : Expr) (r : Result Vector ConstFault) (e : ConstFault) → none (width_faults g k w (faults g w)) ≡ true → names_faulty g w ≡ false → r ≡ told (constant_answer (names g) w) → r ≡ Err e → ⊥
read_some g k w r e f c is err = no_answer r (constant g w) e (is ∙ told_width g k w f c) err

-- what is no number from 0 up counts nothing
pub no_count : (n : Index) → ((k : ℕ) → n ≡ At k → ⊥) → 1 ≤ count_of n → ⊥
no_count (At k) other some = other k refl
no_count Below other some = omega (arith, some)
no_count Strange other some = omega (arith, some)

-- constants are no signals or memories
no_thing : (o : Option Entry) → is_constant_entry o ≡ true → is_thing_entry o ≡ false
no_thing None c = absurd cc
no_thing (Some (Constant v)) c = refl
no_thing (Some (Turn v)) c = refl
no_thing (Some _) c = absurd cc

-- a part of what is no name
bit_part : (p : Place) (of i : Expr) → is_identifier of ≡ false → is_part_of_word (bit_select p of i) ≡ true
bit_part p (identifier q x) i h = absurd cc
bit_part p _ i h = refl

range_part : (p : Place) (of h l : Expr) (b : Place) → is_identifier of ≡ false → is_part_of_word (part_select p of h l b) ≡ true
range_part p (identifier q x) h l b e = absurd cc
range_part p _ h l b e = refl

slide_part : (p : Place) (of b w : Expr) (up : Bool) (k : Place) → is_identifier of ≡ false → is_part_of_word (indexed_part p of b w up k) ≡ true
slide_part p (identifier q x) b w up k e = absurd cc
slide_part p _ b w up k e = refl

and_false : (b : Bool) → (b && false) ≡ false
and_false true = refl
and_false false = refl

module _ (g : Scope) where
  -- a name of a constant
  abbrev is_one : Named → Bool
  is_one x = is_constant_entry (look_up g x.name)

  constants_no_thing : (xs : List Named) → list_all is_one xs ≡ true → list_any (λ x. is_thing_entry (look_up g x.name)) xs ≡ false
  constants_no_thing [] c = refl
  constants_no_thing (x ∷ xs) c =
      let p = both_true (is_one x) (list_all is_one xs) c in
      rw (no_thing (look_up g x.name) p.0, constants_no_thing xs p.1) refl

  -- what names constants alone has no counted nodes
  mutual
    pub constant_nodes : (e : Expr) → list_all is_one (identifiers e) ≡ true → nodes g e ≡ 0
    constant_nodes (literal p v) c = refl
    constant_nodes (identifier p x) c = refl
    constant_nodes (bit_select p of i) c =
        let q = each is_one (identifiers of) (identifiers i) c in
        rw (constant_nodes of q.0, constant_nodes i q.1) refl
    constant_nodes (part_select p of h l b) c =
        let q = each_of_three is_one (identifiers of) (identifiers h) (identifiers l) c in
        rw (constant_nodes of q.0, constant_nodes h q.1, constant_nodes l q.2) refl
    constant_nodes (indexed_part p of b w up k) c =
        let q = each_of_three is_one (identifiers of) (identifiers b) (identifiers w) c in
        rw (constant_nodes of q.0, constant_nodes b q.1, constant_nodes w q.2) refl
    constant_nodes (unary_operator p op a) c = rw (constants_no_thing (identifiers a) c, constant_nodes a c) refl
    constant_nodes (binary_operator p op a b) c =
        let q = each is_one (identifiers a) (identifiers b) c in
        rw (constants_no_thing (identifiers a ++ identifiers b) c, constant_nodes a q.0, constant_nodes b q.1) refl
    constant_nodes (conditional p t a b) c =
        let q = each_of_three is_one (identifiers t) (identifiers a) (identifiers b) c in
        rw (constants_no_thing (identifiers t) q.0, and_false, constant_nodes t q.0, constant_nodes a q.1, constant_nodes b q.2) refl
    constant_nodes (concatenation p es) c = constants_nodes es c
    constant_nodes (replication p n es) c =
        let q = each is_one (identifiers n) (all_identifiers es) c in
        rw (constant_nodes n q.0, constants_nodes es q.1) refl
    constant_nodes (sign_cast p s a) c = constant_nodes a c
    constant_nodes (parentheses p a) c = constant_nodes a c

    constants_nodes : (es : Exprs) → list_all is_one (all_identifiers es) ≡ true → all_nodes g es ≡ 0
    constants_nodes no_exprs c = refl
    constants_nodes (an_expr e es) c =
        let q = each is_one (identifiers e) (all_identifiers es) c in
        rw (constant_nodes e q.0, constants_nodes es q.1) refl

  any_clear : IsClear g → (xs : List Named) → list_any (λ x. is_faulty_entry (look_up g x.name)) xs ≡ false
  any_clear clear [] = refl
  any_clear clear (x ∷ xs) = rw (clear x.name) (any_clear clear xs)

  -- nothing that has a fault is named
  pub clear_names : IsClear g → (e : Expr) → names_faulty g e ≡ false
  clear_names clear e = any_clear clear (identifiers e)

  -- an expression without a fault
  pub clear_sound : IsClear g → (e : Expr) → none (faults g e) ≡ true → IsSound g e
  clear_sound clear e f = (f, clear_names clear e)

  sound_leaf : (mode : Mode) (o : Option Entry) (e : Expr) → none (leaf_faults g mode o e) ≡ true → is_faulty_entry o ≡ false → none (faults g e) ≡ true
  sound_leaf mode None e f c = absurd cc
  sound_leaf mode (Some (Constant v)) e f c = absurd cc
  sound_leaf mode (Some (Turn v)) e f c = absurd cc
  sound_leaf Continuous (Some (Signal s)) e f c = (both_none (faults g e) (fixed_faults g e) (none_unless (s.input || not s.net) _ _ f)).0
  sound_leaf Combinational (Some (Signal s)) e f c = none_unless (s.input || s.net) _ _ f
  sound_leaf Clocked (Some (Signal s)) e f c = none_unless (s.input || s.net) _ _ f
  sound_leaf Continuous (Some (Memory m)) e f c = absurd cc
  sound_leaf Combinational (Some (Memory m)) e f c = absurd cc
  sound_leaf Clocked (Some (Memory m)) e f c = none_unless (is_part_of_word e) _ _ f
  sound_leaf mode (Some LoopVariable) e f c = absurd cc
  sound_leaf mode (Some Instance) e f c = absurd cc
  sound_leaf mode (Some NoConstant) e f c = absurd cc
  sound_leaf mode (Some Faulty) e f c = absurd cc

  -- a part of a word is no target
  no_part_of_word : (mode : Mode) (o : Option Entry) (e : Expr) (x : Named) → none (leaf_faults g mode o e) ≡ true → is_faulty_entry o ≡ false → is_part_of_word e ≡ true → none (select_faults (selected_word o x)) ≡ true → ⊥
  no_part_of_word mode None e x f c w s = absurd cc
  no_part_of_word mode (Some (Constant v)) e x f c w s = absurd cc
  no_part_of_word mode (Some (Turn v)) e x f c w s = absurd cc
  no_part_of_word mode (Some (Signal k)) e x f c w s = absurd cc
  no_part_of_word Continuous (Some (Memory m)) e x f c w s = absurd cc
  no_part_of_word Combinational (Some (Memory m)) e x f c w s = absurd cc
  no_part_of_word Clocked (Some (Memory m)) e x f c w s = let fails = sym f ∙ never (is_part_of_word e) (fault_at _ (base_name e)) (faults g e) w in absurd (cc fails)
  no_part_of_word mode (Some LoopVariable) e x f c w s = absurd cc
  no_part_of_word mode (Some Instance) e x f c w s = absurd cc
  no_part_of_word mode (Some NoConstant) e x f c w s = absurd cc
  no_part_of_word mode (Some Faulty) e x f c w s = absurd cc

  -- what a target selects from is a name, and has no counted nodes
  of_nodes : (mode : Mode) (e of : Expr) → none (leaf_faults g mode (look_up g (base_name of).name) e) ≡ true → is_faulty_entry (look_up g (base_name of).name) ≡ false → (is_identifier of ≡ false → is_part_of_word e ≡ true) →
      none (select_faults (selected g of)) ≡ true → nodes g of ≡ 0
  of_nodes mode e (identifier p x) f c w s = refl
  of_nodes mode e (bit_select p (identifier q x) i) f c w s = absurd (no_part_of_word mode (look_up g x) e (named x q) f c (w refl) s)
  of_nodes mode e _ f c w s = absurd cc

  memory_nodes : (of : Expr) → is_memory_name g of ≡ true → nodes g of ≡ 0
  memory_nodes (identifier p x) m = refl
  memory_nodes _ m = absurd cc

  -- the index of a bit or of a word
  pub target_bit : (p : Place) (of i : Expr) → IsClear g → IsSoundTarget g (bit_select p of i) → IsSound g i × (nodes g of ≡ 0)
  target_bit p of i clear (mode, f) = by_test (is_memory_name g of) refl
    where
      known : is_faulty_entry (look_up g (base_name of).name) ≡ false
      known = clear (base_name of).name

      whole : IsSound g (bit_select p of i)
      whole = clear_sound clear (bit_select p of i) (sound_leaf mode (look_up g (base_name of).name) (bit_select p of i) f known)

      by_test : (b : Bool) → is_memory_name g of ≡ b → IsSound g i × (nodes g of ≡ 0)
      by_test true m = (sound_word g p of i m whole, memory_nodes of m)
      by_test false m =
          let parts = four_none (faults g of) (select_faults (selected g of)) (faults g i) _ (none_else (is_memory_name g of) (word_faults g (look_up g (base_name of).name) (base_name of) i (faults g i)) _ m whole.0) in
          ((sound_bit g p of i m whole).1, of_nodes mode (bit_select p of i) of f known (bit_part p of i) parts.1)

  -- the whole part, its low bound, and that nothing else in it is counted
  pub target_part : (p : Place) (of h l : Expr) (b : Place) → IsClear g → IsSoundTarget g (part_select p of h l b) → IsSound g (part_select p of h l b) × (IsSound g l × ((nodes g of ≡ 0) × (nodes g h ≡ 0)))
  target_part p of h l b clear (mode, f) =
      let known = clear (base_name of).name in
      let whole = clear_sound clear (part_select p of h l b) (sound_leaf mode (look_up g (base_name of).name) (part_select p of h l b) f known) in
      let inner = (both_none (faults g of) _ whole.0).1 in
      let parts = four_none (select_faults (selected g of)) (bound_faults g b h (faults g h)) (bound_faults g b l (faults g l)) _ inner in
      let number = (bound_clean g b h (faults g h) parts.1 (clear_names clear h)).0 in
      let constant = (number_clean g h (faults g h) number (clear_names clear h)).0 in
      (whole, ((sound_part g p of h l b whole).1.1, (of_nodes mode (part_select p of h l b) of f known (range_part p of h l b) parts.0, constant_nodes h constant)))

  -- the base of an indexed part, its width, and that nothing else in it is counted
  pub target_slide : (p : Place) (of b w : Expr) (up : Bool) (k : Place) → IsClear g → IsSoundTarget g (indexed_part p of b w up k) → IsSound g b × ((none (width_faults g k w (faults g w)) ≡ true) × ((nodes g of ≡ 0) × (nodes g w ≡ 0)))
  target_slide p of b w up k clear (mode, f) =
      let known = clear (base_name of).name in
      let whole = clear_sound clear (indexed_part p of b w up k) (sound_leaf mode (look_up g (base_name of).name) (indexed_part p of b w up k) f known) in
      let inner = (both_none (faults g of) _ whole.0).1 in
      let parts = four_none (select_faults (selected g of)) (faults g b) (width_faults g k w (faults g w)) _ inner in
      let number = (width_clean g k w (faults g w) parts.2 (clear_names clear w)).0 in
      let constant = (number_clean g w (faults g w) number (clear_names clear w)).0 in
      ((sound_slide g p of b w up k whole).1.0, (parts.2, (of_nodes mode (indexed_part p of b w up k) of f known (slide_part p of b w up k) parts.0, constant_nodes w constant)))

  each_target : (mode : Mode) (es : Exprs) → none (all_target_faults g mode es) ≡ true → EachSoundTarget g es
  each_target mode no_exprs f = tt
  each_target mode (an_expr e es) f =
      let both = both_none (target_faults g mode e) (all_target_faults g mode es) f in
      ((mode, both.0), each_target mode es both.1)

  -- the targets of a concatenation
  pub target_concat : (p : Place) (es : Exprs) → IsSoundTarget g (concatenation p es) → EachSoundTarget g es
  target_concat p es (mode, f) = each_target mode es (both_none (all_target_faults g mode es) _ f).0

  -- each of the expressions has a width
  all_shapes : (es : Exprs) → IsClear g → none (all_faults g es) ≡ true → have_shapes g es ≡ true
  all_shapes no_exprs clear f = refl
  all_shapes (an_expr e es) clear f =
      let both = both_none (faults g e) (all_faults g es) f in
      rw (no_const_fault g e both.0 (clear_names clear e)) (all_shapes es clear both.1)

  -- a target without a fault has no fault as an expression
  mutual
    target_faultless : (mode : Mode) (e : Expr) → IsClear g → none (target_faults g mode e) ≡ true → none (faults g e) ≡ true
    target_faultless mode (concatenation p es) clear f =
        let parts = both_none (all_target_faults g mode es) _ f in
        let all = targets_faultless mode es clear parts.0 in
        let known = true_both (none (all_target_faults g mode es)) (have_shapes g es) parts.0 (all_shapes es clear all) in
        none_both (all_faults g es) _ all (joined_same _ _ (parts_of (names g) es).width p known parts.1)
    target_faultless mode (literal p v) clear f = refl
    target_faultless mode (identifier p x) clear f = sound_leaf mode (look_up g x) (identifier p x) f (clear x)
    target_faultless mode (bit_select p of i) clear f = sound_leaf mode (look_up g (base_name of).name) (bit_select p of i) f (clear (base_name of).name)
    target_faultless mode (part_select p of h l b) clear f = sound_leaf mode (look_up g (base_name of).name) (part_select p of h l b) f (clear (base_name of).name)
    target_faultless mode (indexed_part p of b w up k) clear f = sound_leaf mode (look_up g (base_name of).name) (indexed_part p of b w up k) f (clear (base_name of).name)
    target_faultless mode (unary_operator p op a) clear f = sound_leaf mode (look_up g []) (unary_operator p op a) f (clear [])
    target_faultless mode (binary_operator p op a b) clear f = sound_leaf mode (look_up g []) (binary_operator p op a b) f (clear [])
    target_faultless mode (conditional p c a b) clear f = sound_leaf mode (look_up g []) (conditional p c a b) f (clear [])
    target_faultless mode (replication p n es) clear f = sound_leaf mode (look_up g []) (replication p n es) f (clear [])
    target_faultless mode (sign_cast p s a) clear f = sound_leaf mode (look_up g []) (sign_cast p s a) f (clear [])
    target_faultless mode (parentheses p a) clear f = sound_leaf mode (look_up g []) (parentheses p a) f (clear [])

    targets_faultless : (mode : Mode) (es : Exprs) → IsClear g → none (all_target_faults g mode es) ≡ true → none (all_faults g es) ≡ true
    targets_faultless mode no_exprs clear f = refl
    targets_faultless mode (an_expr e es) clear f =
        let both = both_none (target_faults g mode e) (all_target_faults g mode es) f in
        none_both (faults g e) (all_faults g es) (target_faultless mode e clear both.0) (targets_faultless mode es clear both.1)

  pub target_sound : (e : Expr) → IsClear g → IsSoundTarget g e → IsSound g e
  target_sound e clear (mode, f) = clear_sound clear e (target_faultless mode e clear f)
