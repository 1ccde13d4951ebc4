-- An expression that has no fault, and names nothing that has one, has no fault of constants, bounds and widths.
use Rattle.std.proofs.Common.{◌≡◌, ◌∙◌, refl, sym, ℕ, ◌*◌, nat_le, Bool, true, false, not, ◌&&◌, ◌||◌, if◌then◌else◌, List, [], ◌∷◌, ◌++◌, flat_map, is_none, Option, Some, None}
use Rattle.std.specs.List.{list_all, list_any}
use Rattle.std.proofs.lemmas.List.Folds.{list_any-append, list_all-append}
use Rattle.cov_host.specs.declared.place.Place.{Place}
use Rattle.design_model.specs.declared.design.Range.{Range}
use Rattle.verilog_tree.specs.declared.item.Named.{Named}
use Rattle.verilog_tree.specs.Tree.{Expr, literal, identifier, bit_select, part_select, indexed_part, unary_operator, binary_operator, conditional, concatenation, replication, sign_cast, parentheses, Exprs, no_exprs, an_expr, place_of}
use Rattle.elab_const.specs.Calls.{told}
use Rattle.elab_const.specs.Faults as const
use Rattle.elab_const.specs.Faults.{fault_of, first_fault, is_constant, are_constant, is_no_number, is_bad_bound, is_below_one, size_fault, bound_fault, width_fault, count_fault, number_fault, constant_fault, bound_from, size_from, count_from}
use Rattle.elab_const.specs.Meaning.{number_of, count_of, parts_of, part_width, falls, signal_falls, word_falls, is_falling}
use Rattle.elab_const.specs.Scope as const_scope
use Rattle.elab_const.specs.Scope.{unless, or_else, earlier}
use Rattle.elab_const.specs.declared.fault.ConstKind.TheVariants.{NotConstant, BadRange}
use Rattle.flat_design.specs.Expressions.{faults, all_faults, use_faults, Selected, selected, selected_of, selected_name, selected_word, select_faults, part_range_faults, bound_faults, width_faults, number_faults, constant_faults, undeclared, is_no_constant, names_no_constant, is_sound_constant, is_sound_number, bit_faults, word_faults, index_faults, joined_faults, replication_faults, size_faults}
use Rattle.flat_design.specs.Fault.{Fault, fault_at, fault_if, of_constant, answer_faults, none}
use Rattle.flat_design.specs.declared.fault.ElabKind.TheVariants.{Undeclared}
use Rattle.flat_design.specs.Identifiers.{named, identifiers, all_identifiers, base_name}
use Rattle.flat_design.specs.declared.entry.Entry.{Entry}
use Rattle.flat_design.specs.declared.entry.Entry.TheVariants.{Constant as a_constant, Turn as a_turn, Signal as a_signal, Memory as a_memory, Faulty as a_faulty_one}
use Rattle.flat_design.specs.Scope.{Scope, look_up, names, value_entry, range_or, is_ranged, is_constant_entry, is_faulty_entry, is_memory_entry, is_memory_name, names_constants, names_faulty, natural_number}

-- both lists are empty
pub both_none : {A : Type 0} (xs ys : List A) → none (xs ++ ys) ≡ true → (none xs ≡ true) × (none ys ≡ true)
both_none [] ys e = (refl, e)
both_none (x ∷ xs) ys e = absurd cc

pub three_none : {A : Type 0} (xs ys zs : List A) → none (xs ++ ys ++ zs) ≡ true → (none xs ≡ true) × (none ys ≡ true) × (none zs ≡ true)
three_none xs ys zs e =
    let p = both_none (xs ++ ys) zs e in
    let q = both_none xs ys p.0 in
    (q.0, q.1, p.1)

pub four_none : {A : Type 0} (ws xs ys zs : List A) → none (ws ++ xs ++ ys ++ zs) ≡ true → (none ws ≡ true) × (none xs ≡ true) × (none ys ≡ true) × (none zs ≡ true)
four_none ws xs ys zs e =
    let p = both_none (ws ++ xs ++ ys) zs e in
    let q = three_none ws xs ys p.0 in
    (q.0, q.1, q.2, p.1)

-- so is what they are together
pub none_both : {A : Type 0} (xs ys : List A) → none xs ≡ true → none ys ≡ true → none (xs ++ ys) ≡ true
none_both [] ys x y = y
none_both (a ∷ xs) ys x y = absurd cc

-- both tests hold
pub both_true : (a b : Bool) → (a && b) ≡ true → (a ≡ true) × (b ≡ true)
both_true true b e = (refl, e)
both_true false b e = absurd cc

pub true_both : (a b : Bool) → a ≡ true → b ≡ true → (a && b) ≡ true
true_both true b p q = q
true_both false b p q = absurd cc

-- neither test holds
pub both_false : (a b : Bool) → (a || b) ≡ false → (a ≡ false) × (b ≡ false)
both_false false b e = (refl, e)
both_false true b e = absurd cc

pub is_not : (a : Bool) → a ≡ false → not a ≡ true
is_not false e = refl
is_not true e = absurd cc

-- a test that fails on all of both lists
pub neither : {X : Type 0} (p : X → Bool) (xs ys : List X) → list_any p (xs ++ ys) ≡ false → (list_any p xs ≡ false) × (list_any p ys ≡ false)
neither p xs ys e = both_false _ _ (sym (list_any-append p xs ys) ∙ e)

-- a test that holds on all of both lists
pub each : {X : Type 0} (p : X → Bool) (xs ys : List X) → list_all p (xs ++ ys) ≡ true → (list_all p xs ≡ true) × (list_all p ys ≡ true)
each p xs ys e = both_true _ _ (sym (list_all-append p xs ys) ∙ e)

pub neither_of_three : {X : Type 0} (p : X → Bool) (xs ys zs : List X) → list_any p (xs ++ ys ++ zs) ≡ false → (list_any p xs ≡ false) × (list_any p ys ≡ false) × (list_any p zs ≡ false)
neither_of_three p xs ys zs e =
    let a = neither p (xs ++ ys) zs e in
    let b = neither p xs ys a.0 in
    (b.0, b.1, a.1)

pub each_of_three : {X : Type 0} (p : X → Bool) (xs ys zs : List X) → list_all p (xs ++ ys ++ zs) ≡ true → (list_all p xs ≡ true) × (list_all p ys ≡ true) × (list_all p zs ≡ true)
each_of_three p xs ys zs e =
    let a = each p (xs ++ ys) zs e in
    let b = each p xs ys a.0 in
    (b.0, b.1, a.1)

-- what counts where the test holds
pub none_then : {A : Type 0} (b : Bool) (xs ys : List A) → b ≡ true → none (if b then xs else ys) ≡ true → none xs ≡ true
none_then true xs ys b e = e
none_then false xs ys b e = absurd cc

pub none_else : {A : Type 0} (b : Bool) (xs ys : List A) → b ≡ false → none (if b then xs else ys) ≡ true → none ys ≡ true
none_else false xs ys b e = e
none_else true xs ys b e = absurd cc

-- the test of a fault that is not reported does not hold
pub not_if : (b : Bool) (f : Fault) → none (fault_if b f) ≡ true → b ≡ false
not_if false f e = refl
not_if true f e = absurd cc

-- an answer without fault
pub answer_none : {A : Type 0} (o : Option _) (x : A) → none (answer_faults (told (unless o x))) ≡ true → o ≡ None
answer_none None x e = refl
answer_none (Some f) x e = absurd cc

-- an entry that is declared, is no constant's fault and has no fault, is a constant
constant_if : (o : Option Entry) (f : Fault) → none (fault_if (is_none o) f) ≡ true → is_no_constant o ≡ false → is_faulty_entry o ≡ false → is_constant_entry o ≡ true
constant_if None f a b c = absurd cc
constant_if (Some (a_constant v)) f a b c = refl
constant_if (Some (a_turn v)) f a b c = refl
constant_if (Some a_faulty_one) f a b c = absurd cc
constant_if (Some _) f a b c = absurd cc

constants_if : (g : Scope) (xs : List Named) → none (flat_map (λ x. fault_if (is_none (look_up g x.name)) (fault_at Undeclared x)) xs) ≡ true →
    list_any (λ x. is_no_constant (look_up g x.name)) xs ≡ false → list_any (λ x. is_faulty_entry (look_up g x.name)) xs ≡ false → list_all (λ x. is_constant_entry (look_up g x.name)) xs ≡ true
constants_if g [] a b c = refl
constants_if g (x ∷ xs) a b c =
    let p = both_none (fault_if (is_none (look_up g x.name)) (fault_at Undeclared x)) (flat_map (λ x. fault_if (is_none (look_up g x.name)) (fault_at Undeclared x)) xs) a in
    let q = both_false (is_no_constant (look_up g x.name)) (list_any (λ x. is_no_constant (look_up g x.name)) xs) b in
    let r = both_false (is_faulty_entry (look_up g x.name)) (list_any (λ x. is_faulty_entry (look_up g x.name)) xs) c in
    true_both _ _ (constant_if (look_up g x.name) (fault_at Undeclared x) p.0 q.0 r.0) (constants_if g xs p.1 q.1 r.1)

-- constants have no faults
constant_sound : (o : Option Entry) → is_constant_entry o ≡ true → is_faulty_entry o ≡ false
constant_sound None a = absurd cc
constant_sound (Some (a_constant v)) a = refl
constant_sound (Some (a_turn v)) a = refl
constant_sound (Some _) a = absurd cc

constants_sound : (g : Scope) (xs : List Named) → list_all (λ x. is_constant_entry (look_up g x.name)) xs ≡ true → list_any (λ x. is_faulty_entry (look_up g x.name)) xs ≡ false
constants_sound g [] a = refl
constants_sound g (x ∷ xs) a =
    let p = both_true (is_constant_entry (look_up g x.name)) (list_all (λ x. is_constant_entry (look_up g x.name)) xs) a in
    rw (constant_sound (look_up g x.name) p.0, constants_sound g xs p.1) refl

-- what names constants alone names nothing that has a fault
pub constant_not_faulty : (g : Scope) (e : Expr) → names_constants g e ≡ true → names_faulty g e ≡ false
constant_not_faulty g e a = constants_sound g (identifiers e) a

-- an expression that must be constant, without a fault
pub constant_clean : (g : Scope) (e : Expr) (fs : List Fault) → none (constant_faults g e fs) ≡ true → names_faulty g e ≡ false → (names_constants g e ≡ true) × (none fs ≡ true)
constant_clean g e fs a b =
    let wrong = fault_if (names_no_constant g e) (of_constant NotConstant (place_of e)) in
    let p = three_none (undeclared g e) wrong fs a in
    (constants_if g (identifiers e) p.0 (not_if _ _ p.1) b, p.2)

-- and that must be a number
pub number_clean : (g : Scope) (e : Expr) (fs : List Fault) → none (number_faults g e fs) ≡ true → names_faulty g e ≡ false →
    (names_constants g e ≡ true) × (none fs ≡ true) × (is_no_number (number_of (names g) e) ≡ false)
number_clean g e fs a b =
    let p = both_none (constant_faults g e fs) _ a in
    let c = constant_clean g e fs p.0 b in
    let n = not_if (is_sound_constant g e fs && is_no_number (number_of (names g) e)) _ p.1 in
    (c.0, c.1, not_both _ _ (true_both _ _ c.0 c.1) n)
  where
    not_both : (x y : Bool) → x ≡ true → (x && y) ≡ false → y ≡ false
    not_both true y p q = q
    not_both false y p q = absurd cc

-- it is a sound number
pub number_sound : (g : Scope) (e : Expr) (fs : List Fault) → none (number_faults g e fs) ≡ true → names_faulty g e ≡ false → is_sound_number g e fs ≡ true
number_sound g e fs a b = true_both _ _ (number_clean g e fs a b).0 a

-- a bound without a fault
pub bound_clean : (g : Scope) (p : Place) (e : Expr) (fs : List Fault) → none (bound_faults g p e fs) ≡ true → names_faulty g e ≡ false →
    (none (number_faults g e fs) ≡ true) × (const_scope.fault_if (is_bad_bound (number_of (names g) e)) BadRange p ≡ None)
bound_clean g p e fs a b =
    let q = both_none (number_faults g e fs) _ a in
    (q.0, answer_none _ _ (none_then (is_sound_number g e fs) _ [] (number_sound g e fs q.0 b) q.1))

-- the width of a part without a fault
pub width_clean : (g : Scope) (p : Place) (e : Expr) (fs : List Fault) → none (width_faults g p e fs) ≡ true → names_faulty g e ≡ false →
    (none (number_faults g e fs) ≡ true) × (or_else (const_scope.fault_if (is_below_one (number_of (names g) e)) BadRange p) (size_fault (count_of (number_of (names g) e)) p) ≡ None)
width_clean g p e fs a b =
    let q = both_none (number_faults g e fs) _ a in
    (q.0, answer_none _ _ (none_then (is_sound_number g e fs) _ [] (number_sound g e fs q.0 b) q.1))

-- the count of a replication without a fault, and the width of all copies
pub count_clean : (g : Scope) (p : Place) (e : Expr) (fs : List Fault) (width : ℕ) → none (replication_faults g p e fs true width) ≡ true → names_faulty g e ≡ false →
    (none (number_faults g e fs) ≡ true) × (const_scope.fault_if (is_below_one (number_of (names g) e)) BadRange p ≡ None) × (size_fault (natural_number g e * width) p ≡ None)
count_clean g p e fs width a b =
    let q = both_none (number_faults g e fs) _ a in
    let r = go (is_below_one (number_of (names g) e)) (count_of (number_of (names g) e)) (none_then (is_sound_number g e fs) _ [] (number_sound g e fs q.0 b) q.1) in
    (q.0, r.0, r.1)
  where
    go : (below : Bool) (n : ℕ) → none (if below then answer_faults (told (unless (const_scope.fault_if below BadRange p) n)) else joined_faults true (n * width) p) ≡ true →
        (const_scope.fault_if below BadRange p ≡ None) × (size_fault (n * width) p ≡ None)
    go true n e = absurd cc
    go false n e = (refl, answer_none _ _ e)

-- what is selected from names constants alone has no bits
no_selects : (g : Scope) (e : Expr) → names_constants g e ≡ true → none (select_faults (selected g e)) ≡ false
no_selects g (identifier p x) a = go (look_up g x) (both_true _ true a).0
  where
    go : (o : Option Entry) → is_constant_entry o ≡ true → none (select_faults (selected_name o (named x p))) ≡ false
    go None b = absurd cc
    go (Some (a_constant v)) b = refl
    go (Some (a_turn v)) b = refl
    go (Some _) b = absurd cc
no_selects g (bit_select p (identifier q x) i) a = go (look_up g x) (both_true _ _ a).0
  where
    go : (o : Option Entry) → is_constant_entry o ≡ true → none (select_faults (selected_word o (named x q))) ≡ false
    go None b = absurd cc
    go (Some (a_constant v)) b = refl
    go (Some (a_turn v)) b = refl
    go (Some _) b = absurd cc
no_selects g _ a = refl

-- and is no memory
no_memory : (g : Scope) (e : Expr) → names_constants g e ≡ true → is_memory_name g e ≡ false
no_memory g (identifier p x) a = go (look_up g x) (both_true _ true a).0
  where
    go : (o : Option Entry) → is_constant_entry o ≡ true → is_memory_entry o ≡ false
    go None b = absurd cc
    go (Some (a_constant v)) b = refl
    go (Some (a_turn v)) b = refl
    go (Some _) b = absurd cc
no_memory g _ a = refl

-- so a select from it has a fault
no_select : {A : Type 0} (g : Scope) (of : Expr) → names_constants g of ≡ true → none (select_faults (selected g of)) ≡ true → A
no_select g of a b = let e = sym b ∙ no_selects g of a in absurd (true_is_false e)
  where
    true_is_false : true ≡ false → ⊥
    true_is_false e = absurd cc

constant_name : (o : Option Entry) → is_constant_entry o ≡ true → const.is_constant_entry (value_entry o) ≡ true
constant_name None a = absurd cc
constant_name (Some (a_constant v)) a = refl
constant_name (Some (a_turn v)) a = refl
constant_name (Some _) a = absurd cc

-- what names constants alone and has no fault selects nothing from them
mutual
  pub constant_there : (g : Scope) (e : Expr) → names_constants g e ≡ true → none (faults g e) ≡ true → is_constant (names g) e ≡ true
  constant_there g (literal p v) a b = refl
  constant_there g (identifier p x) a b = constant_name (look_up g x) (both_true _ true a).0
  constant_there g (bit_select p of i) a b =
      let c = (each (λ x. is_constant_entry (look_up g x.name)) (identifiers of) (identifiers i) a).0 in
      no_select g of c (four_none (faults g of) (select_faults (selected g of)) (faults g i) _ (none_else (is_memory_name g of) _ _ (no_memory g of c) b)).1
  constant_there g (part_select p of h l k) a b =
      let c = (each_of_three (λ x. is_constant_entry (look_up g x.name)) (identifiers of) (identifiers h) (identifiers l) a).0 in
      no_select g of c (four_none (select_faults (selected g of)) _ _ _ (both_none (faults g of) _ b).1).0
  constant_there g (indexed_part p of k w up q) a b =
      let c = (each_of_three (λ x. is_constant_entry (look_up g x.name)) (identifiers of) (identifiers k) (identifiers w) a).0 in
      no_select g of c (four_none (select_faults (selected g of)) _ _ _ (both_none (faults g of) _ b).1).0
  constant_there g (unary_operator p op x) a b = constant_there g x a b
  constant_there g (binary_operator p op x y) a b =
      let c = each (λ x. is_constant_entry (look_up g x.name)) (identifiers x) (identifiers y) a in
      let d = both_none (faults g x) (faults g y) b in
      true_both _ _ (constant_there g x c.0 d.0) (constant_there g y c.1 d.1)
  constant_there g (conditional p t x y) a b =
      let c = each_of_three (λ x. is_constant_entry (look_up g x.name)) (identifiers t) (identifiers x) (identifiers y) a in
      let d = three_none (faults g t) (faults g x) (faults g y) b in
      true_both _ _ (true_both _ _ (constant_there g t c.0 d.0) (constant_there g x c.1 d.1)) (constant_there g y c.2 d.2)
  constant_there g (concatenation p es) a b = constants_there g es a (both_none (all_faults g es) _ b).0
  constant_there g (replication p n es) a b =
      let c = each (λ x. is_constant_entry (look_up g x.name)) (identifiers n) (all_identifiers es) a in
      let d = both_none (all_faults g es) _ b in
      let e = both_none (number_faults g n (faults g n)) _ d.1 in
      let f = number_clean g n (faults g n) e.0 (constant_not_faulty g n c.0) in
      true_both _ _ (constant_there g n c.0 f.1) (constants_there g es c.1 d.0)
  constant_there g (sign_cast p s x) a b = constant_there g x a b
  constant_there g (parentheses p x) a b = constant_there g x a b

  pub constants_there : (g : Scope) (es : Exprs) → list_all (λ x. is_constant_entry (look_up g x.name)) (all_identifiers es) ≡ true → none (all_faults g es) ≡ true → are_constant (names g) es ≡ true
  constants_there g no_exprs a b = refl
  constants_there g (an_expr e es) a b =
      let c = each (λ x. is_constant_entry (look_up g x.name)) (identifiers e) (all_identifiers es) a in
      let d = both_none (faults g e) (all_faults g es) b in
      true_both _ _ (constant_there g e c.0 d.0) (constants_there g es c.1 d.1)

number_none : (g : Scope) (e : Expr) (fs : List Fault) → none (number_faults g e fs) ≡ true → names_faulty g e ≡ false → is_constant (names g) e ≡ true → fault_of (names g) e ≡ None →
    number_fault (names g) e (fault_of (names g) e) ≡ None
number_none g e fs a b con n = rw (con, n, (number_clean g e fs a b).2) refl

-- a part of a name's bits
range_part : (r : Option Range) (x : Named) (p : Place) (h l : ℕ) → none (select_faults (selected_of r x)) ≡ true → none (part_range_faults (selected_of r x) p h l) ≡ true →
    size_fault (part_width (is_falling (is_ranged r) (range_or r).high (range_or r).low) h l) p ≡ None
range_part None x p h l a b = absurd cc
range_part (Some r) x p h l a b = answer_none _ _ (both_none (size_faults (part_width (nat_le r.low r.high) h l) p) _ b).0

name_part : (o : Option Entry) (x : Named) (p : Place) (h l : ℕ) → none (use_faults o x) ≡ true → is_faulty_entry o ≡ false → none (select_faults (selected_name o x)) ≡ true →
    none (part_range_faults (selected_name o x) p h l) ≡ true → size_fault (part_width (signal_falls (value_entry o)) h l) p ≡ None
name_part None x p h l u f s a = absurd cc
name_part (Some (a_signal k)) x p h l u f s a = range_part k.range x p h l s a
name_part (Some a_faulty_one) x p h l u f s a = absurd cc
name_part (Some _) x p h l u f s a = absurd cc

word_part : (o : Option Entry) (x : Named) (p : Place) (h l : ℕ) (ws xs ys zs : List Fault) → none (if is_memory_entry o then ws else use_faults o x ++ xs ++ ys ++ zs) ≡ true → is_faulty_entry o ≡ false →
    none (select_faults (selected_word o x)) ≡ true → none (part_range_faults (selected_word o x) p h l) ≡ true → size_fault (part_width (word_falls (value_entry o)) h l) p ≡ None
word_part None x p h l ws xs ys zs u f s a = absurd cc
word_part (Some (a_memory k)) x p h l ws xs ys zs u f s a = range_part k.range x p h l s a
word_part (Some a_faulty_one) x p h l ws xs ys zs u f s a = absurd cc
word_part (Some _) x p h l ws xs ys zs u f s a = absurd cc

nothing_selected : {A : Type 0} (x : Named) → none (select_faults (Selected.no_bits x)) ≡ true → A
nothing_selected x s = absurd cc

selected_part : (g : Scope) (of : Expr) (p : Place) (h l : ℕ) → none (faults g of) ≡ true → names_faulty g of ≡ false → none (select_faults (selected g of)) ≡ true →
    none (part_range_faults (selected g of) p h l) ≡ true → size_fault (part_width (falls (names g) of) h l) p ≡ None
selected_part g (identifier q x) p h l u f s a = name_part (look_up g x) (named x q) p h l u (both_false _ false f).0 s a
selected_part g (bit_select q (identifier r x) i) p h l u f s a = word_part (look_up g x) (named x r) p h l _ _ _ _ u (both_false _ _ f).0 s a
selected_part g of p h l u f s a = nothing_selected (base_name of) s

-- a name that has a value
name_none : (o : Option Entry) (x : Named) (p : Place) → none (use_faults o x) ≡ true → is_faulty_entry o ≡ false → const_scope.fault_if (const.is_unknown (value_entry o)) NotConstant p ≡ None
name_none None x p u f = absurd cc
name_none (Some (a_constant v)) x p u f = refl
name_none (Some (a_turn v)) x p u f = refl
name_none (Some (a_signal s)) x p u f = refl
name_none (Some _) x p u f = absurd cc

-- what comes before a select
before_none : (g : Scope) (of : Expr) (i : Expr) (is : List Fault) → none (bit_faults g of (faults g of) i is) ≡ true → (none is ≡ true) × (is_memory_name g of ≡ false → none (faults g of) ≡ true)
before_none g of i is a = go (is_memory_name g of) (look_up g (base_name of).name) refl a
  where
    go : (memory : Bool) (o : Option Entry) → memory ≡ memory → none (if memory then word_faults g o (base_name of) i is else faults g of ++ select_faults (selected g of) ++ is ++ index_faults g (selected g of) i is) ≡ true →
        (none is ≡ true) × (memory ≡ false → none (faults g of) ≡ true)
    go false o m a = let p = four_none (faults g of) (select_faults (selected g of)) is _ a in (p.2, λ e. p.0)
    go true None m a = (a, λ e. absurd cc)
    go true (Some (a_memory k)) m a = ((both_none is _ a).0, λ e. absurd cc)
    go true (Some _) m a = (a, λ e. absurd cc)

-- a memory has a value
memory_none : (o : Option Entry) (p : Place) → is_memory_entry o ≡ true → const_scope.fault_if (const.is_unknown (value_entry o)) NotConstant p ≡ None
memory_none None p a = absurd cc
memory_none (Some (a_memory m)) p a = refl
memory_none (Some _) p a = absurd cc

memory_name_none : (g : Scope) (of : Expr) → is_memory_name g of ≡ true → fault_of (names g) of ≡ None
memory_name_none g (identifier p x) a = memory_none (look_up g x) p a
memory_name_none g _ a = absurd cc

select_none : (g : Scope) (of : Expr) → (is_memory_name g of ≡ false → fault_of (names g) of ≡ None) → fault_of (names g) of ≡ None
select_none g of other = go (is_memory_name g of) (memory_name_none g of) other
  where
    go : (b : Bool) → (b ≡ true → fault_of (names g) of ≡ None) → (b ≡ false → fault_of (names g) of ≡ None) → fault_of (names g) of ≡ None
    go true p q = p refl
    go false p q = q refl

abbrev faulty : Scope → Named → Bool
faulty g x = is_faulty_entry (look_up g x.name)

mutual
  pub no_const_fault : (g : Scope) (e : Expr) → none (faults g e) ≡ true → names_faulty g e ≡ false → fault_of (names g) e ≡ None
  no_const_fault g (literal p v) a b = refl
  no_const_fault g (identifier p x) a b = name_none (look_up g x) (named x p) p a (both_false _ false b).0
  no_const_fault g (bit_select p of i) a b =
      let c = neither (faulty g) (identifiers of) (identifiers i) b in
      let d = before_none g of i (faults g i) a in
      rw (select_none g of (λ m. no_const_fault g of (d.1 m) c.0), no_const_fault g i d.0 c.1) refl
  no_const_fault g (part_select p of h l k) a b =
      let c = neither_of_three (faulty g) (identifiers of) (identifiers h) (identifiers l) b in
      let d = both_none (faults g of) _ a in
      let e = four_none (select_faults (selected g of)) (bound_faults g k h (faults g h)) (bound_faults g k l (faults g l)) _ d.1 in
      let high = bound_clean g k h (faults g h) e.1 c.1 in
      let low = bound_clean g k l (faults g l) e.2 c.2 in
      let hc = number_clean g h (faults g h) high.0 c.1 in
      let lc = number_clean g l (faults g l) low.0 c.2 in
      let inside = true_both _ _ (true_both _ _ hc.0 lc.0) (none_both (bound_faults g k h (faults g h)) (bound_faults g k l (faults g l)) e.1 e.2) in
      let size = selected_part g of k (natural_number g h) (natural_number g l) d.0 c.0 e.0 (none_then _ _ [] inside e.3) in
      let hn = number_none g h (faults g h) high.0 c.1 (constant_there g h hc.0 hc.1) (no_const_fault g h hc.1 c.1) in
      let ln = number_none g l (faults g l) low.0 c.2 (constant_there g l lc.0 lc.1) (no_const_fault g l lc.1 c.2) in
      rw (no_const_fault g of d.0 c.0, hn, ln, high.1, low.1, size) refl
  no_const_fault g (indexed_part p of k w up q) a b =
      let c = neither_of_three (faulty g) (identifiers of) (identifiers k) (identifiers w) b in
      let d = both_none (faults g of) _ a in
      let e = four_none (select_faults (selected g of)) (faults g k) (width_faults g q w (faults g w)) _ d.1 in
      let width = width_clean g q w (faults g w) e.2 c.2 in
      let wc = number_clean g w (faults g w) width.0 c.2 in
      let wn = number_none g w (faults g w) width.0 c.2 (constant_there g w wc.0 wc.1) (no_const_fault g w wc.1 c.2) in
      rw (no_const_fault g of d.0 c.0, no_const_fault g k e.1 c.1, wn, width.1) refl
  no_const_fault g (unary_operator p op x) a b = no_const_fault g x a b
  no_const_fault g (binary_operator p op x y) a b =
      let c = neither (faulty g) (identifiers x) (identifiers y) b in
      let d = both_none (faults g x) (faults g y) a in
      rw (no_const_fault g x d.0 c.0, no_const_fault g y d.1 c.1) refl
  no_const_fault g (conditional p t x y) a b =
      let c = neither_of_three (faulty g) (identifiers t) (identifiers x) (identifiers y) b in
      let d = three_none (faults g t) (faults g x) (faults g y) a in
      rw (no_const_fault g t d.0 c.0, no_const_fault g x d.1 c.1, no_const_fault g y d.2 c.2) refl
  no_const_fault g (concatenation p es) a b =
      let d = both_none (all_faults g es) _ a in
      let size = answer_none _ _ (none_then _ _ [] (true_both _ _ d.0 (is_not _ b)) d.1) in
      rw (no_const_faults g es d.0 b, size) refl
  no_const_fault g (replication p n es) a b =
      let c = neither (faulty g) (identifiers n) (all_identifiers es) b in
      let d = both_none (all_faults g es) _ a in
      let sound = true_both _ _ d.0 (is_not _ c.1) in
      let e = count_clean g p n (faults g n) (parts_of (names g) es).width (rw sound at d.1) c.0 in
      let nc = number_clean g n (faults g n) e.0 c.0 in
      let nn = number_none g n (faults g n) e.0 c.0 (constant_there g n nc.0 nc.1) (no_const_fault g n nc.1 c.0) in
      rw (nn, e.1, no_const_faults g es d.0 c.1, e.2) refl
  no_const_fault g (sign_cast p s x) a b = no_const_fault g x a b
  no_const_fault g (parentheses p x) a b = no_const_fault g x a b

  pub no_const_faults : (g : Scope) (es : Exprs) → none (all_faults g es) ≡ true → list_any (λ x. is_faulty_entry (look_up g x.name)) (all_identifiers es) ≡ false → first_fault (names g) None es ≡ None
  no_const_faults g no_exprs a b = refl
  no_const_faults g (an_expr e es) a b =
      let c = neither (faulty g) (identifiers e) (all_identifiers es) b in
      let d = both_none (faults g e) (all_faults g es) a in
      rw (no_const_fault g e d.0 c.0) (no_const_faults g es d.1 c.1)

-- a constant without a fault has its value
pub constant_none : (g : Scope) (e : Expr) → names_constants g e ≡ true → none (faults g e) ≡ true → constant_fault (names g) e (fault_of (names g) e) ≡ None
constant_none g e a b = rw (constant_there g e a b) (no_const_fault g e b (constant_not_faulty g e a))
