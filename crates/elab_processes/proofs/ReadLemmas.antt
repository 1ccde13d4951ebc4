-- The parts of an expression that read, in order, and that they have no fault where the expression has no fault.
use Rattle.std.proofs.Common.{◌≡◌, refl, sym, ap, ◌∙◌, Bool, true, false, if◌then◌else◌, List, [], ◌∷◌, ◌++◌, flat_map, append-nil, Option, Some, None}
use Rattle.std.specs.List.{list_any}
use Rattle.std.proofs.lemmas.Grind.{flat_map-append}
use Rattle.cov_host.specs.declared.place.Place.{Place}
use Rattle.verilog_tree.specs.Tree.{Expr, literal, identifier, bit_select, part_select, indexed_part, unary_operator, binary_operator, conditional, concatenation, replication, sign_cast, parentheses, Exprs, no_exprs, an_expr}
use Rattle.verilog_tree.specs.declared.item.Named.{Named}
use Rattle.flat_design.specs.Expressions.{faults, all_faults, index_faults, select_faults, selected, width_faults, word_faults}
use Rattle.flat_design.specs.Fault.{Fault, none}
use Rattle.flat_design.specs.Identifiers.{all_identifiers, base_name, identifiers}
use Rattle.flat_design.specs.Loops.{is_identifier}
use Rattle.flat_design.specs.Processes.{all_self_reads, self_read, self_reads}
use Rattle.flat_design.specs.Scope.{Scope, is_faulty_entry, is_memory_name, look_up}
use Rattle.flat_design.specs.Targets.{Writing}
use Rattle.flat_design.specs.declared.entry.Entry.{Entry}
use Rattle.flat_design.specs.declared.entry.Entry.TheVariants.{Memory}
use Rattle.flat_design.proofs.NoConstFaults.{both_none, four_none, neither, neither_of_three, none_else, three_none}
use Rattle.elab_processes.specs.Reads.{AreSound, IsSound, all_read_parts, read_parts}

-- what is no name is no name of a memory
no_name : (g : Scope) (of : Expr) → is_identifier of ≡ false → is_memory_name g of ≡ false
no_name g (identifier p x) e = absurd cc
no_name g _ e = refl

-- what a bit is selected from, where it is no name
bit_inner : (g : Scope) (p : Place) (of i : Expr) → none (faults g (bit_select p of i)) ≡ true → is_identifier of ≡ false → none (faults g of) ≡ true
bit_inner g p of i e other =
    (four_none (faults g of) (select_faults (selected g of)) (faults g i) _ (none_else (is_memory_name g of) (word_faults g (look_up g (base_name of).name) (base_name of) i (faults g i)) _ (no_name g of other) e)).0

-- the index of a bit or a word
bit_index : (g : Scope) (p : Place) (of i : Expr) → none (faults g (bit_select p of i)) ≡ true → none (faults g i) ≡ true
bit_index g p of i e = go (is_memory_name g of) (look_up g (base_name of).name) e
  where
    go : (memory : Bool) (o : Option Entry) → none (if memory then word_faults g o (base_name of) i (faults g i) else faults g of ++ select_faults (selected g of) ++ faults g i ++ index_faults g (selected g of) i (faults g i)) ≡ true → none (faults g i) ≡ true
    go false o e = (four_none (faults g of) (select_faults (selected g of)) (faults g i) _ e).2
    go true None e = e
    go true (Some (Memory m)) e = (both_none (faults g i) _ e).0
    go true (Some _) e = e

module _ (g : Scope) where
  are_sound_both : (xs ys : List Expr) → AreSound g xs → AreSound g ys → AreSound g (xs ++ ys)
  are_sound_both [] ys a b = b
  are_sound_both (x ∷ xs) ys a b = (a.0, are_sound_both xs ys a.1 b)

  sound_unless : (b : Bool) (es : List Expr) → (b ≡ false → AreSound g es) → AreSound g (if b then [] else es)
  sound_unless true es h = tt
  sound_unless false es h = h refl

  -- the name of something whose declaration has a fault
  abbrev is_bad : Named → Bool
  is_bad x = is_faulty_entry (look_up g x.name)

  mutual
    pub sound_parts : (e : Expr) → IsSound g e → AreSound g (read_parts e)
    sound_parts (literal p v) s = tt
    sound_parts (identifier p x) s = (s, tt)
    sound_parts (bit_select p of i) s =
        let n = neither is_bad (identifiers of) (identifiers i) s.1 in
        let inner = sound_unless (is_identifier of) (read_parts of) (λ other. sound_parts of (bit_inner g p of i s.0 other, n.0)) in
        (s, are_sound_both _ (read_parts i) inner (sound_parts i (bit_index g p of i s.0, n.1)))
    sound_parts (part_select p of h l b) s =
        let n = neither_of_three is_bad (identifiers of) (identifiers h) (identifiers l) s.1 in
        (s, sound_unless (is_identifier of) (read_parts of) (λ other. sound_parts of ((both_none (faults g of) _ s.0).0, n.0)))
    sound_parts (indexed_part p of b w up k) s =
        let n = neither_of_three is_bad (identifiers of) (identifiers b) (identifiers w) s.1 in
        let f = both_none (faults g of) _ s.0 in
        let base = (four_none (select_faults (selected g of)) (faults g b) (width_faults g k w (faults g w)) _ f.1).1 in
        let inner = sound_unless (is_identifier of) (read_parts of) (λ other. sound_parts of (f.0, n.0)) in
        (s, are_sound_both _ (read_parts b) inner (sound_parts b (base, n.1)))
    sound_parts (unary_operator p op a) s = sound_parts a s
    sound_parts (binary_operator p op a b) s =
        let f = both_none (faults g a) (faults g b) s.0 in
        let n = neither is_bad (identifiers a) (identifiers b) s.1 in
        are_sound_both (read_parts a) (read_parts b) (sound_parts a (f.0, n.0)) (sound_parts b (f.1, n.1))
    sound_parts (conditional p c a b) s =
        let f = three_none (faults g c) (faults g a) (faults g b) s.0 in
        let n = neither_of_three is_bad (identifiers c) (identifiers a) (identifiers b) s.1 in
        are_sound_both (read_parts c ++ read_parts a) (read_parts b) (are_sound_both (read_parts c) (read_parts a) (sound_parts c (f.0, n.0)) (sound_parts a (f.1, n.1))) (sound_parts b (f.2, n.2))
    sound_parts (concatenation p es) s = all_sound_parts es (both_none (all_faults g es) _ s.0).0 s.1
    sound_parts (replication p n es) s = all_sound_parts es (both_none (all_faults g es) _ s.0).0 (neither is_bad (identifiers n) (all_identifiers es) s.1).1
    sound_parts (sign_cast p k a) s = sound_parts a s
    sound_parts (parentheses p a) s = sound_parts a s

    all_sound_parts : (es : Exprs) → none (all_faults g es) ≡ true → list_any is_bad (all_identifiers es) ≡ false → AreSound g (all_read_parts es)
    all_sound_parts no_exprs f n = tt
    all_sound_parts (an_expr e es) f n =
        let sound = both_none (faults g e) (all_faults g es) f in
        let known = neither is_bad (identifiers e) (all_identifiers es) n in
        are_sound_both (read_parts e) (all_read_parts es) (sound_parts e (sound.0, known.0)) (all_sound_parts es sound.1 known.1)

module _ (g : Scope) (ws : List Writing) where
  -- the fault of one part
  abbrev one : Expr → List Fault
  one = self_read g ws

  both_are : (a b : List Fault) (xs ys : List Expr) → a ≡ flat_map one xs → b ≡ flat_map one ys → a ++ b ≡ flat_map one (xs ++ ys)
  both_are a b xs ys p q = ap (λ c. c ++ b) p ∙ ap (λ c. flat_map one xs ++ c) q ∙ sym (flat_map-append one xs ys)

  inner_is : (t : Bool) (a : List Fault) (xs : List Expr) → a ≡ flat_map one xs → (if t then [] else a) ≡ flat_map one (if t then [] else xs)
  inner_is true a xs e = refl
  inner_is false a xs e = e

  -- the reads of driven bits are those of the parts
  mutual
    pub reads_by_parts : (e : Expr) → self_reads g ws e ≡ flat_map one (read_parts e)
    reads_by_parts (literal p v) = refl
    reads_by_parts (identifier p x) = sym (append-nil (one (identifier p x)))
    reads_by_parts (bit_select p of i) =
        both_are _ (self_reads g ws i) (bit_select p of i ∷ (if is_identifier of then [] else read_parts of)) (read_parts i) (ap (λ c. one (bit_select p of i) ++ c) (inner_is (is_identifier of) (self_reads g ws of) (read_parts of) (reads_by_parts of))) (reads_by_parts i)
    reads_by_parts (part_select p of h l b) = ap (λ c. one (part_select p of h l b) ++ c) (inner_is (is_identifier of) (self_reads g ws of) (read_parts of) (reads_by_parts of))
    reads_by_parts (indexed_part p of b w up k) =
        both_are _ (self_reads g ws b) (indexed_part p of b w up k ∷ (if is_identifier of then [] else read_parts of)) (read_parts b) (ap (λ c. one (indexed_part p of b w up k) ++ c) (inner_is (is_identifier of) (self_reads g ws of) (read_parts of) (reads_by_parts of))) (reads_by_parts b)
    reads_by_parts (unary_operator p op a) = reads_by_parts a
    reads_by_parts (binary_operator p op a b) = both_are _ _ (read_parts a) (read_parts b) (reads_by_parts a) (reads_by_parts b)
    reads_by_parts (conditional p c a b) = both_are _ _ (read_parts c ++ read_parts a) (read_parts b) (both_are _ _ (read_parts c) (read_parts a) (reads_by_parts c) (reads_by_parts a)) (reads_by_parts b)
    reads_by_parts (concatenation p es) = all_by_parts es
    reads_by_parts (replication p n es) = all_by_parts es
    reads_by_parts (sign_cast p s a) = reads_by_parts a
    reads_by_parts (parentheses p a) = reads_by_parts a

    all_by_parts : (es : Exprs) → all_self_reads g ws es ≡ flat_map one (all_read_parts es)
    all_by_parts no_exprs = refl
    all_by_parts (an_expr e es) = both_are _ _ (read_parts e) (all_read_parts es) (reads_by_parts e) (all_by_parts es)
