-- A continuous assignment writes each bit once and by constant indexes, and a process without edges has no nonblocking assignment.
use Rattle.std.proofs.Common.{◌≡◌, ◌⊎◌, inl, inr, ⊎_elim, ℕ, zero, suc, ◌+◌, ◌-◌, ◌≤◌, Bool, true, false, not, ◌&&◌, ◌||◌, if◌then◌else◌, List, [], ◌∷◌, ◌++◌, map, length, replicate, take, drop, ℤ, pos, negsuc, ◌+ℤ◌, Option, Some, None, Ok, refl, sym, ap, ◌∙◌, subst, arith, slice_index_or}
use Rattle.std.specs.Prelude.{nat_lt}
use Rattle.std.specs.List.{flat_map, range_with_len}
use Rattle.std.proofs.lemmas.Bool.{false≢true, and_parts}
use Rattle.std.proofs.lemmas.Grind.{flat_map-append}
use Rattle.std.proofs.lemmas.Int.{ints}
use Rattle.std.proofs.lemmas.List.{drop-replicate, length-replicate, map-append, take-replicate}
use Rattle.event_machine.specs.Cell.{Cell, Write, WritesCell}
use Rattle.four_state.specs.Parts.{within}
use Rattle.four_state.specs.Vector.{fill}
use Rattle.four_state.specs.declared.bit.Bit.{Bit}
use Rattle.four_state.specs.declared.bit.Bit.TheVariants.{X}
use Rattle.four_state.specs.Parts.{index}
use Rattle.design_model.specs.Assignment.{bit_writes, bit_writes_option, option_cell, signal_range, target_width, targets_width, targets_writes, writes_to}
use Rattle.design_model.specs.Design.{Design, In, cell, no_process, process_at, signal_at}
use Rattle.design_model.specs.Lawful.{are_fixed_targets, each_once, is_fixed_target, target_once}
use Rattle.design_model.specs.Mentions.{any_set, any_set_in, any_set_of, blank, has_cell, static_writes}
use Rattle.design_model.specs.Tree.{Process, Stmt, Target, Term, bits_of, word_of}
use Rattle.design_model.specs.Value.{head, offset_option, value}
use Rattle.design_model.proofs.Named.{WritesCell-from, cell_halves, writes_named, all_named}
use Rattle.verilog_tree.specs.declared.item.Named.{Named}
use Rattle.verilog_tree.specs.declared.item.When.{When}
use Rattle.verilog_tree.specs.declared.item.When.TheVariants.{Edges, Names, Star}
use Rattle.verilog_tree.specs.Tree.{CaseItems, Expr, Exprs, Module, Statement, Statements, a_statement, an_expr, assignment, binary_operator, bit_select, case_item, case_statement, concatenation, conditional, for_loop, identifier, if_statement, indexed_part, literal, no_exprs, no_items, no_statements, null_statement, parentheses, part_select, replication, sequential_block, sign_cast, system_task, unary_operator}
use Rattle.elab_const.specs.declared.width.Shape.{Shape}
use Rattle.four_state.specs.Vector.{Vector}
use Rattle.flat_design.specs.Bodies.{Met, arms, case_shape, in_turn, met_writing, met_writings, statement, statements, turn_stmts}
use Rattle.flat_design.specs.Expressions.{bound_faults, faults, number_faults, select_faults, selected}
use Rattle.flat_design.specs.Fault.{none}
use Rattle.flat_design.specs.Faults.{answer}
use Rattle.flat_design.specs.Flat.{elaborated}
use Rattle.flat_design.specs.Identifiers.{base_name}
use Rattle.flat_design.specs.Instances.{Sofar}
use Rattle.flat_design.specs.Loops as loops
use Rattle.flat_design.specs.Numbering.{all_nodes, condition_nodes, lines, nodes, statement_nodes}
use Rattle.flat_design.specs.Processes.{are_two_drivers, conflicts, later_of, process_of, writing_met, writings}
use Rattle.flat_design.specs.Scope.{Scope, is_memory_entry, is_memory_name, look_up, names_constants, names_faulty, natural_number, shape, thing_number, thing_of}
use Rattle.flat_design.specs.declared.entry.Entry.TheVariants.{Signal as a_signal}
use Rattle.flat_design.specs.declared.entry.Mode.TheVariants.{Continuous}
use Rattle.flat_design.specs.declared.entry.SignalEntry.{SignalEntry}
use Rattle.flat_design.specs.declared.fault.ElabKind.TheVariants.{TwoDrivers}
use Rattle.flat_design.specs.Targets.{Writing, all_leaves, all_target_faults, declared_range, leaves, lowest_index, target, target_faults, targets, writing_of}
use Rattle.flat_design.specs.Terms.{alone}
use Rattle.flat_laws.specs.Tokens.{AreOfTokens, are_blocking, arms_are_blocking, has_edges, is_blocking}
use Rattle.flat_design.proofs.NoConstFaults.{both_none, four_none, number_clean, true_both}
use Rattle.flat_laws.proofs.Freedom.{IsSound, answered_sound, both_empty}
use Rattle.flat_laws.proofs.LawfulBase.{base_is}
use Rattle.flat_laws.proofs.LawfulConstants.{constant_term, lowest_constant}
use Rattle.flat_laws.proofs.LawfulDrivers.{IsPlaced, driven_leaf, leaf_driver, may_drive, some_drive, sound_number, two_drivers}
use Rattle.flat_laws.proofs.LawfulEvents.{each_empty}
use Rattle.flat_laws.proofs.LawfulLimits.{answered_design, base_of}
use Rattle.flat_laws.proofs.LawfulNames.{in_map_back}
use Rattle.flat_laws.proofs.LawfulOffsets.{IsAt, bits_at}
use Rattle.flat_laws.proofs.LawfulSound.{names_sound}
use Rattle.flat_laws.proofs.LawfulSources.{IsPart, Source, elaborated_made, of_assign, of_block, of_input, of_output, source_at}
use Rattle.flat_laws.proofs.LawfulTargets.{no_leaf}
use Rattle.flat_laws.proofs.LawfulWriters.{not_at_odds, one_first}

-- ---- constant indexes

memory_entry : (g : Scope) (of : Expr) (s : SignalEntry) → look_up g (base_name of).name ≡ Some (a_signal s) → is_memory_name g of ≡ false
memory_entry g (identifier p x) s found = ap is_memory_entry found
memory_entry g _ s found = refl

-- the low index of a part without a fault
low_constant : (d : Design) (base : ℕ) (g : Scope) → IsPlaced d base g → (p : _) (of a l : Expr) (b : _) → faults g (part_select p of a l b) ≡ [] → names_constants g l ≡ true
low_constant d base g h p of a l b sound =
    let f = both_empty (faults g of) _ sound in
    let e = four_none (select_faults (selected g of)) (bound_faults g b a (faults g a)) (bound_faults g b l (faults g l)) _ (ap none f.1) in
    (number_clean g l (faults g l) (both_none (number_faults g l (faults g l)) _ e.2).0 (names_sound g h.good.sound l)).0

fixed_bit : (b : Bool) (m s : ℕ) (i : Term) → b ≡ false → is_fixed_target (bits_of s i 1) ≡ true → is_fixed_target (if b then word_of m i else bits_of s i 1) ≡ true
fixed_bit false m s i e h = h
fixed_bit true m s i e h = absurd (false≢true (sym e))

mutual
  fixed_target : (d : Design) (base : ℕ) (g : Scope) → IsPlaced d base g → (e : Expr) (n : ℕ) → target_faults g Continuous e ≡ [] → is_fixed_target (target base g e n) ≡ true
  fixed_target d base g h (identifier p x) n free = refl
  fixed_target d base g h (bit_select p of i) n free =
      let l = driven_leaf d base g h (bit_select p of i) free in
      fixed_bit (is_memory_name g of) _ _ (alone base g i (n + nodes g of)) (memory_entry g of l.entry l.found) (constant_term base g i (sound_number g h.good.sound i l.fixed).1 (n + nodes g of) (shape g i))
  fixed_target d base g h (part_select p of a l b) n free =
      let q = driven_leaf d base g h (part_select p of a l b) free in constant_term base g l (low_constant d base g h p of a l b q.sound) (n + nodes g of + nodes g a) (shape g l)
  fixed_target d base g h (indexed_part p of b w up k) n free =
      let l = driven_leaf d base g h (indexed_part p of b w up k) free in lowest_constant base g (declared_range (look_up g (base_name of).name)) up (natural_number g w) b (sound_number g h.good.sound b l.fixed).1 (n + nodes g of)
  fixed_target d base g h (concatenation p es) n free = fixed_targets d base g h es n (both_empty (all_target_faults g Continuous es) _ free).0
  fixed_target d base g h (literal p v) n free = refl
  fixed_target d base g h (unary_operator p op a) n free = refl
  fixed_target d base g h (binary_operator p op a b) n free = refl
  fixed_target d base g h (conditional p x a b) n free = refl
  fixed_target d base g h (replication p k es) n free = refl
  fixed_target d base g h (sign_cast p s a) n free = refl
  fixed_target d base g h (parentheses p a) n free = refl

  fixed_targets : (d : Design) (base : ℕ) (g : Scope) → IsPlaced d base g → (es : Exprs) (n : ℕ) → all_target_faults g Continuous es ≡ [] → are_fixed_targets (targets base g es n) ≡ true
  fixed_targets d base g h no_exprs n free = refl
  fixed_targets d base g h (an_expr e es) n free =
      let q = both_empty (target_faults g Continuous e) (all_target_faults g Continuous es) free in
      true_both _ _ (fixed_target d base g h e n q.0) (fixed_targets d base g h es (n + nodes g e) q.1)

-- ---- each bit once

-- no write of a list is to this cell
not_there : (ws : List (Write Bit)) (c : Cell) → (WritesCell ws c → ⊥) → not (has_cell ws c) ≡ true
not_there ws c h = by_test (has_cell ws c) refl
  where
    by_test : (b : Bool) → has_cell ws c ≡ b → not b ≡ true
    by_test false is = refl
    by_test true is = absurd (h (WritesCell-from ws c is))

not_then : (b : Bool) → not b ≡ true → b ≡ true → ⊥
not_then true h k = false≢true h
not_then false h k = false≢true k

once_append : (us ws : List (Write Bit)) → each_once us ≡ true → each_once ws ≡ true → ((c : Cell) → WritesCell us c → WritesCell ws c → ⊥) → each_once (us ++ ws) ≡ true
once_append [] ws h k apart = k
once_append (u ∷ us) ws h k apart =
    let p = and_parts (not (has_cell us u.cell)) (each_once us) h in
    true_both _ _ (by_test (has_cell (us ++ ws) u.cell) refl p.0) (once_append us ws p.1 k (λ c a b. apart c (inr a) b))
  where
    by_test : (b : Bool) → has_cell (us ++ ws) u.cell ≡ b → not (has_cell us u.cell) ≡ true → not b ≡ true
    by_test false is n = refl
    by_test true is n = absurd (⊎_elim (λ a. not_then (has_cell us u.cell) n a) (λ a. apart u.cell (inl refl) (WritesCell-from ws u.cell a)) (cell_halves us ws u.cell is))

-- the places of a signal's cells rise
from_places : (s n k : ℕ) (bs : List Bit) (c : Cell) → WritesCell (writes_to (map (cell s) (range_with_len n k)) bs) c → n ≤ c.place
from_places s n zero bs c h = absurd h
from_places s n (suc k) [] c h = absurd h
from_places s n (suc k) (b ∷ bs) c (inl e) = let same : n ≡ c.place = ap (λ x. x.place) e in omega arith
from_places s n (suc k) (b ∷ bs) c (inr h) = let more = from_places s (n + 1) k bs c h in omega arith

once_places : (s n k : ℕ) (bs : List Bit) → each_once (writes_to (map (cell s) (range_with_len n k)) bs) ≡ true
once_places s n zero bs = refl
once_places s n (suc k) [] = refl
once_places s n (suc k) (b ∷ bs) =
    true_both _ _ (not_there (writes_to (map (cell s) (range_with_len (n + 1) k)) bs) (cell s n) (λ a. let more = from_places s (n + 1) k bs (cell s n) a in absurd (omega arith))) (once_places s (n + 1) k bs)

-- so do those of bits from an offset
once_bits : (s n : ℕ) (from : ℤ) (bs : List Bit) → each_once (bit_writes s n from bs) ≡ true
once_bits s n from [] = refl
once_bits s n from (b ∷ bs) = by_sign from (bits_at s n (from +ℤ pos 1) bs) (once_bits s n (from +ℤ pos 1) bs)
  where
    no_step : (k step : ℕ) → (pos k +ℤ pos 1) +ℤ pos step ≡ pos k → ⊥
    no_step k step e = omega (arith, ints)

    by_sign : (from : ℤ) → ((c : Cell) → WritesCell (bit_writes s n (from +ℤ pos 1) bs) c → IsAt s n (from +ℤ pos 1) (length bs) c) → each_once (bit_writes s n (from +ℤ pos 1) bs) ≡ true → each_once (writes_to (option_cell s (within n from)) (b ∷ []) ++ bit_writes s n (from +ℤ pos 1) bs) ≡ true
    by_sign (negsuc k) at rest = rest
    by_sign (pos k) at rest = by_test (nat_lt k n)
      where
        by_test : (t : Bool) → each_once (writes_to (option_cell s (if t then Some k else None)) (b ∷ []) ++ bit_writes s n (pos k +ℤ pos 1) bs) ≡ true
        by_test false = rest
        by_test true = true_both _ _ (not_there (bit_writes s n (pos k +ℤ pos 1) bs) (cell s k) (λ a. let q = at (cell s k) a in no_step k q.step q.place)) rest

once_option : (s n : ℕ) (from : Option ℤ) (bs : List Bit) → each_once (bit_writes_option s n from bs) ≡ true
once_option s n None bs = refl
once_option s n (Some from) bs = once_bits s n from bs

-- ---- the writings of one target are not at odds

conflicts_parts : (r : Writing → Writing → Bool) (xs ys : List Writing) → conflicts r (xs ++ ys) ≡ [] → (conflicts r xs ≡ []) × (conflicts r ys ≡ []) × ((a b : Writing) → In a xs → In b ys → r a b ≡ false)
conflicts_parts r [] ys h = (refl, h, λ a b k l. absurd k)
conflicts_parts r (x ∷ xs) ys h =
    let f : Writing → List Named = λ z. if r x z then later_of x.name z.name ∷ [] else [] in
    let p = both_empty (flat_map f (xs ++ ys)) (conflicts r (xs ++ ys)) h in
    let q = both_empty (flat_map f xs) (flat_map f ys) (sym (flat_map-append f xs ys) ∙ p.0) in
    let rest = conflicts_parts r xs ys p.1 in
    (rw (q.0, rest.0) refl, rest.1, λ a b k l. by_place a b rest.2 k l q.1)
  where
    by_place : (a b : Writing) → ((a b : Writing) → In a xs → In b ys → r a b ≡ false) → (x ≡ a) ⊎ In a xs → In b ys → flat_map (λ z. if r x z then later_of x.name z.name ∷ [] else []) ys ≡ [] → r a b ≡ false
    by_place a b rest (inl e) l none_of = subst (λ z. r z b ≡ false) e (not_at_odds r x b (each_empty _ ys b none_of l))
    by_place a b rest (inr k) l none_of = rest a b k l

conflicts_part : (ms ns : List Met) → IsPart ms ns → conflicts are_two_drivers (writings ns) ≡ [] → conflicts are_two_drivers (writings ms) ≡ []
conflicts_part ms ns h e =
    let whole : writings ns ≡ writings h.before ++ (writings ms ++ writings h.after) = ap writings h.whole ∙ (flat_map-append writing_met h.before (ms ++ h.after) ∙ ap (λ l. writings h.before ++ l) (flat_map-append writing_met ms h.after)) in
    (conflicts_parts are_two_drivers (writings ms) (writings h.after) (conflicts_parts are_two_drivers (writings h.before) (writings ms ++ writings h.after) (sym (ap (conflicts are_two_drivers) whole) ∙ e)).1).0

writings_map : (f : Expr → Writing) (xs : List Expr) → writings (map (λ x. met_writing (f x)) xs) ≡ map f xs
writings_map f [] = refl
writings_map f (x ∷ xs) = ap (λ l. f x ∷ l) (writings_map f xs)

target_writings : (d : Design) (base : ℕ) (g : Scope) → IsPlaced d base g → (k : ℕ) (e : Expr) → target_faults g Continuous e ≡ [] → writings (met_writings g Continuous true true k e) ≡ map (writing_of g true true k) (leaves e)
target_writings d base g h k e free = by_test (none (target_faults g Continuous e) && not (names_faulty g e)) (rw (ap none free, names_sound g h.good.sound e) refl)
  where
    by_test : (b : Bool) → b ≡ true → writings (if b then map (λ x. met_writing (writing_of g true true k x)) (leaves e) else []) ≡ map (writing_of g true true k) (leaves e)
    by_test true is = writings_map (writing_of g true true k) (leaves e)
    by_test false is = absurd (false≢true is)

-- ---- each target

once_word_or_bit : (d : Design) (b : Bool) (m s : ℕ) (i : Term) → b ≡ false → each_once (static_writes d (if b then word_of m i else bits_of s i 1)) ≡ true
once_word_or_bit d false m s i e = once_option s (signal_at d s).width (offset_option (signal_range d s) (index (head i).signed (value d blank i))) (fill 1 X)
once_word_or_bit d true m s i e = absurd (false≢true (sym e))

once_part : (d : Design) (s : ℕ) (i : Term) (w : ℕ) → each_once (static_writes d (bits_of s i w)) ≡ true
once_part d s i w = once_option s (signal_at d s).width (offset_option (signal_range d s) (index (head i).signed (value d blank i))) (fill w X)

split_fill : (m n : ℕ) → (drop n (fill (m + n) X) ≡ fill m X) × (take n (fill (m + n) X) ≡ fill n X)
split_fill m n = (drop-replicate n (m + n) X ∙ ap (λ k. replicate k X) (let q : m + n - n ≡ m = omega arith in q), take-replicate n (m + n) X (omega arith))

mutual
  once_target : (d : Design) (base : ℕ) (g : Scope) → IsPlaced d base g → (k : ℕ) (e : Expr) (n : ℕ) → target_faults g Continuous e ≡ [] → conflicts are_two_drivers (map (writing_of g true true k) (leaves e)) ≡ [] → each_once (static_writes d (target base g e n)) ≡ true
  once_target d base g h k (identifier p x) n free apart = once_places _ 0 (signal_at d (thing_number base (thing_of (look_up g x)))).width _
  once_target d base g h k (bit_select p of i) n free apart =
      let l = driven_leaf d base g h (bit_select p of i) free in once_word_or_bit d (is_memory_name g of) _ _ (alone base g i (n + nodes g of)) (memory_entry g of l.entry l.found)
  once_target d base g h k (part_select p of a l b) n free apart = once_part d _ (alone base g l (n + nodes g of + nodes g a)) (shape g (part_select p of a l b)).width
  once_target d base g h k (indexed_part p of b w up q) n free apart = once_part d _ (lowest_index base g (declared_range (look_up g (base_name of).name)) up (natural_number g w) b (n + nodes g of)) (natural_number g w)
  once_target d base g h k (concatenation p es) n free apart = once_targets d base g h k es n (both_empty (all_target_faults g Continuous es) _ free).0 apart
  once_target d base g h k (literal p v) n free apart = absurd (no_leaf g Continuous (literal p v) _ h.good.empty free)
  once_target d base g h k (unary_operator p op a) n free apart = absurd (no_leaf g Continuous (unary_operator p op a) _ h.good.empty free)
  once_target d base g h k (binary_operator p op a b) n free apart = absurd (no_leaf g Continuous (binary_operator p op a b) _ h.good.empty free)
  once_target d base g h k (conditional p x a b) n free apart = absurd (no_leaf g Continuous (conditional p x a b) _ h.good.empty free)
  once_target d base g h k (replication p q es) n free apart = absurd (no_leaf g Continuous (replication p q es) _ h.good.empty free)
  once_target d base g h k (sign_cast p s a) n free apart = absurd (no_leaf g Continuous (sign_cast p s a) _ h.good.empty free)
  once_target d base g h k (parentheses p a) n free apart = absurd (no_leaf g Continuous (parentheses p a) _ h.good.empty free)

  once_targets : (d : Design) (base : ℕ) (g : Scope) → IsPlaced d base g → (k : ℕ) (es : Exprs) (n : ℕ) → all_target_faults g Continuous es ≡ [] → conflicts are_two_drivers (map (writing_of g true true k) (all_leaves es)) ≡ [] →
      each_once (targets_writes d blank (targets base g es n) (fill (targets_width d (targets base g es n)) X)) ≡ true
  once_targets d base g h k no_exprs n free apart = refl
  once_targets d base g h k (an_expr e es) n free apart =
      let q = both_empty (target_faults g Continuous e) (all_target_faults g Continuous es) free in
      let f : Expr → Writing = writing_of g true true k in
      let c = conflicts_parts are_two_drivers (map f (leaves e)) (map f (all_leaves es)) (sym (ap (conflicts are_two_drivers) (map-append f (leaves e) (all_leaves es))) ∙ apart) in
      let t = target base g e n in
      let ts = targets base g es (n + nodes g e) in
      let s = split_fill (target_width d t) (targets_width d ts) in
      rw (s.0, s.1)
      (once_append (static_writes d t) (targets_writes d blank ts (fill (targets_width d ts) X)) (once_target d base g h k e n q.0 c.0) (once_targets d base g h k es (n + nodes g e) q.1 c.1)
      (λ x a b.
      let u = may_drive d base g h e n x q.0 (writes_named d blank t (fill (target_width d t) X) x (length-replicate (target_width d t) X) a) in
      let v = some_drive d base g h es (n + nodes g e) x q.1 (all_named d blank ts (fill (targets_width d ts) X) x (length-replicate (targets_width d ts) X) b) in
      false≢true (sym (c.2 (f u.0) (f v.0) (in_map_back f u.0 (leaves e) u.1) (in_map_back f v.0 (all_leaves es) v.1)) ∙ two_drivers x (f u.0) (f v.0) (leaf_driver g x true k u.0 u.2) (leaf_driver g x true k v.0 v.2))))

-- ---- no nonblocking assignment without edges

abbrev queued : Bool → Target → Term → Bool
queued blocking x t = not blocking

neither_of : (a b : Bool) → a ≡ false → b ≡ false → (a || b) ≡ false
neither_of false b h k = k
neither_of true b h k = absurd (false≢true (sym h))

no_turn : (vs : List Vector) (f : Vector → Stmt) → ((v : Vector) → any_set queued (f v) ≡ false) → any_set_of queued (turn_stmts vs f) ≡ false
no_turn [] f h = refl
no_turn (v ∷ vs) f h = neither_of _ _ (h v) (no_turn vs f h)

mutual
  none_queued : (base : ℕ) (g : Scope) (s : Statement) (l n : ℕ) → is_blocking s ≡ true → any_set queued (statement base g s l n) ≡ false
  none_queued base g (sequential_block p ss) l n h = none_of_all base g ss l n h
  none_queued base g (if_statement p c s other) l n h =
      let q = and_parts (is_blocking s) (are_blocking other) h in
      neither_of _ _ (none_queued base g s (l + 1) (n + condition_nodes g c) q.0) (none_of_all base g other (l + 1 + lines s) (n + condition_nodes g c + statement_nodes g s) q.1)
  none_queued base g (case_statement p kind e is) l n h = none_of_arms base g (case_shape g e is) is (l + 1) (n + nodes g e) h
  none_queued base g (for_loop p x s) l n h = no_turn (loops.turns g x) (λ v. statement base (in_turn x v g) s (l + 1) n) (λ v. none_queued base (in_turn x v g) s (l + 1) n h)
  none_queued base g (assignment p x blocking v) l n h = rw h refl
  none_queued base g (system_task p) l n h = refl
  none_queued base g (null_statement p) l n h = refl

  none_of_all : (base : ℕ) (g : Scope) (ss : Statements) (l n : ℕ) → are_blocking ss ≡ true → any_set_of queued (statements base g ss l n) ≡ false
  none_of_all base g no_statements l n h = refl
  none_of_all base g (a_statement s ss) l n h =
      let q = and_parts (is_blocking s) (are_blocking ss) h in
      neither_of _ _ (none_queued base g s l n q.0) (none_of_all base g ss (l + lines s) (n + statement_nodes g s) q.1)

  none_of_arms : (base : ℕ) (g : Scope) (w : Shape) (is : CaseItems) (l n : ℕ) → arms_are_blocking is ≡ true → any_set_in queued (arms base g w is l n) ≡ false
  none_of_arms base g w no_items l n h = refl
  none_of_arms base g w (case_item labels s is) l n h =
      let q = and_parts (is_blocking s) (arms_are_blocking is) h in
      neither_of _ _ (none_queued base g s l (n + all_nodes g labels) q.0) (none_of_arms base g w is (l + lines s) (n + all_nodes g labels + statement_nodes g s) q.1)

-- ---- each process

assign_once : (d : Design) (base : ℕ) (g : Scope) → IsPlaced d base g → (ms : List Met) → conflicts are_two_drivers (writings ms) ≡ [] → (k : ℕ) (to : Expr) (n : ℕ) → target_faults g Continuous to ≡ [] → IsPart (met_writings g Continuous true true k to) ms →
    (is_fixed_target (target base g to n) && each_once (static_writes d (target base g to n))) ≡ true
assign_once d base g h ms apart k to n sound part =
    true_both _ _ (fixed_target d base g h to n sound)
    (once_target d base g h k to n sound (sym (ap (conflicts are_two_drivers) (target_writings d base g h k to sound)) ∙ conflicts_part _ ms part apart))

block_once : (d : Design) (base : ℕ) (g : Scope) (i : ℕ) (w : When) (s : Statement) (l n : ℕ) → (has_edges w ≡ false → is_blocking s ≡ true) → target_once (process_of g i w s (statement base g s l n)) d ≡ true
block_once d base g i Star s l n h = ap not (none_queued base g s l n (h refl))
block_once d base g i (Names xs) s l n h = ap not (none_queued base g s l n (h refl))
block_once d base g i (Edges es) s l n h = refl

source_once : (all : List Module) → AreOfTokens all → (base : ℕ) (d : Design) (ms : List Met) (p : ℕ) (x : Process) → base ≡ length d.signals → conflicts are_two_drivers (writings ms) ≡ [] → Source all base d.signals d.memories ms p x → target_once x d ≡ true
source_once all tokens base d ms p x is apart (of_assign s) =
    subst (λ z. target_once z d ≡ true) (sym s.is) (assign_once d base s.scope (record { good = s.good; bounded = s.bounded; base_is = is }) ms apart p s.to s.node s.target_sound s.writings)
source_once all tokens base d ms p x is apart (of_output s) =
    subst (λ z. target_once z d ≡ true) (sym s.is) (assign_once d base s.scope (record { good = s.good; bounded = s.bounded; base_is = is }) ms apart p s.to 0 s.target_sound s.writings)
source_once all tokens base d ms p x is apart (of_input s) = subst (λ z. target_once z d ≡ true) (sym s.is) (once_places s.port.number 0 (signal_at d s.port.number).width _)
source_once all tokens base d ms p x is apart (of_block s) =
    subst (λ z. target_once z d ≡ true) (sym s.is) (block_once d base s.scope s.instance s.when s.body s.line s.node (tokens.blocking s.of_module s.module_in s.item s.item_in s.when s.body s.form))

-- the targets of each process
pub record HasTargets (d : Design) : Type 0 where
  pub targets : (p : ℕ) → target_once (process_at d p) d ≡ true

elaborated_targets : (all : List Module) (top : List ℕ) → AreOfTokens all → IsSound all top → HasTargets (elaborated all top).design
elaborated_targets all top tokens sound = record { targets = λ p. by_source p (source_at all base st (elaborated_made all top tokens sound) p) }
  where
    base : ℕ
    base = base_of all top

    st : Sofar
    st = elaborated all top

    by_source : (p : ℕ) → Source all base st.design.signals st.design.memories st.met p (slice_index_or st.design.processes p no_process) ⊎ (slice_index_or st.design.processes p no_process ≡ no_process) → target_once (process_at st.design p) st.design ≡ true
    by_source p (inl s) = source_once all tokens base st.design st.met p _ (sym (base_is all top)) (one_first TwoDrivers (conflicts are_two_drivers (writings st.met)) sound.told.rest_empty) s
    by_source p (inr e) = subst (λ z. target_once z st.design ≡ true) (sym e) refl

pub answered_targets : (all : List Module) (top : List ℕ) (d : Design) → AreOfTokens all → answer all top ≡ Ok d → HasTargets d
answered_targets all top d tokens e = subst HasTargets (answered_design all top d e) (elaborated_targets all top tokens (answered_sound all top d e))
