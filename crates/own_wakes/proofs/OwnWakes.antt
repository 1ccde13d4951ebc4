-- A continuous assignment has a wake bit of each signal that it both drives and mentions.
use Rattle.std.proofs.Common.{◌≡◌, ◌⊎◌, inl, inr, ⊎_elim, ℕ, zero, suc, ◌+◌, ◌<◌, ◌==◌, ◌-◌, nat_lt, Bool, true, false, ◌&&◌, ◌||◌, if◌then◌else◌, List, [], ◌∷◌, ◌++◌, length, map, ℤ, pos, negsuc, Option, Some, None, Ok, refl, sym, ap, ◌∙◌, subst, arith, slice_index_or}
use Rattle.std.specs.List.{list_any, range_with_len}
use Rattle.std.proofs.lemmas.Bool.{and_parts, eq-eqb, eqb-true, false≢true, ltb-true, or_cases, or_parts, cases_Bool}
use Rattle.event_machine.specs.Cell.{Cell}
use Rattle.design_model.specs.Design.{Design, In, IsAssign, IsClocked, body, body_at, cell, is_assign, no_process, process_at, signal_at}
use Rattle.design_model.specs.Mentions.{blocking_target, body_assigns, body_mentions, index_mentions, indexes_mention, may_write, mentions, some_target_names, target_names}
use Rattle.design_model.specs.Open.{IsWakeBit}
use Rattle.design_model.specs.Tree.{Process, bits_of, word_of}
use Rattle.design_model.specs.Value.{slide_offset}
use Rattle.design_model.proofs.Assigns.{is_assign_from}
use Rattle.design_model.proofs.SettledHits.{settling_level}
use Rattle.model_laws.specs.Own.{HasOwnWakes}
use Rattle.verilog_tree.specs.Tree.{Expr, Exprs, Module, an_expr, binary_operator, bit_select, concatenation, conditional, identifier, indexed_part, literal, no_exprs, parentheses, part_select, place_of, replication, sign_cast, unary_operator}
use Rattle.flat_design.specs.Bodies.{Met}
use Rattle.flat_design.specs.Expressions.{bound_faults, faults, select_faults, selected, some_offset}
use Rattle.flat_design.specs.Fault.{fault_at, none}
use Rattle.flat_design.specs.Faults.{answer}
use Rattle.flat_design.specs.Flat.{elaborated}
use Rattle.flat_design.specs.Identifiers.{base_name}
use Rattle.flat_design.specs.Instances.{Sofar}
use Rattle.flat_design.specs.Numbering.{nodes}
use Rattle.flat_design.specs.Processes.{have_common, is_signal_entry, reads_bits, reads_driven, uncounted, written}
use Rattle.flat_design.specs.Scope.{Scope, is_memory_name, look_up, names_constants, natural_number, range_or, range_width, shape, thing_number, thing_of, whole_number}
use Rattle.flat_design.specs.declared.entry.Entry.TheVariants.{Signal as a_signal}
use Rattle.flat_design.specs.declared.entry.Mode.TheVariants.{Continuous}
use Rattle.flat_design.specs.declared.entry.SignalEntry.{SignalEntry}
use Rattle.flat_design.specs.declared.entry.Thing.TheVariants.{Signal as the_signal}
use Rattle.flat_design.specs.declared.fault.ElabKind.TheVariants.{SelfAssign}
use Rattle.flat_design.specs.Targets.{Writing, all_leaves, all_target_faults, declared_range, fixed_faults, leaves, lowest_index, offsets, offsets_from, offsets_if, target, target_faults, targets, writing_of}
use Rattle.flat_design.specs.Terms.{alone, right_side}
use Rattle.flat_design.proofs.NoConstFaults.{four_none, number_clean}
use Rattle.flat_laws.specs.Tokens.{AreOfTokens}
use Rattle.flat_laws.proofs.Freedom.{IsSound, answered_sound, both_empty, not_told}
use Rattle.flat_laws.proofs.LawfulBase.{base_is}
use Rattle.flat_laws.proofs.LawfulConstants.{constant_term, lowest_constant}
use Rattle.flat_laws.proofs.LawfulDrivers.{Drives, IsPlaced, common, driven_leaf, matches_of, may_drive}
use Rattle.flat_laws.proofs.LawfulLimits.{answered_design, base_of}
use Rattle.flat_laws.proofs.LawfulMentions.{IsNamed, memory_name, mentions_uncounted, term_mentions}
use Rattle.flat_laws.proofs.LawfulNames.{in_map_back}
use Rattle.flat_laws.proofs.LawfulReads.{any_of, self_told}
use Rattle.flat_laws.proofs.LawfulScope.{MatchesSignal}
use Rattle.flat_laws.proofs.LawfulSound.{names_sound}
use Rattle.flat_laws.proofs.LawfulSources.{IsContinuous, IsInput, IsOutput, Source, block_no_assign, elaborated_made, of_assign, of_block, of_input, of_output, source_at}
use Rattle.flat_laws.proofs.LawfulTargets.{no_leaf}
use Rattle.flat_laws.proofs.Members.{in_filter, in_left, in_right}
use Rattle.flat_laws.proofs.SelectNumbers.{bound_number}
use Rattle.own_wakes.proofs.OwnReads.{IsRead, constant_mentions, reads_of}

-- ---- lists of bits

in_range_below : (a n k : ℕ) → In k (range_with_len a n) → k < a + n
in_range_below a zero k h = absurd h
in_range_below a (suc n) k (inl e) = omega (arith, e)
in_range_below a (suc n) k (inr h) = let less = in_range_below (a + 1) n k h in omega (arith, less)

range_below : (n k : ℕ) → In k (range_with_len 0 n) → k < n
range_below n k h = let less = in_range_below 0 n k h in omega (arith, less)

from_below : (size w k : ℕ) (from : Option ℤ) → In k (offsets_from size w from) → k < size
from_below size w k None h = absurd h
from_below size w k (Some (pos i)) h = ltb-true _ _ (in_filter (λ x. nat_lt x size) k (range_with_len i w) h).1
from_below size w k (Some (negsuc i)) h = ltb-true _ _ (in_filter (λ x. nat_lt x size) k (range_with_len 0 (w - (i + 1))) h).1

either_below : (b : Bool) (s : SignalEntry) (w k : ℕ) (from : Option ℤ) → In k (offsets_if b s w from) → k < range_width s.range
either_below true s w k from h = from_below (range_width s.range) w k from h
either_below false s w k from h = range_below (range_width s.range) k h

-- the bits that a name or a select of a signal names are bits of it
offset_below : (g : Scope) (s : SignalEntry) (e : Expr) (k : ℕ) → In k (offsets g (Some (a_signal s)) e) → k < range_width s.range
offset_below g s (bit_select p of i) k h = either_below (names_constants g i) s 1 k (some_offset (range_or s.range) (whole_number g i)) h
offset_below g s (part_select p of a l b) k h = from_below (range_width s.range) (shape g (part_select p of a l b)).width k (some_offset (range_or s.range) (whole_number g l)) h
offset_below g s (indexed_part p of i w up b) k h = either_below (names_constants g i) s (natural_number g w) k (slide_offset (range_or s.range) up (natural_number g w) (whole_number g i)) h
offset_below g s _ k h = range_below (range_width s.range) k h

first_of : (xs : List ℕ) → (length xs == 0) ≡ false → (k : ℕ) × In k xs
first_of [] h = absurd (false≢true (sym h))
first_of (x ∷ xs) h = (x, inl refl)

fails_each : (p : Writing → Bool) (w : Writing) (ws : List Writing) → In w ws → list_any p ws ≡ false → p w ≡ false
fails_each p w ws h none = by_test (p w) refl
  where
    by_test : (b : Bool) → p w ≡ b → b ≡ false
    by_test false is = refl
    by_test true is = absurd (false≢true (sym none ∙ any_of p w ws h is))

-- ---- targets

module _ (d : Design) (base : ℕ) (g : Scope) (y : ℕ) (h : IsPlaced d base g) where
  -- a part of a target that names signal y
  record IsLeafOf (e : Expr) : Type 0 where
    leaf : Expr
    leaf_in : In leaf (leaves e)
    entry : SignalEntry
    found : look_up g (base_name leaf).name ≡ Some (a_signal entry)
    number : entry.number ≡ y

  no_memory : (of : Expr) (s : SignalEntry) → look_up g (base_name of).name ≡ Some (a_signal s) → (b : Bool) → is_memory_name g of ≡ b → b ≡ false
  no_memory of s found false is = refl
  no_memory of s found true is = let m = memory_name g of is in absurd cc

  mutual
    named_leaf : (e : Expr) (n : ℕ) → target_faults g Continuous e ≡ [] → target_names y (target base g e n) ≡ true → IsLeafOf e
    named_leaf (identifier p x) n free k =
        let l = driven_leaf d base g h (identifier p x) free in
        record { leaf = identifier p x; leaf_in = inl refl; entry = l.entry; found = l.found; number = sym (ap (λ o. thing_number base (thing_of o)) l.found) ∙ eqb-true _ y k }
    named_leaf (bit_select p of i) n free k =
        let l = driven_leaf d base g h (bit_select p of i) free in
        record { leaf = bit_select p of i; leaf_in = inl refl; entry = l.entry; found = l.found; number = sym (ap (λ o. thing_number base (thing_of o)) l.found) ∙ eqb-true _ y (by_kind (is_memory_name g of) (no_memory of l.entry l.found (is_memory_name g of) refl) k) }
      where
        by_kind : (b : Bool) → b ≡ false → target_names y (if b then word_of (thing_number base (thing_of (look_up g (base_name of).name))) (alone base g i (n + nodes g of)) else bits_of (thing_number base (thing_of (look_up g (base_name of).name))) (alone base g i (n + nodes g of)) 1) ≡ true →
            (thing_number base (thing_of (look_up g (base_name of).name)) == y) ≡ true
        by_kind false is k = k
        by_kind true is k = absurd (false≢true (sym is))
    named_leaf (part_select p of a l b) n free k =
        let q = driven_leaf d base g h (part_select p of a l b) free in
        record { leaf = part_select p of a l b; leaf_in = inl refl; entry = q.entry; found = q.found; number = sym (ap (λ o. thing_number base (thing_of o)) q.found) ∙ eqb-true _ y k }
    named_leaf (indexed_part p of b w up c) n free k =
        let q = driven_leaf d base g h (indexed_part p of b w up c) free in
        record { leaf = indexed_part p of b w up c; leaf_in = inl refl; entry = q.entry; found = q.found; number = sym (ap (λ o. thing_number base (thing_of o)) q.found) ∙ eqb-true _ y k }
    named_leaf (concatenation p es) n free k = let r = named_leaves es n (both_empty (all_target_faults g Continuous es) _ free).0 k in record { leaf = r.0; leaf_in = r.1; entry = r.2; found = r.3; number = r.4 }
    named_leaf (literal p v) n free k = absurd (no_leaf g Continuous (literal p v) _ h.good.empty free)
    named_leaf (unary_operator p op a) n free k = absurd (no_leaf g Continuous (unary_operator p op a) _ h.good.empty free)
    named_leaf (binary_operator p op a b) n free k = absurd (no_leaf g Continuous (binary_operator p op a b) _ h.good.empty free)
    named_leaf (conditional p x a b) n free k = absurd (no_leaf g Continuous (conditional p x a b) _ h.good.empty free)
    named_leaf (replication p c es) n free k = absurd (no_leaf g Continuous (replication p c es) _ h.good.empty free)
    named_leaf (sign_cast p s a) n free k = absurd (no_leaf g Continuous (sign_cast p s a) _ h.good.empty free)
    named_leaf (parentheses p a) n free k = absurd (no_leaf g Continuous (parentheses p a) _ h.good.empty free)

    named_leaves : (es : Exprs) (n : ℕ) → all_target_faults g Continuous es ≡ [] → some_target_names y (targets base g es n) ≡ true →
        (x : Expr) × In x (all_leaves es) × (s : SignalEntry) × (look_up g (base_name x).name ≡ Some (a_signal s)) × (s.number ≡ y)
    named_leaves no_exprs n free k = absurd (false≢true k)
    named_leaves (an_expr e es) n free k =
        let q = both_empty (target_faults g Continuous e) (all_target_faults g Continuous es) free in
        ⊎_elim
        (λ a. let r = named_leaf e n q.0 a in (r.leaf, in_left r.leaf (leaves e) (all_leaves es) r.leaf_in, r.entry, r.found, r.number))
        (λ a. let r = named_leaves es (n + nodes g e) q.1 a in (r.0, in_right r.0 (leaves e) (all_leaves es) r.1, r.2, r.3, r.4))
        (or_cases _ _ k)

  -- the index of a target is a constant, which mentions nothing
  mutual
    fixed_target : (e : Expr) (n : ℕ) → target_faults g Continuous e ≡ [] → index_mentions y (target base g e n) ≡ true → {P : Type 0} → P
    fixed_target (identifier p x) n free k = absurd (false≢true k)
    fixed_target (bit_select p of i) n free k =
        let l = driven_leaf d base g h (bit_select p of i) free in
        let names = (number_clean g i (faults g i) (ap none l.fixed) (names_sound g h.good.sound i)).0 in
        constant_mentions y (alone base g i (n + nodes g of)) (constant_term base g i names (n + nodes g of) (shape g i)) (by_kind (is_memory_name g of) k)
      where
        by_kind : (b : Bool) → index_mentions y (if b then word_of (thing_number base (thing_of (look_up g (base_name of).name))) (alone base g i (n + nodes g of)) else bits_of (thing_number base (thing_of (look_up g (base_name of).name))) (alone base g i (n + nodes g of)) 1) ≡ true →
            mentions y (alone base g i (n + nodes g of)) ≡ true
        by_kind false k = k
        by_kind true k = k
    fixed_target (part_select p of a l b) n free k =
        let q = driven_leaf d base g h (part_select p of a l b) free in
        let f = both_empty (faults g of) _ q.sound in
        let e = four_none (select_faults (selected g of)) (bound_faults g b a (faults g a)) (bound_faults g b l (faults g l)) _ (ap none f.1) in
        constant_mentions y (alone base g l (n + nodes g of + nodes g a)) (constant_term base g l (bound_number d base g h.good b l e.2).1 (n + nodes g of + nodes g a) (shape g l)) k
    fixed_target (indexed_part p of b w up c) n free k =
        let q = driven_leaf d base g h (indexed_part p of b w up c) free in
        let names = (number_clean g b (faults g b) (ap none q.fixed) (names_sound g h.good.sound b)).0 in
        constant_mentions y (lowest_index base g (declared_range (look_up g (base_name of).name)) up (natural_number g w) b (n + nodes g of)) (lowest_constant base g (declared_range (look_up g (base_name of).name)) up (natural_number g w) b names (n + nodes g of)) k
    fixed_target (concatenation p es) n free k = fixed_targets es n (both_empty (all_target_faults g Continuous es) _ free).0 k
    fixed_target (literal p v) n free k = absurd (false≢true k)
    fixed_target (unary_operator p op a) n free k = absurd (false≢true k)
    fixed_target (binary_operator p op a b) n free k = absurd (false≢true k)
    fixed_target (conditional p x a b) n free k = absurd (false≢true k)
    fixed_target (replication p c es) n free k = absurd (false≢true k)
    fixed_target (sign_cast p s a) n free k = absurd (false≢true k)
    fixed_target (parentheses p a) n free k = absurd (false≢true k)

    fixed_targets : (es : Exprs) (n : ℕ) → all_target_faults g Continuous es ≡ [] → indexes_mention y (targets base g es n) ≡ true → {P : Type 0} → P
    fixed_targets no_exprs n free k = absurd (false≢true k)
    fixed_targets (an_expr e es) n free k =
        let q = both_empty (target_faults g Continuous e) (all_target_faults g Continuous es) free in
        ⊎_elim (λ a. fixed_target e n q.0 a) (λ a. fixed_targets es (n + nodes g e) q.1 a) (or_cases _ _ k)

  -- ---- a bit that is read and not driven

  -- of what is read and driven too some bit is named by the read and by no part of the target
  record IsFreeBit (to : Expr) : Type 0 where
    place : ℕ
    inside : place < (signal_at d y).width
    undriven : (x : Expr) → In x (leaves to) → Drives g (cell y place) x → ⊥

  free_bit : (to : Expr) → IsLeafOf to → IsRead g (written g to) y → IsFreeBit to
  free_bit to l r = record { place = k.0; inside = subst (λ w. k.0 < w) (sym width) (offset_below g r.entry r.part k.0 in_read); undriven = undriven }
    where
      bits : List ℕ
      bits = (writing_of g true true 0 r.part).offsets

      none_reads : list_any (reads_bits (writing_of g true true 0 r.part).thing bits) (written g to) ≡ false
      none_reads = subst (λ o. (is_signal_entry o && list_any (reads_bits (writing_of g true true 0 r.part).thing bits) (written g to)) ≡ false) r.found (not_told (reads_driven g (written g to) r.part) (fault_at SelfAssign (base_name r.part)) r.free)

      apart : (x : Expr) (s : SignalEntry) → In x (leaves to) → look_up g (base_name x).name ≡ Some (a_signal s) → s.number ≡ y → ((length bits == 0) ≡ false) × (have_common (writing_of g true true 0 x).offsets bits ≡ false)
      apart x s there found number =
          let fails = fails_each _ (writing_of g true true 0 x) (written g to) (in_map_back (writing_of g true true 0) x (leaves to) there) none_reads in
          or_parts (length bits == 0) _ (same_thing fails)
        where
          same_thing : reads_bits (writing_of g true true 0 r.part).thing bits (writing_of g true true 0 x) ≡ false → (length bits == 0 || have_common (writing_of g true true 0 x).offsets bits) ≡ false
          same_thing fails =
              let mine : (writing_of g true true 0 r.part).thing ≡ the_signal y = ap thing_of r.found ∙ ap the_signal r.number in
              let other : (writing_of g true true 0 x).thing ≡ the_signal y = ap thing_of found ∙ ap the_signal number in
              subst (λ b. (b && (length bits == 0 || have_common (writing_of g true true 0 x).offsets bits)) ≡ false) (eq-eqb y y refl) (rw (mine, other) at fails)

      k : (n : ℕ) × In n bits
      k = first_of bits (apart l.leaf l.entry l.leaf_in l.found l.number).0

      in_read : In k.0 (offsets g (Some (a_signal r.entry)) r.part)
      in_read = subst (λ o. In k.0 (offsets g o r.part)) r.found k.1

      width : (signal_at d y).width ≡ range_width r.entry.range
      width = ap (λ s. (signal_at d s).width) (sym r.number) ∙ (matches_of d base g h (base_name r.part).name r.entry r.found).width

      undriven : (x : Expr) → In x (leaves to) → Drives g (cell y k.0) x → ⊥
      undriven x there drives =
          false≢true (sym (apart x drives.entry there drives.found drives.number).1
          ∙ common k.0 (writing_of g true true 0 x).offsets bits (subst (λ o. In k.0 (offsets g o x)) (sym drives.found) drives.bit) k.1)

-- ---- processes

-- of a signal that the process drives and mentions it has a wake bit
abbrev WakesOwn : Design → ℕ → ℕ → Type 0
WakesOwn d p y = body_mentions y (body_at d p) ≡ true → body_assigns y (body_at d p) ≡ true → (k : ℕ) × IsWakeBit d p (cell y k)

assign_wakes : (d : Design) (base : ℕ) (ms : List Met) (p : ℕ) → base ≡ length d.signals → IsContinuous base d.signals d.memories ms p (process_at d p) → (y : ℕ) → WakesOwn d p y
assign_wakes d base ms p is s y mentioned assigned = (bit.place, (less, bit.inside, (settling_level (process_at d p) y (subst (λ x. IsClocked x → ⊥) (sym s.is) (λ no. no)) mentioned, by_test _ refl)))
  where
    g : Scope
    g = s.scope

    h : IsPlaced d base g
    h = record { good = s.good; bounded = s.bounded; base_is = is }

    leaf : IsLeafOf d base g y h s.to
    leaf = named_leaf d base g y h s.to s.node s.target_sound (subst (λ x. body_assigns y (body x) ≡ true) s.is assigned)

    less : y < length d.signals
    less = subst (λ n. n < length d.signals) leaf.number (matches_of d base g h (base_name leaf.leaf).name leaf.entry leaf.found).number

    read : IsRead g (written g s.to) y
    read =
        ⊎_elim (λ a. fixed_target d base g y h s.to s.node s.target_sound a)
        (reads_of d base g (written g s.to) y h less s.value (s.node + nodes g s.to) _ s.value_sound (self_told d base g h s.to s.value s.target_sound s.value_sound s.no_self))
        (or_cases _ _ (subst (λ x. body_mentions y (body x) ≡ true) s.is mentioned))

    bit : IsFreeBit d base g y h s.to
    bit = free_bit d base g y h s.to leaf read

    by_test : (b : Bool) → blocking_target d (body_at d p) (cell y bit.place) ≡ b → b ≡ false
    by_test false same = refl
    by_test true same =
        let r = may_drive d base g h s.to s.node (cell y bit.place) s.target_sound (subst (λ x. blocking_target d (body x) (cell y bit.place) ≡ true) s.is same) in
        absurd (bit.undriven r.0 r.1 r.2)

-- what is joined to an input is around its instance
input_wakes : (d : Design) (base : ℕ) (ms : List Met) (p : ℕ) → base ≡ length d.signals → IsInput base d.signals d.memories ms p (process_at d p) → (y : ℕ) → WakesOwn d p y
input_wakes d base ms p is s y mentioned assigned = absurd (by_name number named)
  where
    number : s.port.number ≡ y
    number = eqb-true s.port.number y (subst (λ x. body_assigns y (body x) ≡ true) s.is assigned)

    named : IsNamed base s.scope y
    named = term_mentions base s.scope y s.value 0 _ (sym (mentions_uncounted y (right_side base s.scope (range_width s.port.range) s.value 0)) ∙ subst (λ x. body_mentions y (body x) ≡ true) s.is mentioned)

    by_name : s.port.number ≡ y → IsNamed base s.scope y → ⊥
    by_name number (inl a) = let less = s.above a.0 a.1 a.2 in let same : a.1.number ≡ y = a.3 in omega arith
    by_name number (inr a) = let less = s.matches.number in let same : base + a.1.number ≡ y = a.3 in omega (arith, is)

output_wakes : (d : Design) (base : ℕ) (ms : List Met) (p : ℕ) → base ≡ length d.signals → IsOutput base d.signals d.memories ms p (process_at d p) → (y : ℕ) → WakesOwn d p y
output_wakes d base ms p is s y mentioned assigned =
    let h : IsPlaced d base s.scope = record { good = s.good; bounded = s.bounded; base_is = is } in
    let leaf = named_leaf d base s.scope y h s.to 0 s.target_sound (subst (λ x. body_assigns y (body x) ≡ true) s.is assigned) in
    let less = s.above (base_name leaf.leaf).name leaf.entry leaf.found in
    let number : leaf.entry.number ≡ y = leaf.number in
    ⊎_elim (λ a. fixed_target d base s.scope y h s.to 0 s.target_sound a) (λ a. let same : s.port.number ≡ y = eqb-true _ y a in absurd (omega arith)) (or_cases _ _ (subst (λ x. body_mentions y (body x) ≡ true) s.is mentioned))

source_wakes : (all : List Module) (base : ℕ) (d : Design) (ms : List Met) (p : ℕ) → base ≡ length d.signals → Source all base d.signals d.memories ms p (process_at d p) → IsAssign (process_at d p) → (y : ℕ) → WakesOwn d p y
source_wakes all base d ms p is (of_assign s) a y = assign_wakes d base ms p is s y
source_wakes all base d ms p is (of_input s) a y = input_wakes d base ms p is s y
source_wakes all base d ms p is (of_output s) a y = output_wakes d base ms p is s y
source_wakes all base d ms p is (of_block s) a y = absurd (block_no_assign all base d.signals d.memories ms p (process_at d p) s a)

elaborated_wakes : (all : List Module) (top : List ℕ) → AreOfTokens all → IsSound all top → HasOwnWakes (elaborated all top).design
elaborated_wakes all top tokens sound p y is_a mentioned assigned = by_source (source_at all base st (elaborated_made all top tokens sound) p)
  where
    base : ℕ
    base = base_of all top

    st : Sofar
    st = elaborated all top

    assigns : IsAssign (process_at st.design p)
    assigns = is_assign_from (process_at st.design p) is_a

    by_source : Source all base st.design.signals st.design.memories st.met p (slice_index_or st.design.processes p no_process) ⊎ (slice_index_or st.design.processes p no_process ≡ no_process) → (k : ℕ) × IsWakeBit st.design p (cell y k)
    by_source (inl s) = source_wakes all base st.design st.met p (sym (base_is all top)) s assigns y mentioned assigned
    by_source (inr e) = absurd (subst IsAssign e assigns)

pub answered_wakes : (all : List Module) (top : List ℕ) (d : Design) → AreOfTokens all → answer all top ≡ Ok d → HasOwnWakes d
answered_wakes all top d tokens e = subst HasOwnWakes (answered_design all top d e) (elaborated_wakes all top tokens (answered_sound all top d e))
