-- No continuous assignment reads a bit that it drives.
use Rattle.std.proofs.Common.{◌≡◌, ◌⊎◌, inl, inr, ⊎_elim, ℕ, ◌+◌, ◌<◌, ◌==◌, Bool, true, false, not, ◌&&◌, ◌||◌, if◌then◌else◌, List, [], ◌∷◌, ◌++◌, length, ℤ, Option, Some, None, Ok, refl, sym, ap, ◌∙◌, subst, arith, slice_index_or}
use Rattle.std.specs.List.{list_any, range_with_len}
use Rattle.std.proofs.lemmas.Bool.{and_parts, eq-eqb, eqb-true, false≢true, or_cases, or_left, or_right}
use Rattle.cov_host.specs.declared.place.Place.{Place}
use Rattle.event_machine.specs.Cell.{Cell}
use Rattle.four_state.specs.Arithmetic.{natural}
use Rattle.four_state.specs.Parts.{index}
use Rattle.four_state.specs.Vector.{fill}
use Rattle.four_state.specs.declared.bit.Bit.TheVariants.{X}
use Rattle.design_model.specs.Assignment.{bit_writes_option, signal_range}
use Rattle.design_model.specs.Design.{Design, In, IsAssign, body, body_at, no_process, process_at, signal_at}
use Rattle.design_model.specs.Lawful.{is_plain, may_read, slide_writes, some_may_read}
use Rattle.design_model.specs.Mentions.{any_set, blank, has_cell, is_constant, may_write, static_writes}
use Rattle.design_model.specs.Tree as t
use Rattle.design_model.specs.Tree.{Head, Process, Term, all_of, bits_of}
use Rattle.design_model.specs.Value as model
use Rattle.design_model.specs.Value.{head, offset_option, slide_offset, value}
use Rattle.design_model.specs.declared.design.Range.{Range}
use Rattle.design_model.proofs.Lawful.{place_from}
use Rattle.design_model.proofs.Named.{WritesCell-from}
use Rattle.verilog_tree.specs.Tree.{Expr, Exprs, Module, an_expr, binary_operator, bit_select, concatenation, conditional, identifier, indexed_part, literal, no_exprs, parentheses, part_select, replication, sign_cast, unary_operator}
use Rattle.elab_const.specs.Meaning.{operand_shape, operand_shapes, operands_of}
use Rattle.elab_const.specs.declared.width.Shape.{Shape}
use Rattle.flat_design.specs.Bodies.{Met}
use Rattle.flat_design.specs.Expressions.{all_faults, bound_faults, faults, index_faults, select_faults, selected, some_offset, width_faults, word_faults}
use Rattle.flat_design.specs.Fault.{fault_at, none}
use Rattle.flat_design.specs.Faults.{answer}
use Rattle.flat_design.specs.Flat.{elaborated}
use Rattle.flat_design.specs.Identifiers.{base_name}
use Rattle.flat_design.specs.Instances.{Sofar}
use Rattle.flat_design.specs.Loops.{is_identifier}
use Rattle.flat_design.specs.Numbering.{condition_nodes, is_counted_condition, nodes, one_if}
use Rattle.flat_design.specs.Processes.{all_self_reads, have_common, reads_bits, reads_driven, self_faults, self_read, self_reads, uncounted, written}
use Rattle.flat_design.specs.Scope.{Scope, is_memory_name, look_up, names_constants, names_faulty, names_thing, natural_number, range_or, range_width, shape, thing_number, thing_of, whole_number}
use Rattle.flat_design.specs.declared.entry.Entry.{Entry}
use Rattle.flat_design.specs.declared.entry.Entry.TheVariants.{Constant as a_constant, Turn as a_turn, Signal as a_signal, Memory as a_memory, LoopVariable as a_loop_variable, Instance as an_instance, NoConstant as no_constant, Faulty as a_faulty_one}
use Rattle.flat_design.specs.declared.entry.Mode.TheVariants.{Continuous}
use Rattle.flat_design.specs.declared.entry.SignalEntry.{SignalEntry}
use Rattle.flat_design.specs.declared.fault.ElabKind.TheVariants.{SelfAssign}
use Rattle.flat_design.specs.Targets.{Writing, leaves, offsets_from, offsets_if, target, target_faults, writing_of}
use Rattle.flat_design.specs.Terms.{alone, condition_as, counted_as, head_as, name_term, right_side, term, terms, word_or_bit}
use Rattle.flat_laws.specs.Tokens.{AreOfTokens}
use Rattle.flat_design.proofs.NoConstFaults.{constant_not_faulty, constant_there, four_none, no_const_fault, true_both}
use Rattle.flat_laws.proofs.Freedom.{IsSound, answered_sound, both_empty, not_told}
use Rattle.flat_laws.proofs.IndexValues.{alone_natural, alone_whole}
use Rattle.flat_laws.proofs.LawfulBase.{base_is}
use Rattle.flat_laws.proofs.LawfulConstants.{constant_term}
use Rattle.flat_laws.proofs.LawfulDrivers.{Drives, IsDriver, IsPlaced, common, leaf_driver, matches_of, may_drive, range_is, drives_all}
use Rattle.flat_laws.proofs.LawfulLimits.{answered_design, base_of}
use Rattle.flat_laws.proofs.LawfulMentions.{IsNamed, memory_name, mentions_uncounted, read_mentions, term_mentions}
use Rattle.flat_laws.proofs.LawfulNames.{in_map_back}
use Rattle.flat_laws.proofs.LawfulOffsets.{in_range, written_offset}
use Rattle.flat_laws.proofs.LawfulScope.{MatchesSignal}
use Rattle.flat_laws.proofs.LawfulSound.{names_sound}
use Rattle.flat_laws.proofs.SelectNumbers.{bound_number, counted_number, part_width_is, width_number}
use Rattle.flat_laws.proofs.LawfulSources.{block_no_assign, IsContinuous, IsInput, IsOutput, Source, elaborated_made, of_assign, of_block, of_input, of_output, source_at}

-- a bit of a signal that one of these writings drives
pub record IsWrittenBit (d : Design) (ws : List Writing) (c : Cell) : Type 0 where
  pub writing : Writing
  pub writing_in : In writing ws
  pub driver : IsDriver c writing
  pub signal : c.thing < length d.signals
  pub inside : c.place < (signal_at d c.thing).width

-- a select or name of the bit is one that reads what is driven
pub any_of : (p : Writing → Bool) (w : Writing) (ws : List Writing) → In w ws → p w ≡ true → list_any p ws ≡ true
any_of p w [] h k = absurd h
any_of p w (v ∷ vs) (inl e) k = or_left (p v) (list_any p vs) (subst (λ z. p z ≡ true) (sym e) k)
any_of p w (v ∷ vs) (inr h) k = or_right (p v) (list_any p vs) (any_of p w vs h k)

read_told : (d : Design) (g : Scope) (ws : List Writing) (c : Cell) → IsWrittenBit d ws c → (e : Expr) → Drives g c e → self_read g ws e ≡ [] → ⊥
read_told d g ws c b e h free = false≢true (sym (not_told (reads_driven g ws e) (fault_at SelfAssign (base_name e)) free) ∙ told)
  where
    one : reads_bits (writing_of g true true 0 e).thing (writing_of g true true 0 e).offsets b.writing ≡ true
    one =
        let f = leaf_driver g c true 0 e h in
        let bits = (writing_of g true true 0 e).offsets in
        rw (b.driver.thing, f.thing) (true_both _ _ (eq-eqb c.thing c.thing refl) (or_right (length bits == 0) (have_common b.writing.offsets bits) (common c.place b.writing.offsets bits b.driver.bit f.bit)))

    told : reads_driven g ws e ≡ true
    told = rw h.found (any_of _ b.writing ws b.writing_in (rw h.found at one))

-- a term that is the signal of a name
record IsName (g : Scope) (c : Cell) (e : Expr) : Type 0 where
  entry : SignalEntry
  found : look_up g (base_name e).name ≡ Some (a_signal entry)
  number : entry.number ≡ c.thing

name_read : (d : Design) (g : Scope) (c : Cell) (x : List ℕ) (h : Head) (o : Option Entry) → may_read d (name_term o h) c ≡ true → ((s : SignalEntry) × (o ≡ Some (a_signal s)) × (s.number ≡ c.thing)) × (is_plain (name_term o h) ≡ true)
name_read d g c x h (Some (a_signal s)) k = ((s, refl, sym (eqb-true c.thing s.number k)), refl)
name_read d g c x h None k = absurd (false≢true k)
name_read d g c x h (Some (a_constant v)) k = absurd (false≢true k)
name_read d g c x h (Some (a_turn v)) k = absurd (false≢true k)
name_read d g c x h (Some (a_memory m)) k = absurd (false≢true k)
name_read d g c x h (Some a_loop_variable) k = absurd (false≢true k)
name_read d g c x h (Some an_instance) k = absurd (false≢true k)
name_read d g c x h (Some no_constant) k = absurd (false≢true k)
name_read d g c x h (Some a_faulty_one) k = absurd (false≢true k)

-- what is selected from is read: it is a name, or it reads what is driven
selected_read : (d : Design) (base : ℕ) (g : Scope) (ws : List Writing) (c : Cell) (of : Expr) (n : ℕ) → (self_reads g ws of ≡ [] → may_read d (term base g of n (shape g of)) c ≡ true → ⊥) →
    (if is_identifier of then [] else self_reads g ws of) ≡ [] → may_read d (term base g of n (shape g of)) c ≡ true → IsName g c of × (is_plain (term base g of n (shape g of)) ≡ true)
selected_read d base g ws c (identifier p x) n deeper free k = let q = name_read d g c x _ (look_up g x) k in (record { entry = q.0.0; found = q.0.1; number = q.0.2 }, q.1)
selected_read d base g ws c _ n deeper free k = absurd (deeper free k)

-- all bits of the signal
whole_bit : (d : Design) (ws : List Writing) (c : Cell) → IsWrittenBit d ws c → (s : SignalEntry) → MatchesSignal d.signals s → s.number ≡ c.thing → In c.place (range_with_len 0 (range_width s.range))
whole_bit d ws c b s m e =
    let less : c.place < range_width s.range = subst (λ w. c.place < w) (ap (λ k. (signal_at d k).width) (sym e) ∙ m.width) b.inside in in_range 0 (range_width s.range) c.place (omega arith) (omega (arith, less))

-- the bits that writes from an offset name
named_bit : (d : Design) (c : Cell) (s : SignalEntry) → MatchesSignal d.signals s → s.number ≡ c.thing → (w : ℕ) (from : Range → Option ℤ) → has_cell (bit_writes_option c.thing (signal_at d c.thing).width (from (signal_range d c.thing)) (fill w X)) c ≡ true →
    In c.place (offsets_from (range_width s.range) w (from (range_or s.range)))
named_bit d c s m e w from h =
    let there : In c.place (offsets_from (signal_at d c.thing).width w (from (signal_range d c.thing))) = written_offset c.thing (signal_at d c.thing).width w (from (signal_range d c.thing)) c (WritesCell-from _ c h) in
    subst (λ k. In c.place (offsets_from k w (from (range_or s.range)))) (ap (λ k. (signal_at d k).width) (sym e) ∙ m.width)
    (subst (λ r. In c.place (offsets_from (signal_at d c.thing).width w (from r))) (ap (signal_range d) (sym e) ∙ range_is d s m) there)

-- the index of a constant without a fault
pub index_is : (base : ℕ) (d : Design) (g : Scope) (e : Expr) → names_constants g e ≡ true → faults g e ≡ [] → (n : ℕ) → index (head (alone base g e n)).signed (value d blank (alone base g e n)) ≡ whole_number g e
index_is base d g e a b n = alone_whole base d blank g e (constant_there g e a (ap none b)) (no_const_fault g e (ap none b) (constant_not_faulty g e a)) n

-- the bit that a select by an index may read, constant or not
maybe_bit : (d : Design) (ws : List Writing) (c : Cell) → IsWrittenBit d ws c → (s : SignalEntry) → MatchesSignal d.signals s → s.number ≡ c.thing → (names_all fixed : Bool) → (names_all ≡ true → fixed ≡ true) → (w : ℕ) (o p : Option ℤ) (from : Range → Option ℤ → Option ℤ) → (names_all ≡ true → o ≡ p) →
    (not fixed || has_cell (bit_writes_option c.thing (signal_at d c.thing).width (from (signal_range d c.thing) o) (fill w X)) c) ≡ true → In c.place (offsets_if names_all s w (from (range_or s.range) p))
maybe_bit d ws c b s m e false fixed f w o p from same h = whole_bit d ws c b s m e
maybe_bit d ws c b s m e true fixed f w o p from same h =
    subst (λ z. In c.place (offsets_from (range_width s.range) w (from (range_or s.range) z))) (same refl)
    (named_bit d c s m e w (λ r. from r o) (subst (λ z. (not z || has_cell (bit_writes_option c.thing (signal_at d c.thing).width (from (signal_range d c.thing) o) (fill w X)) c) ≡ true) (f refl) h))

counted_read : (d : Design) (c : Cell) (n : ℕ) (x : Term) → may_read d (counted_as n x) c ≡ may_read d x c
counted_read d c n (t.number h k) = refl
counted_read d c n (t.signal h s) = refl
counted_read d c n (t.word h m i) = refl
counted_read d c n (t.bit h of i) = refl
counted_read d c n (t.part h of i j) = refl
counted_read d c n (t.slide h of b w up) = refl
counted_read d c n (t.unary h op a) = refl
counted_read d c n (t.binary h op a b) = refl
counted_read d c n (t.choice h x a b) = refl
counted_read d c n (t.concat h ts) = refl
counted_read d c n (t.repeat h k ts) = refl
counted_read d c n (t.sign h s a) = refl

condition_read : (d : Design) (c : Cell) (counted : Bool) (n : ℕ) (x : ℕ → Term) → ((k : ℕ) → may_read d (x k) c ≡ true → ⊥) → may_read d (condition_as counted n x) c ≡ true → ⊥
condition_read d c true n x f h = f (n + 1) (sym (counted_read d c n (x (n + 1))) ∙ h)
condition_read d c false n x f h = f n h

-- ---- selects

pub offset_same : (r : Range) (o : Option ℤ) → offset_option r o ≡ some_offset r o
offset_same r None = refl
offset_same r (Some i) = refl

bit_offset : (d : Design) (c : Cell) (x : Term) (fixed : Bool) → (not fixed || has_cell (static_writes d (bits_of c.thing x 1)) c) ≡ true →
    (not fixed || has_cell (bit_writes_option c.thing (signal_at d c.thing).width (some_offset (signal_range d c.thing) (index (head x).signed (value d blank x))) (fill 1 X)) c) ≡ true
bit_offset d c x fixed h =
    subst (λ o. (not fixed || has_cell (bit_writes_option c.thing (signal_at d c.thing).width o (fill 1 X)) c) ≡ true) (offset_same (signal_range d c.thing) (index (head x).signed (value d blank x))) h

module _ (d : Design) (base : ℕ) (g : Scope) (ws : List Writing) (c : Cell) (h : IsPlaced d base g) (b : IsWrittenBit d ws c) where
  -- an expression without faults, of which no read is reported, does not read the bit
  abbrev Unread : Expr → ℕ → Type 0
  Unread e n = faults g e ≡ [] → self_reads g ws e ≡ [] → may_read d (term base g e n (shape g e)) c ≡ true → ⊥

  matches_name : (e : Expr) (x : IsName g c e) → MatchesSignal d.signals x.entry
  matches_name e x = matches_of d base g h (base_name e).name x.entry x.found

  read_bit : (p : Place) (of i : Expr) (n : ℕ) (s : Shape) → Unread of n → ((m : ℕ) → Unread i m) → faults g (bit_select p of i) ≡ [] → self_reads g ws (bit_select p of i) ≡ [] → may_read d (term base g (bit_select p of i) n s) c ≡ true → ⊥
  read_bit p of i n s deeper_of deeper_i sound told = by_kind (is_memory_name g of) refl sound
    where
      parts : ((self_read g ws (bit_select p of i) ++ (if is_identifier of then [] else self_reads g ws of)) ≡ []) × (self_reads g ws i ≡ [])
      parts = both_empty (self_read g ws (bit_select p of i) ++ (if is_identifier of then [] else self_reads g ws of)) (self_reads g ws i) told

      first : (self_read g ws (bit_select p of i) ≡ []) × ((if is_identifier of then [] else self_reads g ws of) ≡ [])
      first = both_empty (self_read g ws (bit_select p of i)) (if is_identifier of then [] else self_reads g ws of) parts.0

      index_term : Term
      index_term = term base g i (n + nodes g of) (shape g i)

      by_name : faults g i ≡ [] → (x : IsName g c of) → (not (is_constant index_term) || has_cell (static_writes d (bits_of c.thing index_term 1)) c) ≡ true → ⊥
      by_name fi x k =
          read_told d g ws c b (bit_select p of i)
          (record {
            entry = x.entry;
            found = x.found;
            number = x.number;
            bit = maybe_bit d ws c b x.entry (matches_name of x) x.number (names_constants g i) (is_constant index_term) (λ a. constant_term base g i a (n + nodes g of) (shape g i)) 1
                (index (head index_term).signed (value d blank index_term)) (whole_number g i) some_offset (λ a. index_is base d g i a fi (n + nodes g of)) (bit_offset d c index_term (is_constant index_term) k);
          })
          first.0

      by_kind : (t : Bool) → is_memory_name g of ≡ t → (if t then word_faults g (look_up g (base_name of).name) (base_name of) i (faults g i) else faults g of ++ select_faults (selected g of) ++ faults g i ++ index_faults g (selected g of) i (faults g i)) ≡ [] →
          may_read d (word_or_bit t (thing_number base (thing_of (look_up g (base_name of).name))) (head_as p s None) (term base g of n (shape g of)) (term base g i n (shape g i)) index_term) c ≡ true → ⊥
      by_kind true is f k =
          let m = memory_name g of is in
          let fi = (both_empty (faults g i) _ (subst (λ o. word_faults g o (base_name of) i (faults g i) ≡ []) m.1 f)).0 in
          let less : c.thing < length d.signals = b.signal in
          ⊎_elim (λ a. let same : c.thing ≡ base + m.0.number = eqb-true c.thing _ a ∙ ap (λ o. thing_number base (thing_of o)) m.1 in omega (arith, h.base_is)) (deeper_i n fi parts.1) (or_cases _ _ k)
      by_kind false is f k =
          let f1 = both_empty (faults g of ++ select_faults (selected g of) ++ faults g i) _ f in
          let f2 = both_empty (faults g of ++ select_faults (selected g of)) (faults g i) f1.0 in
          let f3 = both_empty (faults g of) (select_faults (selected g of)) f2.0 in
          ⊎_elim (deeper_i (n + nodes g of) f2.1 parts.1)
          (λ a.
          let q = and_parts (may_read d (term base g of n (shape g of)) c) _ a in
          let x = selected_read d base g ws c of n (deeper_of f3.0) first.1 q.0 in
          by_name f2.1 x.0 (subst (λ z. (not (z && is_constant index_term) || has_cell (static_writes d (bits_of c.thing index_term 1)) c) ≡ true) x.1 q.1))
          (or_cases _ _ k)

  read_part : (p : Place) (of a l : Expr) (k : Place) (n : ℕ) (s : Shape) → Unread of n → faults g (part_select p of a l k) ≡ [] → self_reads g ws (part_select p of a l k) ≡ [] → may_read d (term base g (part_select p of a l k) n s) c ≡ true → ⊥
  read_part p of a l k n s deeper sound told read =
      let low : Term = term base g l (n + nodes g of + nodes g a) (shape g l) in
      let w : ℕ = model.part_width (value d blank (term base g a (n + nodes g of) (shape g a))) (value d blank low) in
      let first = both_empty (self_read g ws (part_select p of a l k)) (if is_identifier of then [] else self_reads g ws of) told in
      let f = both_empty (faults g of) _ sound in
      let e = four_none (select_faults (selected g of)) (bound_faults g k a (faults g a)) (bound_faults g k l (faults g l)) _ (ap none f.1) in
      let q = and_parts (may_read d (term base g of n (shape g of)) c) _ read in
      let x = selected_read d base g ws c of n (deeper f.0) first.1 q.0 in
      let y = bound_number d base g h.good k l e.2 in
      let there : has_cell (static_writes d (bits_of c.thing low w)) c ≡ true = subst (λ z. (not z || has_cell (static_writes d (bits_of c.thing low w)) c) ≡ true) x.1 q.1 in
      let bit = named_bit d c x.0.entry (matches_name of x.0) x.0.number w (λ r. offset_option r (index (head low).signed (value d blank low))) there in
      let same = offset_same (range_or x.0.entry.range) (index (head low).signed (value d blank low)) ∙ ap (some_offset (range_or x.0.entry.range)) (alone_whole base d blank g l y.0.1.is_constant y.0.1.no_fault (n + nodes g of + nodes g a)) in
      read_told d g ws c b (part_select p of a l k)
      (record { entry = x.0.entry; found = x.0.found; number = x.0.number; bit = subst (λ z. In c.place (offsets_from (range_width x.0.entry.range) z (some_offset (range_or x.0.entry.range) (whole_number g l)))) (part_width_is d base g h.good p of a l k (n + nodes g of) (n + nodes g of + nodes g a) sound e.1 e.2) (subst (λ z. In c.place (offsets_from (range_width x.0.entry.range) w z)) same bit) })
      first.0

  read_slide : (p : Place) (of i w : Expr) (up : Bool) (k : Place) (n : ℕ) (s : Shape) → Unread of n → ((m : ℕ) → Unread i m) → faults g (indexed_part p of i w up k) ≡ [] → self_reads g ws (indexed_part p of i w up k) ≡ [] → may_read d (term base g (indexed_part p of i w up k) n s) c ≡ true → ⊥
  read_slide p of i w up k n s deeper_of deeper_i sound told read =
      let from : Term = term base g i (n + nodes g of) (shape g i) in
      let size : Term = term base g w (n + nodes g of + nodes g i) (shape g w) in
      let parts = both_empty (self_read g ws (indexed_part p of i w up k) ++ (if is_identifier of then [] else self_reads g ws of)) (self_reads g ws i) told in
      let first = both_empty (self_read g ws (indexed_part p of i w up k)) (if is_identifier of then [] else self_reads g ws of) parts.0 in
      let f = both_empty (faults g of) _ sound in
      let f1 = both_empty (select_faults (selected g of) ++ faults g i ++ width_faults g k w (faults g w)) _ f.1 in
      let f2 = both_empty (select_faults (selected g of) ++ faults g i) (width_faults g k w (faults g w)) f1.0 in
      let f3 = both_empty (select_faults (selected g of)) (faults g i) f2.0 in
      let x = width_number d base g h.good k w (ap none f2.1) in
      let width : natural (value d blank size) ≡ natural_number g w = alone_natural base d blank g w x.0 x.1 (n + nodes g of + nodes g i) ∙ sym (counted_number d base g h.good w x.0 x.1) in
      ⊎_elim (deeper_i (n + nodes g of) f3.1 parts.1)
      (λ a.
      let q = and_parts (may_read d (term base g of n (shape g of)) c) _ a in
      let y = selected_read d base g ws c of n (deeper_of f.0) first.1 q.0 in
      let by_width : (not (is_constant from) || has_cell (slide_writes d c.thing up from (natural_number g w)) c) ≡ true =
      subst (λ z. (not (is_constant from) || has_cell (slide_writes d c.thing up from z) c) ≡ true) width (subst (λ z. (not (z && is_constant from) || has_cell (slide_writes d c.thing up from (natural (value d blank size))) c) ≡ true) y.1 q.1) in
      read_told d g ws c b (indexed_part p of i w up k)
      (record {
        entry = y.0.entry;
        found = y.0.found;
        number = y.0.number;
        bit = maybe_bit d ws c b y.0.entry (matches_name of y.0) y.0.number (names_constants g i) (is_constant from) (λ z. constant_term base g i z (n + nodes g of) (shape g i)) (natural_number g w)
            (index (head from).signed (value d blank from)) (whole_number g i) (λ r o. slide_offset r up (natural_number g w) o) (λ z. index_is base d g i z f3.1 (n + nodes g of)) by_width;
      })
      first.0)
      (or_cases _ _ read)

  read_name : (p : Place) (x : List ℕ) (n : ℕ) (s : Shape) → self_reads g ws (identifier p x) ≡ [] → may_read d (term base g (identifier p x) n s) c ≡ true → ⊥
  read_name p x n s told read =
      let q = name_read d g c x _ (look_up g x) read in
      read_told d g ws c b (identifier p x) (record { entry = q.0.0; found = q.0.1; number = q.0.2; bit = whole_bit d ws c b q.0.0 (matches_of d base g h x q.0.0 q.0.1) q.0.2 }) told

  -- ---- each expression

  mutual
    pub unread : (e : Expr) (n : ℕ) (s : Shape) → faults g e ≡ [] → self_reads g ws e ≡ [] → may_read d (term base g e n s) c ≡ true → ⊥
    unread (literal p v) n s sound told read = false≢true read
    unread (identifier p x) n s sound told read = read_name p x n s told read
    unread (bit_select p of i) n s sound told read = read_bit p of i n s (unread of n (shape g of)) (λ m. unread i m (shape g i)) sound told read
    unread (part_select p of a l k) n s sound told read = read_part p of a l k n s (unread of n (shape g of)) sound told read
    unread (indexed_part p of i w up k) n s sound told read = read_slide p of i w up k n s (unread of n (shape g of)) (λ m. unread i m (shape g i)) sound told read
    unread (unary_operator p op a) n s sound told read = unread a (n + one_if (names_thing g a)) (operand_shape op (shape g a) s) sound told read
    unread (binary_operator p op x y) n s sound told read =
        let counted : Bool = names_thing g (binary_operator p op x y) in
        let shapes : Shape × Shape = operand_shapes (operands_of op) (shape g x) (shape g y) s in
        let f = both_empty (faults g x) (faults g y) sound in
        let t = both_empty (self_reads g ws x) (self_reads g ws y) told in
        ⊎_elim (unread x (n + one_if counted) shapes.0 f.0 t.0) (unread y (n + one_if counted + nodes g x) shapes.1 f.1 t.1) (or_cases _ _ read)
    unread (conditional p x y z) n s sound told read =
        let f = both_empty (faults g x ++ faults g y) (faults g z) sound in
        let f1 = both_empty (faults g x) (faults g y) f.0 in
        let t = both_empty (self_reads g ws x ++ self_reads g ws y) (self_reads g ws z) told in
        let t1 = both_empty (self_reads g ws x) (self_reads g ws y) t.0 in
        ⊎_elim (condition_read d c (is_counted_condition g x) n (λ k. term base g x k (shape g x)) (λ k. unread x k (shape g x) f1.0 t1.0))
        (λ r. ⊎_elim (unread y (n + condition_nodes g x) s f1.1 t1.1) (unread z (n + condition_nodes g x + nodes g y) s f.1 t.1) (or_cases _ _ r)) (or_cases _ _ read)
    unread (concatenation p es) n s sound told read = all_unread es n (both_empty (all_faults g es) _ sound).0 told read
    unread (replication p k es) n s sound told read = all_unread es (n + nodes g k) (both_empty (all_faults g es) _ sound).0 told read
    unread (sign_cast p signed a) n s sound told read = unread a n (shape g a) sound told read
    unread (parentheses p a) n s sound told read = unread a n s sound told read

    all_unread : (es : Exprs) (n : ℕ) → all_faults g es ≡ [] → all_self_reads g ws es ≡ [] → some_may_read d (terms base g es n) c ≡ true → ⊥
    all_unread no_exprs n sound told read = false≢true read
    all_unread (an_expr e es) n sound told read =
        let f = both_empty (faults g e) (all_faults g es) sound in
        let t = both_empty (self_reads g ws e) (all_self_reads g ws es) told in
        ⊎_elim (unread e n (shape g e) f.0 t.0) (all_unread es (n + nodes g e) f.1 t.1) (or_cases _ _ read)

-- ---- each process

abbrev reads_own : Design → Cell → Process → Bool
reads_own d c x = any_set (λ b y v. may_write d y c && may_read d v c) (body x)

-- a continuous assignment without faults reads no bit that it drives
pub self_told : (d : Design) (base : ℕ) (g : Scope) → IsPlaced d base g → (to v : Expr) → target_faults g Continuous to ≡ [] → faults g v ≡ [] → self_faults g to v ≡ [] → self_reads g (written g to) v ≡ []
self_told d base g h to v a b free = by_test (none (target_faults g Continuous to ++ faults g v)) (names_faulty g to || names_faulty g v) (rw (a, b) refl) (rw (names_sound g h.good.sound to, names_sound g h.good.sound v) refl) free
  where
    by_test : (x y : Bool) → x ≡ true → y ≡ false → (if x && not y then self_reads g (written g to) v else []) ≡ [] → self_reads g (written g to) v ≡ []
    by_test true false p q e = e
    by_test true true p q e = absurd (false≢true (sym q))
    by_test false y p q e = absurd (false≢true p)

assign_unread : (d : Design) (base : ℕ) (ms : List Met) (p : ℕ) (x : Process) → base ≡ length d.signals → (s : IsContinuous base d.signals d.memories ms p x) → (c : Cell) → reads_own d c x ≡ true → ⊥
assign_unread d base ms p x is s c k =
    let g = s.scope in
    let h : IsPlaced d base g = record { good = s.good; bounded = s.bounded; base_is = is } in
    let q = and_parts (may_write d (target base g s.to s.node) c) _ (subst (λ z. reads_own d c z ≡ true) s.is k) in
    let r = may_drive d base g h s.to s.node c s.target_sound q.0 in
    let m = matches_of d base g h (base_name r.0).name r.2.entry r.2.found in
    let number : r.2.entry.number ≡ c.thing = r.2.number in
    let less : c.thing < length d.signals = (let inside = m.number in omega arith) in
    unread d base g (written g s.to) c h
    (record { writing = writing_of g true true 0 r.0; writing_in = in_map_back (writing_of g true true 0) r.0 (leaves s.to) r.1; driver = leaf_driver g c true 0 r.0 r.2; signal = less; inside = place_from d (target base g s.to s.node) c less q.0 })
    s.value (s.node + nodes g s.to) _ s.value_sound (self_told d base g h s.to s.value s.target_sound s.value_sound s.no_self) q.1

-- what is joined to an input is around its instance
input_unread : (d : Design) (base : ℕ) (ms : List Met) (p : ℕ) (x : Process) → base ≡ length d.signals → (s : IsInput base d.signals d.memories ms p x) → (c : Cell) → reads_own d c x ≡ true → ⊥
input_unread d base ms p x is s c k =
    let v = right_side base s.scope (range_width s.port.range) s.value 0 in
    let q = and_parts (may_write d (all_of s.port.number) c) (may_read d (uncounted v) c) (subst (λ z. reads_own d c z ≡ true) s.is k) in
    let number : s.port.number ≡ c.thing = (drives_all d s.port s.matches c q.0).0 in
    by_name number (term_mentions base s.scope c.thing s.value 0 _ (sym (mentions_uncounted c.thing v) ∙ read_mentions d (uncounted v) c q.1))
  where
    by_name : s.port.number ≡ c.thing → IsNamed base s.scope c.thing → ⊥
    by_name number (inl a) = let less = s.above a.0 a.1 a.2 in let same : a.1.number ≡ c.thing = a.3 in omega arith
    by_name number (inr a) = let less = s.matches.number in let same : base + a.1.number ≡ c.thing = a.3 in omega (arith, is)

output_unread : (d : Design) (base : ℕ) (ms : List Met) (p : ℕ) (x : Process) → base ≡ length d.signals → (s : IsOutput base d.signals d.memories ms p x) → (c : Cell) → reads_own d c x ≡ true → ⊥
output_unread d base ms p x is s c k =
    let h : IsPlaced d base s.scope = record { good = s.good; bounded = s.bounded; base_is = is } in
    let q = and_parts (may_write d (target base s.scope s.to 0) c) (c.thing == s.port.number) (subst (λ z. reads_own d c z ≡ true) s.is k) in
    let r = may_drive d base s.scope h s.to 0 c s.target_sound q.0 in
    let less = s.above (base_name r.0).name r.2.entry r.2.found in
    let same : c.thing ≡ s.port.number = eqb-true c.thing s.port.number q.1 in
    let number : r.2.entry.number ≡ c.thing = r.2.number in
    omega arith

source_unread : (all : List Module) (base : ℕ) (d : Design) (ms : List Met) (p : ℕ) (x : Process) → base ≡ length d.signals → Source all base d.signals d.memories ms p x → (c : Cell) → IsAssign x → reads_own d c x ≡ true → ⊥
source_unread all base d ms p x is (of_assign s) c a k = assign_unread d base ms p x is s c k
source_unread all base d ms p x is (of_input s) c a k = input_unread d base ms p x is s c k
source_unread all base d ms p x is (of_output s) c a k = output_unread d base ms p x is s c k
source_unread all base d ms p x is (of_block s) c a k = block_no_assign all base d.signals d.memories ms p x s a

-- no continuous assignment reads a bit that it drives
pub record ReadsNoOwn (d : Design) : Type 0 where
  pub reads_no_own : (p : ℕ) (c : Cell) → IsAssign (process_at d p) → any_set (λ b x t. may_write d x c && may_read d t c) (body_at d p) ≡ false

elaborated_reads : (all : List Module) (top : List ℕ) → AreOfTokens all → IsSound all top → ReadsNoOwn (elaborated all top).design
elaborated_reads all top tokens sound = record { reads_no_own = λ p c a. by_test p c a (reads_own st.design c (process_at st.design p)) refl }
  where
    base : ℕ
    base = base_of all top

    st : Sofar
    st = elaborated all top

    by_source : (p : ℕ) (c : Cell) → IsAssign (process_at st.design p) → reads_own st.design c (process_at st.design p) ≡ true → Source all base st.design.signals st.design.memories st.met p (slice_index_or st.design.processes p no_process) ⊎ (slice_index_or st.design.processes p no_process ≡ no_process) → ⊥
    by_source p c a k (inl s) = source_unread all base st.design st.met p _ (sym (base_is all top)) s c a k
    by_source p c a k (inr e) = subst IsAssign e a

    by_test : (p : ℕ) (c : Cell) → IsAssign (process_at st.design p) → (t : Bool) → reads_own st.design c (process_at st.design p) ≡ t → t ≡ false
    by_test p c a false is = refl
    by_test p c a true is = absurd (by_source p c a is (source_at all base st (elaborated_made all top tokens sound) p))

pub answered_reads : (all : List Module) (top : List ℕ) (d : Design) → AreOfTokens all → answer all top ≡ Ok d → ReadsNoOwn d
answered_reads all top d tokens e = subst ReadsNoOwn (answered_design all top d e) (elaborated_reads all top tokens (answered_sound all top d e))
