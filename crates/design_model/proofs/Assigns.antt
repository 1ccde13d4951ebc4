-- An Assign is combinational for each bit of its target, and so the machine of a lawful design is lawful.
use Rattle.std.proofs.Common.{◌≡◌, ⊎_elim, ℕ, Bool, true, false, not, ◌&&◌, ◌||◌, ◌==◌, List, ◌++◌, length, take, drop, refl, sym, ap, ap₂, subst, ◌∙◌, arith, eq-eqb, length-take, length-drop}
use Rattle.std.proofs.lemmas.Bool.{and_from, and_parts, or_cases, or_left, or_right, ltb-true, eqb-true, false≢true, both_ways}
use Rattle.std.specs.Prelude.{nat_lt, max}
use Rattle.std.proofs.lemmas.List.{length-replicate}
use Rattle.event_machine.specs.Cell.{Cell, Values, WritesCell}
use Rattle.event_machine.specs.Machine.{IsCombinational, IsLawful}
use Rattle.four_state.specs.Parts.{index}
use Rattle.four_state.specs.Vector.{extend, fill}
use Rattle.four_state.specs.declared.bit.Bit.{Bit}
use Rattle.four_state.specs.declared.bit.Bit.TheVariants.{X}
use Rattle.design_model.specs.Tree.{Process, Target, Targets, Term, Terms, a_target, a_term, all_of, assign, binary, bit, bits_of, choice, clocked, comb, concat, no_targets, no_terms, number, part, repeat, several, sign, signal, slide, unary, word, word_of}
use Rattle.design_model.specs.Design.{Design, IsAssign, body, body_at, is_assign, process_at, signal_at}
use Rattle.design_model.specs.Value.{head, offset_option, value}
use Rattle.design_model.specs.Assignment.{bit_writes_option, signal_range, target_width, target_writes, targets_width, targets_writes}
use Rattle.design_model.specs.Mentions.{any_set, blocking_target, has_cell, may_write, mentions, mentions_any, some_may_write, static_writes}
use Rattle.design_model.specs.Execution.{execution}
use Rattle.design_model.specs.Machine.{is_level, machine}
use Rattle.design_model.specs.Shape.{is_body, is_shaped, is_target, own_sign, own_width}
use Rattle.design_model.specs.Lawful.{IsLawfulDesign, are_fixed_targets, is_fixed_target, may_read, some_may_read, target_once}
use Rattle.design_model.proofs.BitReads.{value_reads}
use Rattle.design_model.proofs.ConstantTerms.{value_constant}
use Rattle.design_model.proofs.EventSignals.{event_signals}
use Rattle.design_model.proofs.Lawful.{blocking_kept, input_has_one_bit, inputs_kept, no_edge, not_both, one_writer, queued_kept, same_bit_is, same_bit_self, target_has_one_bit}
use Rattle.design_model.proofs.Once.{written_once}
use Rattle.design_model.proofs.Named.{WritesCell-from, WritesCell-left, WritesCell-right, has_place, length-fit, option_bits_same}

-- a bit that a term may read is one of a thing that it mentions
mutual
  pub read_mentions : (d : Design) (t : Term) (c : Cell) → may_read d t c ≡ true → mentions c.thing t ≡ true
  read_mentions d (number h n) c r = absurd (false≢true r)
  read_mentions d (signal h s) c r = eq-eqb s c.thing (sym (eqb-true c.thing s r))
  read_mentions d (word h m i) c r =
      ⊎_elim (λ e. or_left (m == c.thing) _ (eq-eqb m c.thing (sym (eqb-true c.thing m e)))) (λ e. or_right (m == c.thing) _ (read_mentions d i c e)) (or_cases (c.thing == m) (may_read d i c) r)
  read_mentions d (bit h t i) c r =
      ⊎_elim (λ e. or_right (mentions c.thing t) _ (read_mentions d i c e)) (λ e. or_left (mentions c.thing t) _ (read_mentions d t c (and_parts (may_read d t c) _ e).0)) (or_cases (may_read d i c) _ r)
  read_mentions d (part h t i j) c r = or_left (mentions c.thing t) _ (read_mentions d t c (and_parts (may_read d t c) _ r).0)
  read_mentions d (slide h t b w up) c r =
      ⊎_elim (λ e. or_right (mentions c.thing t) _ (or_left (mentions c.thing b) _ (read_mentions d b c e))) (λ e. or_left (mentions c.thing t) _ (read_mentions d t c (and_parts (may_read d t c) _ e).0)) (or_cases (may_read d b c) _ r)
  read_mentions d (unary h op t) c r = read_mentions d t c r
  read_mentions d (binary h op t y) c r =
      ⊎_elim (λ e. or_left (mentions c.thing t) _ (read_mentions d t c e)) (λ e. or_right (mentions c.thing t) _ (read_mentions d y c e)) (or_cases (may_read d t c) _ r)
  read_mentions d (choice h x t y) c r =
      ⊎_elim (λ e. or_left (mentions c.thing x) _ (read_mentions d x c e)) (λ f. or_right (mentions c.thing x) _ (⊎_elim (λ e. or_left (mentions c.thing t) _ (read_mentions d t c e)) (λ e. or_right (mentions c.thing t) _ (read_mentions d y c e)) (or_cases (may_read d t c) _ f))) (or_cases (may_read d x c) _ r)
  read_mentions d (concat h ts) c r = reads_mention d ts c r
  read_mentions d (repeat h n ts) c r = or_right (mentions c.thing n) _ (reads_mention d ts c r)
  read_mentions d (sign h s t) c r = read_mentions d t c r

  reads_mention : (d : Design) (ts : Terms) (c : Cell) → some_may_read d ts c ≡ true → mentions_any c.thing ts ≡ true
  reads_mention d no_terms c r = absurd (false≢true r)
  reads_mention d (a_term t ts) c r =
      ⊎_elim (λ e. or_left (mentions c.thing t) _ (read_mentions d t c e)) (λ e. or_right (mentions c.thing t) _ (reads_mention d ts c e)) (or_cases (may_read d t c) _ r)

-- a target with constant indexes is written in the same way on all states
mutual
  fixed_same : (d : Design) (u v : Values Bit) (x : Target) (bs : List Bit) → is_fixed_target x ≡ true → target_writes d u x bs ≡ target_writes d v x bs
  fixed_same d u v (all_of s) bs f = refl
  fixed_same d u v (bits_of s low w) bs f = ap (λ y. bit_writes_option s (signal_at d s).width (offset_option (signal_range d s) (index (head low).signed y)) bs) (value_constant d u v low f)
  fixed_same d u v (word_of m i) bs f = absurd (false≢true f)
  fixed_same d u v (several ts) bs f = all_fixed_same d u v ts bs f

  all_fixed_same : (d : Design) (u v : Values Bit) (ts : Targets) (bs : List Bit) → are_fixed_targets ts ≡ true → targets_writes d u ts bs ≡ targets_writes d v ts bs
  all_fixed_same d u v no_targets bs f = refl
  all_fixed_same d u v (a_target t ts) bs f =
      let p = and_parts (is_fixed_target t) (are_fixed_targets ts) f in
      ap₂ (λ x y. x ++ y) (fixed_same d u v t (drop (targets_width d ts) bs) p.0) (all_fixed_same d u v ts (take (targets_width d ts) bs) p.1)

mutual
  fixed_written : (d : Design) (v : Values Bit) (x : Target) (bs : List Bit) (c : Cell) → is_fixed_target x ≡ true → length bs ≡ target_width d x → may_write d x c ≡ true → WritesCell (target_writes d v x bs) c
  fixed_written d v (all_of s) bs c f e m = let p = and_parts (c.thing == s) (nat_lt c.place (signal_at d s).width) m in has_place s 0 (signal_at d s).width bs c e (eqb-true c.thing s p.0) (omega arith) (omega (arith, ltb-true c.place (signal_at d s).width p.1))
  fixed_written d v (bits_of s low w) bs c f e m =
      let p = and_parts (c.thing == s) _ m in
      let q = and_parts (nat_lt c.place (signal_at d s).width) _ p.1 in
      let r : has_cell (static_writes d (bits_of s low w)) c ≡ true = subst (λ b. (not b || has_cell (static_writes d (bits_of s low w)) c) ≡ true) f q.1 in
      subst (λ y. WritesCell (bit_writes_option s (signal_at d s).width (offset_option (signal_range d s) (index (head low).signed y)) bs) c) (value_constant d _ v low f) (option_bits_same s (signal_at d s).width _ (fill w X) bs c (length-replicate w X ∙ sym e) (WritesCell-from (static_writes d (bits_of s low w)) c r))
  fixed_written d v (word_of m i) bs c f e w = absurd (false≢true f)
  fixed_written d v (several ts) bs c f e m = all_fixed_written d v ts bs c f e m

  all_fixed_written : (d : Design) (v : Values Bit) (ts : Targets) (bs : List Bit) (c : Cell) → are_fixed_targets ts ≡ true → length bs ≡ targets_width d ts → some_may_write d ts c ≡ true → WritesCell (targets_writes d v ts bs) c
  all_fixed_written d v no_targets bs c f e m = absurd (false≢true m)
  all_fixed_written d v (a_target t ts) bs c f e m =
      let p = and_parts (is_fixed_target t) (are_fixed_targets ts) f in
      ⊎_elim (λ a. WritesCell-left (target_writes d v t (drop (targets_width d ts) bs)) _ c (fixed_written d v t (drop (targets_width d ts) bs) c p.0 (omega (arith, length-drop (targets_width d ts) bs, e)) a))
      (λ a. WritesCell-right (target_writes d v t (drop (targets_width d ts) bs)) _ c (all_fixed_written d v ts (take (targets_width d ts) bs) c p.1 (omega (arith, length-take (targets_width d ts) bs, e)) a))
      (or_cases (may_write d t c) (some_may_write d ts c) m)

-- what an Assign of a lawful design does
record Follows' (d : Design) (x : Process) (c : Cell) : Type 0 where
  reads : (u v : Values Bit) → ((b : Cell) → (is_level x b.thing ≡ true) × (blocking_target d (body x) b ≡ false) → u b ≡ v b) → (execution d (body x) u).blocking ≡ (execution d (body x) v).blocking
  queues : (u v : Values Bit) → (execution d (body x) u).nonblocking ≡ (execution d (body x) v).nonblocking
  writes : (v : Values Bit) → WritesCell (execution d (body x) v).blocking c

follows : (d : Design) (x : Process) (c : Cell) → is_assign x ≡ true → target_once x d ≡ true → is_body d (body x) ≡ true → ((b : Cell) → any_set (λ k y t. may_write d y b && may_read d t b) (body x) ≡ false) → blocking_target d (body x) c ≡ true → Follows' d x c
follows d (comb i wakes s) c a once shape away w = absurd (false≢true a)
follows d (clocked i events s) c a once shape away w = absurd (false≢true a)
follows d (assign i x t counted) c a once shape away w =
    record {
      reads = λ u v same. fixed_same d u v x (extend (target_width d x) (head t).signed (value d u t)) fixed ∙ ap (λ y. target_writes d v x (extend (target_width d x) (head t).signed y)) (value_reads d u v (max (target_width d x) (own_width d t)) (own_sign d t) t shaped (λ b r. same b (or_right _ (mentions b.thing t) (read_mentions d t b r), unwritten b r)));
      queues = λ u v. refl;
      writes = λ v. fixed_written d v x (extend (target_width d x) (head t).signed (value d v t)) c fixed (length-fit (target_width d x) _ (value d v t)) w;
    }
  where
    fixed : is_fixed_target x ≡ true
    fixed = (and_parts (is_fixed_target x) _ once).0

    shaped : is_shaped d (max (target_width d x) (own_width d t)) (own_sign d t) t ≡ true
    shaped = (and_parts (is_target d x) _ shape).1

    unwritten : (b : Cell) → may_read d t b ≡ true → may_write d x b ≡ false
    unwritten b r = go (may_write d x b) refl
      where
        go : (k : Bool) → may_write d x b ≡ k → k ≡ false
        go false e = refl
        go true e = absurd (both_ways (may_write d x b && may_read d t b) (away b) (and_from (may_write d x b) (may_read d t b) e r))

pub is_assign_from : (x : Process) → is_assign x ≡ true → IsAssign x
is_assign_from (assign i x t counted) e = tt
is_assign_from (comb i wakes s) e = absurd (false≢true e)
is_assign_from (clocked i events s) e = absurd (false≢true e)

-- The machine of a lawful design is lawful.
pub machine_lawful : (d : Design) → IsLawfulDesign d → IsLawful (machine d)
machine_lawful d lawful =
    record {
      same_is = same_bit_is;
      same_self = same_bit_self;
      edge_changes = no_edge;
      event_signals = event_signals d;
      blocking_kept = λ p v c h. blocking_kept d c (body_at d p) v h;
      nonblocking_kept = λ p v c h. queued_kept d c (body_at d p) v h;
      once_kept = λ p v c once. written_once d p v c once;
      inputs_kept = inputs_kept d lawful;
      not_both = not_both d lawful;
      one_writer = one_writer d lawful;
      input_has_one_bit = input_has_one_bit d lawful;
      target_has_one_bit = target_has_one_bit d lawful;
      assigns_combinational = λ p c is_assign writes. combinational p c (follows d (process_at d p) c is_assign (lawful.targets p) (lawful.bodies p) (λ b. lawful.reads_no_own p b (is_assign_from (process_at d p) is_assign)) writes);
    }
  where
    combinational : (p : ℕ) (c : Cell) → Follows' d (process_at d p) c → IsCombinational (machine d) p c
    combinational p c f =
        record {
          reads = λ u v same. λ i. record { blocking = f.reads u v same i; nonblocking = f.queues u v i };
          writes = f.writes;
        }
