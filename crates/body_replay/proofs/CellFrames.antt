-- A run changes only cells that a blocking assignment of the body may write, its queue only those of a nonblocking one.
use Rattle.std.proofs.Common.{◌≡◌, ◌≢◌, ◌⊎◌, inl, inr, ⊎_elim, ℕ, suc, zero, ◌+◌, ◌-◌, ◌*◌, ◌<◌, ◌≤◌, ◌==◌, Bool, true, false, not, ◌&&◌, ◌||◌, List, [], ◌∷◌, ◌++◌, map, take, drop, length, replicate, refl, sym, ap, ap₂, eq-eqb, lt-ltb, ltb-true, subst, ◌∙◌, arith, Option, Some, None, if◌then◌else◌, nat_lt, nat_le}
use Rattle.std.specs.Prelude.{⊤, ℤ, pos, ◌+ℤ◌}
use Rattle.std.proofs.lemmas.Bool.{and_from, and_parts, both_ways, cases_Bool, eqb-true, false_from_ne_true, leb-true, or_left, or_parts, or_right}
use Rattle.std.proofs.lemmas.List.{length-drop, length-take}
use Rattle.std.specs.List.{list_any, range_with_len}
use Rattle.design_model.specs.event_machine.Cell.{Cell, Values, Write, same_cell}
use Rattle.design_model.specs.four_state.declared.bit.Bit.{Bit}
use Rattle.design_model.specs.four_state.declared.bit.Bit.TheVariants.{X}
use Rattle.design_model.specs.four_state.Vector.{fill}
use Rattle.design_model.specs.four_state.Parts.{index, within}
use Rattle.design_model.specs.Tree.{Term, number, signal, word, bit, part, slide, unary, binary, choice, concat, repeat, sign, Terms, no_terms, a_term, Target, all_of, bits_of, word_of, several, Targets, no_targets, a_target, Stmt, block, branch, select, turns, set, empty, Stmts, no_stmts, a_stmt, Arms, no_arms, arm}
use Rattle.design_model.specs.Design.{Design, Thing, cell, cells, signal_at, memory_at, signal_cells, word_cells}
use Rattle.design_model.specs.Value.{head, offset_option, named_word, value}
use Rattle.design_model.specs.Assignment.{bit_writes, bit_writes_option, option_cell, signal_range, target_width, targets_width, writes_to}
use Rattle.design_model.specs.Execution.{Visit, at_line, at_node, reads, writes_word}
use Rattle.design_model.specs.Mentions.{any_set, any_set_in, any_set_of, are_constant, blank, blocking_target, has_cell, is_constant, may_write, mentions, mentions_any, nonblocking_target, some_may_write, static_writes}
use Rattle.design_model.specs.Reads.{AllInside, HasValue, IsInside, PartialMap}
use Rattle.design_model.proofs.Execution.{each_fails, each_gives}
use Rattle.body_replay.specs.KnownBits.{KnownBits, extend_partly, on_whole, sure, whole_bits}
use Rattle.body_replay.specs.Store.{Kept, KnownWrite, keep_all, known_bit_option, known_bit_writes, known_value, known_word_writes, known_writes, known_writes_all, may_name, perhaps_cells, perhaps_words, set_bits, weaken, words, write_bits, writes_of}
use Rattle.body_replay.specs.Replay.{Blames, Mode, State, clean_run, flush, queued, run_set, set_known, started}
use Rattle.body_replay.specs.Contract.{Certainty, Store, clean, outcome, perhaps, quiet, read_of, shown_of, sure_in, unread, weak, weak_queue, weak_queue_in, weak_queue_of, weak_set, weak_writes, weak_writes_in, weak_writes_of}
use Rattle.body_replay.proofs.Operators.{extend_length}
use Rattle.body_replay.proofs.Exact.{on_sure}
use Rattle.body_replay.proofs.Ahead.{value_exact}
use Rattle.body_replay.proofs.Frames.{Misses, QueueMisses, miss_append, miss_weaken, missed, queue_missed, queue_more, join_self}
use Rattle.body_replay.proofs.Induction.{Closed, run_holds}
use Rattle.body_replay.proofs.Locals.{Same, SameThing, value_same}
use Rattle.known_state.specs.Join.{join_bit}
use Rattle.known_state.proofs.UnarySound.{length-moved}

-- a constant term mentions nothing
mutual
  constant_mentions : (x : ℕ) (t : Term) → is_constant t ≡ true → mentions x t ≡ false
  constant_mentions x (number h n) e = refl
  constant_mentions x (signal h s) e = absurd (both_ways false refl e)
  constant_mentions x (word h m i) e = absurd (both_ways false refl e)
  constant_mentions x (bit h t i) e = let p = and_parts (is_constant t) (is_constant i) e in ap₂ (λ u v. u || v) (constant_mentions x t p.0) (constant_mentions x i p.1)
  constant_mentions x (part h t i j) e =
      let p = and_parts (is_constant t) (is_constant i && is_constant j) e in
      let q = and_parts (is_constant i) (is_constant j) p.1 in
      ap₂ (λ u v. u || v) (constant_mentions x t p.0) (ap₂ (λ u v. u || v) (constant_mentions x i q.0) (constant_mentions x j q.1))
  constant_mentions x (slide h t i j up) e =
      let p = and_parts (is_constant t) (is_constant i && is_constant j) e in
      let q = and_parts (is_constant i) (is_constant j) p.1 in
      ap₂ (λ u v. u || v) (constant_mentions x t p.0) (ap₂ (λ u v. u || v) (constant_mentions x i q.0) (constant_mentions x j q.1))
  constant_mentions x (unary h op t) e = constant_mentions x t e
  constant_mentions x (binary h op t u) e = let p = and_parts (is_constant t) (is_constant u) e in ap₂ (λ u v. u || v) (constant_mentions x t p.0) (constant_mentions x u p.1)
  constant_mentions x (choice h t i j) e =
      let p = and_parts (is_constant t) (is_constant i && is_constant j) e in
      let q = and_parts (is_constant i) (is_constant j) p.1 in
      ap₂ (λ u v. u || v) (constant_mentions x t p.0) (ap₂ (λ u v. u || v) (constant_mentions x i q.0) (constant_mentions x j q.1))
  constant_mentions x (concat h ts) e = constants_mention x ts e
  constant_mentions x (repeat h n ts) e = let p = and_parts (is_constant n) (are_constant ts) e in ap₂ (λ u v. u || v) (constant_mentions x n p.0) (constants_mention x ts p.1)
  constant_mentions x (sign h s t) e = constant_mentions x t e

  constants_mention : (x : ℕ) (ts : Terms) → are_constant ts ≡ true → mentions_any x ts ≡ false
  constants_mention x no_terms e = refl
  constants_mention x (a_term t ts) e = let p = and_parts (is_constant t) (are_constant ts) e in ap₂ (λ u v. u || v) (constant_mentions x t p.0) (constants_mention x ts p.1)

-- where all is sure, all is inside
abbrev everything : Kept
everything c = Some X

map_sure : (cs : List Cell) → map everything cs ≡ sure (map blank cs)
map_sure [] = refl
map_sure (c ∷ cs) = ap (λ z. Some X ∷ z) (map_sure cs)

module _ (d : Design) where
  abbrev all_sure_known : PartialMap
  all_sure_known = sure_in d everything

  inside_one : (x : Visit) → IsInside all_sure_known x
  inside_one (at_line n) = tt
  inside_one (at_node n c) = tt
  inside_one (reads x true) = tt
  inside_one (reads x false) = (map blank (cells d x), map_sure (cells d x))
  inside_one (writes_word m i) = tt

  all_inside : (xs : List Visit) → AllInside all_sure_known xs
  all_inside [] = tt
  all_inside (x ∷ xs) = (inside_one x, all_inside xs)

  abbrev no_blames : Blames
  no_blames = record { blame = λ x. 0; wrote = λ x. false }

  -- a constant has its value whatever is known
  pub constant_known : (b : Kept) (t : Term) → is_constant t ≡ true → known_value d b t ≡ sure (value d blank t)
  constant_known b t e =
      value_same d b everything no_blames no_blames t (λ x m. absurd (both_ways _ (constant_mentions x t e) m))
      ∙ value_exact d all_sure_known everything blank (λ x. false) (λ x i. map_sure (cells d x)) t (all_inside _)

module _ (d : Design) (b : Kept) (c : Cell) where
  -- the cell is not one of these
  abbrev Away : List Cell → Type 0
  Away [] = ⊤
  Away (x ∷ xs) = (same_cell x c ≡ false) × Away xs

  away_writes : (cs : List Cell) (ps : KnownBits) → Away cs → Misses c (writes_of cs ps)
  away_writes [] ps o = tt
  away_writes (x ∷ xs) [] o = tt
  away_writes (x ∷ xs) (p ∷ ps) o = (o.0, away_writes xs ps o.1)

  away_cell : (x : Cell) (ps : KnownBits) → same_cell x c ≡ false → Misses c (Rattle.body_replay.specs.Store.perhaps_cell x ps)
  away_cell x [] e = tt
  away_cell x (p ∷ ps) e = (e, away_cell x ps e)

  away_cells : (cs : List Cell) (ps : KnownBits) → Away cs → Misses c (perhaps_cells cs ps)
  away_cells [] ps o = tt
  away_cells (x ∷ xs) ps o = miss_append c (Rattle.body_replay.specs.Store.perhaps_cell x ps) (perhaps_cells xs ps) (away_cell x ps o.0) (away_cells xs ps o.1)

  -- a cell of signal s is at a place below its width
  abbrev Outside : ℕ → Type 0
  Outside s = ((c.thing == s) && nat_lt c.place (signal_at d s).width) ≡ false

  outside_place : (s k : ℕ) → Outside s → k < (signal_at d s).width → same_cell (cell s k) c ≡ false
  outside_place s k out below =
      false_from_ne_true _ (λ e.
      let p = and_parts (s == c.thing) (k == c.place) e in
      both_ways _ out (and_from (c.thing == s) _ (eq-eqb c.thing s (sym (eqb-true s c.thing p.0))) (lt-ltb c.place (signal_at d s).width (subst (λ z. z < (signal_at d s).width) (eqb-true k c.place p.1) below))))

  row_outside : (s n k : ℕ) → Outside s → n + k ≤ (signal_at d s).width → Away (map (cell s) (range_with_len n k))
  row_outside s n zero out le = tt
  row_outside s n (suc k) out le = (outside_place s n out (omega (arith, le)), row_outside s (n + 1) k out (omega (arith, le)))

  signal_outside : (s : ℕ) → Outside s → Away (signal_cells d s)
  signal_outside s out = row_outside s 0 (signal_at d s).width out (omega arith)

  within_below : (n : ℕ) (from : ℤ) (k : ℕ) → within n from ≡ Some k → k < n
  within_below n (pos i) k e = go (cases_Bool (nat_lt i n))
    where
      go : (nat_lt i n ≡ true) ⊎ (nat_lt i n ≡ false) → k < n
      go (inl t) = subst (λ z. z < n) (some_is (sym (ap (λ z. if z then Some i else None) t) ∙ e)) (ltb-true i n t)
        where
          some_of : Option ℕ → ℕ
          some_of None = i
          some_of (Some z) = z

          some_is : Some i ≡ Some k → i ≡ k
          some_is q = ap some_of q
      go (inr f) = absurd (none_some (sym (ap (λ z. if z then Some i else None) f) ∙ e))
        where
          none_some : None ≡ Some k → ⊥
          none_some q = cc
  within_below n (Rattle.std.specs.Prelude.negsuc i) k e = absurd (none_some e)
    where
      none_some : None ≡ Some k → ⊥
      none_some q = cc

  option_outside : (s : ℕ) (o : Option ℕ) → Outside s → ((k : ℕ) → o ≡ Some k → k < (signal_at d s).width) → Away (option_cell s o)
  option_outside s None out f = tt
  option_outside s (Some k) out f = (outside_place s k out (f k refl), tt)

  bits_outside : (s : ℕ) (ps : KnownBits) (from : ℤ) → Outside s → Misses c (known_bit_writes s (signal_at d s).width from ps)
  bits_outside s [] from out = tt
  bits_outside s (p ∷ ps) from out =
      miss_append c (writes_of (option_cell s (within (signal_at d s).width from)) (p ∷ [])) (known_bit_writes s (signal_at d s).width (from +ℤ pos 1) ps)
      (away_writes (option_cell s (within (signal_at d s).width from)) (p ∷ []) (option_outside s (within (signal_at d s).width from) out (λ k e. within_below (signal_at d s).width from k e))) (bits_outside s ps (from +ℤ pos 1) out)

  bit_option_outside : (s : ℕ) (o : Option ℤ) (ps : KnownBits) → Outside s → Misses c (known_bit_option s (signal_at d s).width o ps)
  bit_option_outside s None ps out = tt
  bit_option_outside s (Some from) ps out = bits_outside s ps from out

  either_whole : {A : Type 0} (P : A → Type 0) (o : Option (List Bit)) (f : List Bit → A) (x : A) → ((bs : List Bit) → P (f bs)) → P x → P (on_whole o f x)
  either_whole P None f x h k = k
  either_whole P (Some bs) f x h k = h bs

  write_outside : (s : ℕ) (signed : Bool) (is ps : KnownBits) → Outside s → Misses c (write_bits d s signed is ps)
  write_outside s signed is ps out =
      either_whole (Misses c) (whole_bits is) (λ bs. known_bit_option s (signal_at d s).width (offset_option (signal_range d s) (index signed bs)) ps) (perhaps_cells (signal_cells d s) ps) (λ bs. bit_option_outside s (offset_option (signal_range d s) (index signed bs)) ps out) (away_cells (signal_cells d s) ps (signal_outside s out))

  -- what writes of bits miss, writes of known bits miss
  cell_missed : (s : ℕ) (o : Option ℕ) (x : Bit) (p : Option Bit) (ws : List (Write Bit)) → has_cell (writes_to (option_cell s o) (x ∷ []) ++ ws) c ≡ false → Misses c (writes_of (option_cell s o) (p ∷ [])) × (has_cell ws c ≡ false)
  cell_missed s None x p ws e = (tt, e)
  cell_missed s (Some k) x p ws e = let q = or_parts (same_cell (cell s k) c) (has_cell ws c) e in ((q.0, tt), q.1)

  bits_missed : (s n : ℕ) (ps : KnownBits) (bs : List Bit) (from : ℤ) → length ps ≡ length bs → has_cell (bit_writes s n from bs) c ≡ false → Misses c (known_bit_writes s n from ps)
  bits_missed s n [] bs from l e = tt
  bits_missed s n (p ∷ ps) [] from l e = absurd (omega (arith, l))
  bits_missed s n (p ∷ ps) (x ∷ xs) from l e =
      let q = cell_missed s (within n from) x p (bit_writes s n (from +ℤ pos 1) xs) e in
      miss_append c (writes_of (option_cell s (within n from)) (p ∷ [])) (known_bit_writes s n (from +ℤ pos 1) ps) q.0 (bits_missed s n ps xs (from +ℤ pos 1) (omega (arith, l)) q.1)

  bit_option_missed : (s n : ℕ) (o : Option ℤ) (ps : KnownBits) (bs : List Bit) → length ps ≡ length bs → has_cell (bit_writes_option s n o bs) c ≡ false → Misses c (known_bit_option s n o ps)
  bit_option_missed s n None ps bs l e = tt
  bit_option_missed s n (Some from) ps bs l e = bits_missed s n ps bs from l e

  fill_length : (w : ℕ) → length (fill w X) ≡ w
  fill_length zero = refl
  fill_length (suc w) = ap suc (fill_length w)

  part_missed : (s : ℕ) (low : Term) (w : ℕ) (ps : KnownBits) → length ps ≡ w → may_write d (bits_of s low w) c ≡ false → Misses c (write_bits d s (head low).signed (known_value d b low) ps)
  part_missed s low w ps l e = go (cases_Bool (is_constant low)) (cases_Bool ((c.thing == s) && nat_lt c.place (signal_at d s).width))
    where
      inner : Bool
      inner = not (is_constant low) || has_cell (static_writes d (bits_of s low w)) c

      go : (is_constant low ≡ true) ⊎ (is_constant low ≡ false) → (((c.thing == s) && nat_lt c.place (signal_at d s).width) ≡ true) ⊎ (((c.thing == s) && nat_lt c.place (signal_at d s).width) ≡ false) → Misses c (write_bits d s (head low).signed (known_value d b low) ps)
      go k (inr out) = write_outside s (head low).signed (known_value d b low) ps out
      go (inr f) (inl at) =
          let p = and_parts (c.thing == s) (nat_lt c.place (signal_at d s).width) at in
          absurd (both_ways _ e (and_from (c.thing == s) _ p.0 (and_from (nat_lt c.place (signal_at d s).width) inner p.1 (or_left (not (is_constant low)) _ (ap not f)))))
      go (inl t) (inl at) =
          subst (λ z. Misses c (write_bits d s (head low).signed z ps)) (sym (constant_known d b low t))
          (subst (λ z. Misses c z) (sym (on_sure (value d blank low) (λ bs. known_bit_option s (signal_at d s).width (offset_option (signal_range d s) (index (head low).signed bs)) ps) (perhaps_cells (signal_cells d s) ps)))
          (bit_option_missed s (signal_at d s).width (offset_option (signal_range d s) (index (head low).signed (value d blank low))) ps (fill w X) (l ∙ sym (fill_length w)) never))
        where
          p : (c.thing == s ≡ true) × (nat_lt c.place (signal_at d s).width ≡ true)
          p = and_parts (c.thing == s) (nat_lt c.place (signal_at d s).width) at

          never : has_cell (static_writes d (bits_of s low w)) c ≡ false
          never = false_from_ne_true _ (λ h. both_ways _ e (and_from (c.thing == s) _ p.0 (and_from (nat_lt c.place (signal_at d s).width) inner p.1 (or_right (not (is_constant low)) _ h))))

  word_row : (m : ℕ) (f : ℕ → ℕ) (ns : List ℕ) → (c.thing == m) ≡ false → Away (map (λ k. cell m (f k)) ns)
  word_row m f [] e = tt
  word_row m f (n ∷ ns) e = (false_from_ne_true _ (λ h. both_ways _ e (eq-eqb c.thing m (sym (eqb-true m c.thing (and_parts (m == c.thing) _ h).0)))), word_row m f ns e)

  word_away : (m i : ℕ) → (c.thing == m) && nat_le (length d.signals) m ≡ false → Away (word_cells d m i)
  word_away m i e = go (cases_Bool (nat_le (length d.signals) m))
    where
      go : (nat_le (length d.signals) m ≡ true) ⊎ (nat_le (length d.signals) m ≡ false) → Away (word_cells d m i)
      go (inl t) = word_row m _ (range_with_len 0 (memory_at d m).width) (false_from_ne_true _ (λ h. both_ways _ e (and_from (c.thing == m) _ h t)))
      go (inr f) = subst (λ z. Away (map (λ k. cell m (i * z.width + k)) (range_with_len 0 z.width))) (sym none) tt
        where
          none : memory_at d m ≡ Rattle.design_model.specs.Design.no_memory
          none = ap (λ z. if z then Rattle.std.specs.Prelude.slice_index_or d.memories (m - length d.signals) Rattle.design_model.specs.Design.no_memory else Rattle.design_model.specs.Design.no_memory) f

  option_word_missed : (m : ℕ) (o : Option ℕ) (ps : KnownBits) → (c.thing == m) && nat_le (length d.signals) m ≡ false → Misses c (known_word_writes d m o ps)
  option_word_missed m None ps e = tt
  option_word_missed m (Some i) ps e = away_writes (word_cells d m i) ps (word_away m i e)

  words_missed : (m : ℕ) (may : ℕ → Bool) (is : List ℕ) (ps : KnownBits) → (c.thing == m) && nat_le (length d.signals) m ≡ false → Misses c (perhaps_words d m may is ps)
  words_missed m may [] ps e = tt
  words_missed m may (i ∷ is) ps e = go (words_missed m may is ps e) (may i)
    where
      go : Misses c (perhaps_words d m may is ps) → (t : Bool) → Misses c (if t then weaken (writes_of (word_cells d m i) ps) ++ perhaps_words d m may is ps else perhaps_words d m may is ps)
      go ih true = miss_append c (weaken (writes_of (word_cells d m i) ps)) (perhaps_words d m may is ps) (miss_weaken c (writes_of (word_cells d m i) ps) (away_writes (word_cells d m i) ps (word_away m i e))) ih
      go ih false = ih

  mutual
    pub target_missed : (x : Target) (ps : KnownBits) → length ps ≡ target_width d x → may_write d x c ≡ false → Misses c (known_writes d b x ps)
    target_missed (all_of s) ps l e = away_writes (signal_cells d s) ps (signal_outside s e)
    target_missed (bits_of s low w) ps l e = part_missed s low w ps l e
    target_missed (word_of m i) ps l e =
        either_whole (Misses c) (whole_bits (known_value d b i)) (λ bs. known_word_writes d m (named_word (memory_at d m) (index (head i).signed bs)) ps) (perhaps_words d m (may_name (memory_at d m) (head i).signed (known_value d b i)) (words (memory_at d m)) ps) (λ bs. option_word_missed m (named_word (memory_at d m) (index (head i).signed bs)) ps e) (words_missed m (may_name (memory_at d m) (head i).signed (known_value d b i)) (words (memory_at d m)) ps e)
    target_missed (several ts) ps l e = targets_missed ts ps l e

    pub targets_missed : (ts : Targets) (ps : KnownBits) → length ps ≡ targets_width d ts → some_may_write d ts c ≡ false → Misses c (known_writes_all d b ts ps)
    targets_missed no_targets ps l e = tt
    targets_missed (a_target t ts) ps l e =
        let p = or_parts (may_write d t c) (some_may_write d ts c) e in
        miss_append c (known_writes d b t (drop (targets_width d ts) ps)) (known_writes_all d b ts (take (targets_width d ts) ps))
        (target_missed t (drop (targets_width d ts) ps) (omega (arith, length-drop (targets_width d ts) ps, l)) p.0) (targets_missed ts (take (targets_width d ts) ps) (omega (arith, length-take (targets_width d ts) ps, l)) p.1)

  pub set_missed : (x : Target) (t : Term) → may_write d x c ≡ false → Misses c (known_writes d b x (set_bits d b x t))
  set_missed x t e = target_missed x (set_bits d b x t) (length-moved (Rattle.design_model.specs.four_state.Vector.extend (target_width d x) (head t).signed) (known_value d b t) (target_width d x) (λ cs q. extend_length (target_width d x) (head t).signed cs)) e

module _ (d : Design) (c : Cell) where
  -- blocking writes
  abbrev IsKept : Option Bit → State → Type 0
  IsKept old a = a.kept c ≡ old

  kept_closed : (old : Option Bit) → Closed d (IsKept old)
  kept_closed old = record { mark = λ a first ms h. h; anew = λ a left h k. h; join = λ test left right h k. ap₂ join_bit h k ∙ join_self old }

  set_kept : (old : Option Bit) (n : ℕ) (k : Bool) (x : Target) (t : Term) → (k && may_write d x c) ≡ false → (mode : Mode) (a : State) → IsKept old a → IsKept old (run_set d mode n k x t a)
  set_kept old n true x t e mode a h = missed c (set_known d x t a) a.kept (set_missed d a.kept c x t e) ∙ h
  set_kept old n false x t e mode a h = h

  -- nonblocking ones
  abbrev IsUnqueued : State → Type 0
  IsUnqueued a = QueueMisses c a.queue

  queue_closed : Closed d IsUnqueued
  queue_closed = record { mark = λ a first ms h. h; anew = λ a left h k. k; join = λ test left right h k. k }

  queued_missed : (mode : Mode) (ks : List KnownWrite) → Misses c ks → Misses c (queued mode ks)
  queued_missed None ks m = m
  queued_missed (Some blame) ks m = miss_weaken c ks m

  set_queue : (n : ℕ) (k : Bool) (x : Target) (t : Term) → (not k && may_write d x c) ≡ false → (mode : Mode) (a : State) → IsUnqueued a → IsUnqueued (run_set d mode n k x t a)
  set_queue n true x t e mode a h = h
  set_queue n false x t e mode a h = queue_more c a.queue (queued mode (set_known d x t a)) h (queued_missed mode (set_known d x t a) (set_missed d a.kept c x t e))

  miss_either : (k : Bool) (ks ls : List KnownWrite) → (k ≡ true → Misses c ks) → (k ≡ false → Misses c ls) → Misses c (if k then ks else ls)
  miss_either true ks ls h g = h refl
  miss_either false ks ls h g = g refl

  weak_missed : (x : Target) (t : Term) → may_write d x c ≡ false → Misses c (weak_set d x t)
  weak_missed x t e = miss_weaken c (known_writes d unread x (set_bits d unread x t)) (set_missed d unread c x t e)

  abbrev Blocks : Bool → Target → Term → Bool
  Blocks k x t = k && may_write d x c

  abbrev Queues : Bool → Target → Term → Bool
  Queues k x t = not k && may_write d x c

  mutual
    weak_blocks : (s : Stmt) → any_set Blocks s ≡ false → Misses c (weak_writes d s)
    weak_blocks (block p ss) e = all_weak_blocks ss e
    weak_blocks (branch p n t s other) e = let h = or_parts (any_set Blocks s) (any_set_of Blocks other) e in miss_append c (weak_writes d s) (weak_writes_of d other) (weak_blocks s h.0) (all_weak_blocks other h.1)
    weak_blocks (select p n kind t arms) e = arm_weak_blocks arms e
    weak_blocks (turns p n ss) e = all_weak_blocks ss e
    weak_blocks (set p n k x t) e = miss_either k (weak_set d x t) [] (λ q. weak_missed x t (subst (λ z. (z && may_write d x c) ≡ false) q e)) (λ q. tt)
    weak_blocks (empty p) e = tt

    all_weak_blocks : (ss : Stmts) → any_set_of Blocks ss ≡ false → Misses c (weak_writes_of d ss)
    all_weak_blocks no_stmts e = tt
    all_weak_blocks (a_stmt s ss) e = let h = or_parts (any_set Blocks s) (any_set_of Blocks ss) e in miss_append c (weak_writes d s) (weak_writes_of d ss) (weak_blocks s h.0) (all_weak_blocks ss h.1)

    arm_weak_blocks : (arms : Arms) → any_set_in Blocks arms ≡ false → Misses c (weak_writes_in d arms)
    arm_weak_blocks no_arms e = tt
    arm_weak_blocks (arm labels s arms) e = let h = or_parts (any_set Blocks s) (any_set_in Blocks arms) e in miss_append c (weak_writes d s) (weak_writes_in d arms) (weak_blocks s h.0) (arm_weak_blocks arms h.1)

  mutual
    weak_queues : (s : Stmt) → any_set Queues s ≡ false → Misses c (weak_queue d s)
    weak_queues (block p ss) e = all_weak_queues ss e
    weak_queues (branch p n t s other) e = let h = or_parts (any_set Queues s) (any_set_of Queues other) e in miss_append c (weak_queue d s) (weak_queue_of d other) (weak_queues s h.0) (all_weak_queues other h.1)
    weak_queues (select p n kind t arms) e = arm_weak_queues arms e
    weak_queues (turns p n ss) e = all_weak_queues ss e
    weak_queues (set p n k x t) e = miss_either k [] (weak_set d x t) (λ q. tt) (λ q. weak_missed x t (subst (λ z. (not z && may_write d x c) ≡ false) q e))
    weak_queues (empty p) e = tt

    all_weak_queues : (ss : Stmts) → any_set_of Queues ss ≡ false → Misses c (weak_queue_of d ss)
    all_weak_queues no_stmts e = tt
    all_weak_queues (a_stmt s ss) e = let h = or_parts (any_set Queues s) (any_set_of Queues ss) e in miss_append c (weak_queue d s) (weak_queue_of d ss) (weak_queues s h.0) (all_weak_queues ss h.1)

    arm_weak_queues : (arms : Arms) → any_set_in Queues arms ≡ false → Misses c (weak_queue_in d arms)
    arm_weak_queues no_arms e = tt
    arm_weak_queues (arm labels s arms) e = let h = or_parts (any_set Queues s) (any_set_in Queues arms) e in miss_append c (weak_queue d s) (weak_queue_in d arms) (weak_queues s h.0) (arm_weak_queues arms h.1)

strong_kept : (d : Design) (s : Stmt) (st : Store) (c : Cell) → blocking_target d s c ≡ false → (if st.hidden c.thing then st.kept c else (clean_run d s (shown_of st)).kept c) ≡ st.kept c
strong_kept d s st c e =
    go (st.hidden c.thing) refl (run_holds d (IsKept d c (read_of st c)) (kept_closed d c (read_of st c)) s (each_gives (λ n k x t f. set_kept d c (read_of st c) n k x t f) s (each_fails (Blocks d c) s e)) None (started (shown_of st)) refl)
  where
    go : (t : Bool) → st.hidden c.thing ≡ t → (clean_run d s (shown_of st)).kept c ≡ (if st.hidden c.thing then st.shown c else st.kept c) → (if t then st.kept c else (clean_run d s (shown_of st)).kept c) ≡ st.kept c
    go true q h = refl
    go false q h = h ∙ ap (λ z. if z then st.shown c else st.kept c) q

pub cell_frame : (d : Design) (s : Stmt) (st : Store) (how : Certainty) (c : Cell) → blocking_target d s c ≡ false → (outcome d s st how).kept c ≡ st.kept c
cell_frame d s st (clean time) c e = strong_kept d s st c e
cell_frame d s st quiet c e = strong_kept d s st c e
cell_frame d s st (perhaps time thing) c e = strong_kept d s st c e
cell_frame d s st (weak time thing) c e = missed c (weak_writes d s) st.kept (weak_blocks d c s e)

strong_queue : (d : Design) (s : Stmt) (st : Store) (c : Cell) → nonblocking_target d s c ≡ false → (k : Kept) → flush k (clean_run d s (shown_of st)).queue c ≡ k c
strong_queue d s st c e k =
    queue_missed c (clean_run d s (shown_of st)).queue k
    (run_holds d (IsUnqueued d c) (queue_closed d c) s (each_gives (λ n m x t f. set_queue d c n m x t f) s (each_fails (Queues d c) s e)) None (started (shown_of st)) tt)

pub queue_frame : (d : Design) (s : Stmt) (st : Store) (how : Certainty) (c : Cell) → nonblocking_target d s c ≡ false → (k : Kept) → flush k (outcome d s st how).queue c ≡ k c
queue_frame d s st (clean time) c e k = strong_queue d s st c e k
queue_frame d s st quiet c e k = strong_queue d s st c e k
queue_frame d s st (perhaps time thing) c e k = strong_queue d s st c e k
queue_frame d s st (weak time thing) c e k = queue_missed c (weak_queue d s ∷ []) k (weak_queues d c s e, tt)
