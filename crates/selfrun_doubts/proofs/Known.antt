-- What the block knows where the clock rises, what it reads from that, and what it leaves.
use Rattle.std.proofs.Common.{◌≡◌, ◌≢◌, inl, inr, ⊎_elim, ℕ, zero, suc, ◌+◌, ◌-◌, ◌<◌, ◌||◌, Bool, true, false, List, [], ◌∷◌, ◌++◌, length, map, refl, sym, ap, subst, ◌∙◌, arith, suc-ne-zero}
use Rattle.std.specs.List.{list_all, list_any, range_with_len}
use Rattle.std.specs.Prelude.{slice_index}
use Rattle.std.proofs.lemmas.Bool.{and_from, cases_eq, cases_lt, or_left, or_right}
use Rattle.event_machine.specs.Cell.{Cell, Values, Write, join, put_all, same_cell}
use Rattle.event_machine.specs.Habit.{Free}
use Rattle.event_machine.proofs.Writes.{same_cell_is}
use Rattle.four_state.specs.Arithmetic.{low_bits}
use Rattle.four_state.specs.Vector.{bit_of}
use Rattle.four_state.specs.declared.bit.Bit.{Bit}
use Rattle.design_model.specs.Design.{In, Thing, a_signal, a_word, body_at, cell, signal_bits, word_bits, word_cells}
use Rattle.design_model.specs.Assignment.{writes_to}
use Rattle.design_model.specs.Clear.{EntryFrom, IsClockedTarget, IsWrittenValue, LeavesValue, all_writes}
use Rattle.design_model.specs.Execution.{Visit, covers, execution}
use Rattle.design_model.specs.Reads.{Agrees, AllInside, HasValue, PartialMap, ReadsWithin}
use Rattle.design_model.specs.Shows.{BoundDump}
use Rattle.design_model.proofs.WithinMap.{put_append}
use Rattle.selfrun_design.specs.Selfrun.{selfrun}
use Rattle.selfrun_files.specs.Moments.{inputs_in, registers_after}
use Rattle.selfrun_runs.specs.Says.{SaysSelfrun}
use Rattle.selfrun_runs.proofs.Body.{Evaluation, p_update, q_update, read_visits, when_reading, when_writing, word_update, write_visits}
use Rattle.selfrun_runs.proofs.Cells.{of_signal, word_cell, word_kept, word_other, word_written}
use Rattle.selfrun_runs.proofs.Registers.{a_below, first_written, other_word, read_late, words_kept, written_word}
use Rattle.selfrun_doubts.proofs.Wakes.{IsEdge, clean, none_early}

abbrev number_of : Thing → ℕ
number_of (a_signal s) = s
number_of (a_word m i) = m

abbrev IsWordThing : Thing → Type 0
IsWordThing (a_signal s) = ⊥
IsWordThing (a_word m i) = Unit {0}

pub no_word : (s m i : ℕ) → a_word m i ≡ a_signal s → ⊥
no_word s m i e = subst IsWordThing e tt

pub signal_ne : (s : ℕ) → a_signal (suc s) ≢ a_signal 0
signal_ne s e = suc-ne-zero s (ap number_of e)

-- ---- the cells that writes cover

all_from : (p : Cell → Bool) (cs : List Cell) → ((c : Cell) → In c cs → p c ≡ true) → list_all p cs ≡ true
all_from p [] each = refl
all_from p (c ∷ cs) each = and_from (p c) (list_all p cs) (each c (inl refl)) (all_from p cs (λ d h. each d (inr h)))

any_after : (p : Write Bit → Bool) (xs ys : List (Write Bit)) → list_any p ys ≡ true → list_any p (xs ++ ys) ≡ true
any_after p [] ys h = h
any_after p (x ∷ xs) ys h = or_right (p x) (list_any p (xs ++ ys)) (any_after p xs ys h)

any_before : (p : Write Bit → Bool) (xs ys : List (Write Bit)) → list_any p xs ≡ true → list_any p (xs ++ ys) ≡ true
any_before p [] ys h = absurd (let no : false ≡ true = h in cc)
any_before p (x ∷ xs) ys h = go (p x) h (any_before p xs ys)
  where
    go : (b : Bool) → (b || list_any p xs) ≡ true → (list_any p xs ≡ true → list_any p (xs ++ ys) ≡ true) → (b || list_any p (xs ++ ys)) ≡ true
    go true e rest = refl
    go false e rest = rest e

row_has : (f : ℕ → Cell) (n k : ℕ) (bs : List Bit) (c : Cell) → length bs ≡ k → In c (map f (range_with_len n k)) → list_any (λ w. same_cell w.cell c) (writes_to (map f (range_with_len n k)) bs) ≡ true
row_has f n zero bs c e h = absurd h
row_has f n (suc k) [] c e h = absurd (omega (arith, e))
row_has f n (suc k) (b ∷ bs) c e (inl is) = or_left (same_cell (f n) c) (list_any (λ w. same_cell w.cell c) (writes_to (map f (range_with_len (n + 1) k)) bs)) (same_cell_is (f n) c is)
row_has f n (suc k) (b ∷ bs) c e (inr h) = or_right (same_cell (f n) c) (list_any (λ w. same_cell w.cell c) (writes_to (map f (range_with_len (n + 1) k)) bs)) (row_has f (n + 1) k bs c (omega (arith, e)) h)

-- the update of a word covers it, whatever else is written
word_covered : (before : List (Write Bit)) (a : ℕ) (bs : List Bit) → length bs ≡ 8 → covers (before ++ (writes_to (word_cells selfrun 6 a) bs ++ [])) (word_cells selfrun 6 a) ≡ true
word_covered before a bs e =
    all_from (λ c. list_any (λ w. same_cell w.cell c) (before ++ (writes_to (word_cells selfrun 6 a) bs ++ []))) (word_cells selfrun 6 a)
    (λ c h. any_after (λ w. same_cell w.cell c) before _ (any_before (λ w. same_cell w.cell c) (writes_to (word_cells selfrun 6 a) bs) [] (row_has (word_cell selfrun 6 a) 0 8 bs c e h)))

pub word_target : (i : ℕ) → i < 16 → IsClockedTarget selfrun 0 (a_word 6 i)
word_target i below = record { is_thing = (refl, omega arith, omega (arith, below)); is_clocked = tt; target = refl }

-- ---- at a rise of the clock

-- a map has the values of the signals, and of these words
pub record KnowsStart (number : ℕ) (dump : BoundDump) (t k : ℕ) (start : PartialMap) : Type 0 where
  pub signals : (s : ℕ) → s < 6 → start (a_signal s) (signal_bits selfrun (dump.values (t - 1)) s)
  pub words : (i : ℕ) → i < 16 → i < k → start (a_word 6 i) (low_bits 8 (slice_index (registers_after number k).words i))

module _ (number steps : ℕ) (dump : BoundDump) (says : SaysSelfrun number steps dump) (t k : ℕ) (edge : IsEdge number steps dump says t k) (start : PartialMap) (knows : KnowsStart number dump t k start) where
  -- what the block knows
  abbrev entry : PartialMap
  entry = EntryFrom selfrun Free dump t start 0 (cell 0 0)

  known_signal : (s : ℕ) → s < 5 → entry (a_signal (suc s)) (signal_bits selfrun (dump.values (t - 1)) (suc s))
  known_signal s below = inr (signal_ne s, none_early number steps dump says t k edge (suc s), knows.signals (suc s) (omega (arith, below)))

  known_word : (i : ℕ) → i < 16 → i < k → entry (a_word 6 i) (low_bits 8 (slice_index (registers_after number k).words i))
  known_word i below early = inr (no_word 0 6 i, none_early number steps dump says t k edge 6, knows.words i below early)

  -- the index of the word
  abbrev index : ℕ
  index = (inputs_in number k).a

  -- what a map that has all this makes of the evaluation
  module _ (K : PartialMap) (has : (x : Thing) (bits : List Bit) → entry x bits → K x bits) where
    has_signal : (s : ℕ) → s < 5 → HasValue K (a_signal (suc s))
    has_signal s below = (_, has _ _ (known_signal s below))

    module _ (v : Values Bit) (agrees : Agrees selfrun K v) where
      signal_is : (s : ℕ) → s < 5 → signal_bits selfrun v (suc s) ≡ signal_bits selfrun (dump.values (t - 1)) (suc s)
      signal_is s below = agrees (a_signal (suc s)) _ (has _ _ (known_signal s below))

      is_index : signal_bits selfrun v 2 ≡ low_bits 4 index
      is_index = signal_is 1 (omega arith) ∙ edge.old.is_a

      pub is_writing : (inputs_in number k).we ≡ true → Evaluation v (p_update v ∷ word_update v index ∷ []) (write_visits index)
      is_writing we = when_writing v index is_index (a_below number k) (signal_is 0 (omega arith) ∙ edge.old.is_we ∙ ap (λ b. bit_of b ∷ []) we)

      pub is_reading : (inputs_in number k).we ≡ false → Evaluation v (p_update v ∷ q_update v index ∷ []) (read_visits index)
      is_reading we = when_reading v index is_index (a_below number k) (signal_is 0 (omega arith) ∙ edge.old.is_we ∙ ap (λ b. bit_of b ∷ []) we)

      is_p : signal_bits selfrun v 5 ≡ low_bits 8 (registers_after number k).p
      is_p = signal_is 4 (omega arith) ∙ edge.old.is_p

      all_inside : AllInside K (execution selfrun (body_at selfrun 0) v).visits
      all_inside = go (inputs_in number k).we refl
        where
          go : (b : Bool) → (inputs_in number k).we ≡ b → AllInside K (execution selfrun (body_at selfrun 0) v).visits
          go true we = subst (AllInside K) (sym (is_writing we).visited) (tt, (has_signal 2 (omega arith), (tt, (has_signal 0 (omega arith), (tt, (tt, (has_signal 1 (omega arith), (has_signal 4 (omega arith), (tt, tt)))))))))
          go false we =
              subst (AllInside K) (sym (is_reading we).visited) (
                tt,
                (
                  has_signal 2 (omega arith),
                  (
                    tt,
                    (
                      has_signal 0 (omega arith),
                      (
                        tt,
                        (
                          tt,
                          (
                            has_signal 1 (omega arith),
                            ((_, has _ _ (known_word index (a_below number k) (omega (arith, a_below number k, read_late number k we)))), tt),
                          ),
                        ),
                      ),
                    ),
                  ),
                ),
              )

    -- it reads within the map
    pub within : ReadsWithin selfrun K (body_at selfrun 0)
    within v agrees = all_inside v agrees

  -- the updates leave each word that this step or one before has written
  written_words : (v : Values Bit) (second : List (Write Bit)) (visits : List Visit) → Evaluation v (p_update v ∷ second ∷ []) visits → all_writes (execution selfrun (body_at selfrun 0) v) ≡ p_update v ++ (second ++ [])
  written_words v second visits evaluates =
      ap (λ ws. ws ++ join (execution selfrun (body_at selfrun 0) v).nonblocking) evaluates.blocking ∙ ap join evaluates.nonblocking

  p_kept : (v old : Values Bit) (i : ℕ) → word_bits selfrun (put_all old (p_update v)) 6 i ≡ word_bits selfrun old 6 i
  p_kept v old i = word_kept selfrun old (p_update v) 6 i (λ c w e. omega (arith, of_signal selfrun 5 (signal_bits selfrun v 3) c w, e))

  put_both : (v old : Values Bit) (second : List (Write Bit)) → put_all old (p_update v ++ (second ++ [])) ≡ put_all (put_all old (p_update v)) second
  put_both v old second = put_append old (p_update v) (second ++ []) ∙ put_append (put_all old (p_update v)) second []

  -- the value of a word after the step
  abbrev next_bits : ℕ → List Bit
  next_bits i = low_bits 8 (slice_index (registers_after number (suc k)).words i)

  abbrev Leaves : Values Bit → List (Write Bit) → ℕ → Type 0
  Leaves v second i = LeavesValue selfrun start v (p_update v ++ (second ++ [])) (a_word 6 i) (next_bits i)

  module _ (v : Values Bit) (agrees : Agrees selfrun entry v) where
    -- the word that is written
    leaves_written : (inputs_in number k).we ≡ true → Leaves v (word_update v index) index
    leaves_written we = record {
      decided = inl (word_covered (p_update v) index (signal_bits selfrun v 5) refl);
      is = λ old given.
          ap (λ (u : Values Bit). word_bits selfrun u 6 index) (put_both v old (word_update v index)) ∙ word_written selfrun (put_all old (p_update v)) 6 index (signal_bits selfrun v 5) refl
          ∙ is_p entry (λ x bits e. e) v agrees ∙ ap (low_bits 8) (sym (written_word number k we));
    }

    -- another word
    leaves_other : (inputs_in number k).we ≡ true → (i : ℕ) → i < 16 → i < k → i ≢ index → Leaves v (word_update v index) i
    leaves_other we i below before apart = record {
      decided = inr (_, knows.words i below before);
      is = λ old given.
          ap (λ (u : Values Bit). word_bits selfrun u 6 i) (put_both v old (word_update v index)) ∙ word_other selfrun (put_all old (p_update v)) 6 index i (signal_bits selfrun v 5) apart
          ∙ p_kept v old i ∙ given _ (knows.words i below before) ∙ ap (low_bits 8) (sym (other_word number k we i apart));
    }

    -- each word, where one is read
    leaves_read : (inputs_in number k).we ≡ false → (i : ℕ) → i < 16 → i < k → Leaves v (q_update v index) i
    leaves_read we i below before = record {
      decided = inr (_, knows.words i below before);
      is = λ old given.
          ap (λ (u : Values Bit). word_bits selfrun u 6 i) (put_both v old (q_update v index))
          ∙ word_kept selfrun (put_all old (p_update v)) (q_update v index) 6 i (λ c w e. omega (arith, of_signal selfrun 4 (word_bits selfrun v 6 index) c w, e))
          ∙ p_kept v old i ∙ given _ (knows.words i below before) ∙ ap (λ (ws : List ℕ). low_bits 8 (slice_index ws i)) (sym (words_kept number k we));
    }

    -- a word that this step does not write was written before
    before_now : (inputs_in number k).we ≡ true → (i : ℕ) → i < 16 → i < suc k → i ≢ index → i < k
    before_now we i below early apart = ⊎_elim (λ first. omega (arith, early, apart, (first_written number k first).1)) (λ late. omega (arith, below, late)) (cases_lt k 16)

    leaves : (i : ℕ) → i < 16 → i < suc k → LeavesValue selfrun start v (all_writes (execution selfrun (body_at selfrun 0) v)) (a_word 6 i) (next_bits i)
    leaves i below early = go (inputs_in number k).we refl
      where
        go : (b : Bool) → (inputs_in number k).we ≡ b → LeavesValue selfrun start v (all_writes (execution selfrun (body_at selfrun 0) v)) (a_word 6 i) (next_bits i)
        go true we =
            subst (λ ws. LeavesValue selfrun start v ws (a_word 6 i) (next_bits i)) (sym (written_words v (word_update v index) (write_visits index) (is_writing entry (λ x bits e. e) v agrees we)))
            (⊎_elim (λ same. subst (Leaves v (word_update v index)) (sym same) (leaves_written we)) (λ apart. leaves_other we i below (before_now we i below early apart) apart) (cases_eq i index))
        go false we =
            subst (λ ws. LeavesValue selfrun start v ws (a_word 6 i) (next_bits i)) (sym (written_words v (q_update v index) (read_visits index) (is_reading entry (λ x bits e. e) v agrees we)))
            (leaves_read we i below (omega (arith, below, read_late number k we)))

  -- each word that this step or one before has written is written
  pub written : (i : ℕ) → i < 16 → i < suc k → IsWrittenValue selfrun Free dump t start 0 (cell 0 0) (a_word 6 i) (next_bits i)
  written i below early = record {
    writer = word_target i below;
    is_clean = clean number steps dump says t k edge;
    within = within entry (λ x bits e. e);
    gives = λ v agrees. leaves v agrees i below early;
  }
