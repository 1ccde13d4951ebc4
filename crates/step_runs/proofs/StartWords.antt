-- The Assigns and Combs start with the words that the Clocked have left.
use Rattle.std.proofs.Common.{◌≡◌, ◌⊎◌, ⊎_elim, inl, inr, ltb-true, zero, suc, get_or, ℕ, ◌<◌, ◌≤◌, ◌&&◌, Bool, true, false, not, if◌then◌else◌, List, [], ◌∷◌, ◌++◌, length, None, Some, refl, sym, ap, ◌∙◌, arith, nat_le, nat_lt}
use Rattle.std.specs.List.{list_any}
use Rattle.std.proofs.lemmas.Bool.{and_parts, false_from_ne_true, false≢true, leb-true, or_cases}
use Rattle.event_machine.specs.Cell.{Cell, Values as CellValues}
use Rattle.four_state.specs.declared.bit.Bit.{Bit}
use Rattle.design_model.specs.BodyLaws.{all_cells}
use Rattle.body_replay.specs.Contract.{quiet}
use Rattle.body_replay.specs.Replay.{flush}
use Rattle.body_replay.specs.Runs.{Runs}
use Rattle.design_model.specs.Design.{Design, In, body_at, is_memory, no_signal, signal_at}
use Rattle.design_model.specs.declared.design.Signal.{Signal}
use Rattle.design_model.specs.Mentions.{blocking_target}
use Rattle.settling.proofs.Words.{all_same, all_thing, any_same, run_leaves, unwritten}
use Rattle.settling.specs.process_targets.Laws.{SettledLaw, WritesSignals}
use Rattle.settling.specs.replay_model.Start.{Starting, after_first, first_kept, first_store, run_all_first, run_first, runs_first, started}
use Rattle.settling.specs.replay_model.Step.{Closing, Replay, Working, all_run, clocked_run, is_dumped, is_loose, is_touched, run_all_settling, run_settling, settle_start, settled_kept, surely_differ, surely_same, updated}
use Rattle.settling.specs.replay_model.Tables.{AreTables, Tables}
use Rattle.settling.specs.step_values.Starts.{left_by_clocked}
use Rattle.settling.specs.Wakes.{HasWordChanges}
use Rattle.step_words.specs.Words.{StepState}

in_either : (x : ℕ) (xs ys : List ℕ) → In x (xs ++ ys) → In x xs ⊎ In x ys
in_either x [] ys h = inr h
in_either x (z ∷ xs) ys (inl e) = inl (inl e)
in_either x (z ∷ xs) ys (inr h) = ⊎_elim (λ g. inl (inr g)) (λ g. inr g) (in_either x xs ys h)

past_end : {A : Type 0} (xs : List A) (i : ℕ) (d : A) → length xs ≤ i → get_or xs i d ≡ d
past_end [] i d l = refl
past_end (x ∷ xs) zero d l = absurd (omega (arith, l))
past_end (x ∷ xs) (suc i) d l = past_end xs i d (omega (arith, l))

both_false : (b : Bool) (k w : ℕ) → w ≡ 0 → (b && nat_lt k w) ≡ false
both_false b k w none = false_from_ne_true _ (λ e. let below : k < w = ltb-true k w (and_parts b (nat_lt k w) e).1 in omega (arith, below, none))

module _ (st : Closing) (settled : SettledLaw st.design) (tabled : AreTables st.design st.bound st.tables) (m : ℕ) (is : is_memory st.design m ≡ true) (c : Cell) (thing : c.thing ≡ m) where
  low : length st.design.signals ≤ m
  low = leb-true (length st.design.signals) m (and_parts (nat_le (length st.design.signals) m) _ is).0

  none_loose : (ps : List ℕ) → ((p : ℕ) → In p ps → In p (st.tables.order ++ st.tables.last)) → list_any (λ p. is_touched st p && blocking_target st.design (body_at st.design p) c) ps ≡ false
  none_loose [] among = refl
  none_loose (p ∷ ps) among = false_from_ne_true _ (λ e. go (none_loose ps (λ r i. among r (inr i))) (or_cases (is_touched st p && blocking_target st.design (body_at st.design p) c) _ e))
    where
      go : list_any (λ q. is_touched st q && blocking_target st.design (body_at st.design q) c) ps ≡ false → ((is_touched st p && blocking_target st.design (body_at st.design p) c) ≡ true) ⊎ (list_any (λ q. is_touched st q && blocking_target st.design (body_at st.design q) c) ps ≡ true) → ⊥
      go rest (inl h) =
          let q = and_parts (is_touched st p) _ h in
          let below = (settled p ((tabled.others p).0 (in_either p st.tables.order st.tables.last (among p (inl refl)))).1).signals c q.1 in
          let l = low in
          absurd (omega (arith, below, l, thing))
      go rest (inr h) = false≢true (sym rest ∙ h)

  not_loose : is_loose st c ≡ false
  not_loose = none_loose (st.tables.order ++ st.tables.last) (λ p i. i)

  not_dumped : is_dumped st.design st.bound c ≡ false
  not_dumped = both_false (st.bound c.thing) c.place (signal_at st.design c.thing).width (ap (λ t. (signal_at st.design t).width) thing ∙ ap (λ (s : Signal). s.width) (past_end st.design.signals m no_signal low))

  pub word_kept : (settle_start st (clocked_run st)).kept c ≡ left_by_clocked st c
  word_kept =
      ap (λ t. if t then Some (st.new c) else updated st (clocked_run st) c) not_dumped
      ∙ ap (λ t. if t then None else flush (clocked_run st).kept (clocked_run st).queue c) not_loose

pub words_start : (st : Closing) (words : StepState) → SettledLaw st.design → AreTables st.design st.bound st.tables → HasWordChanges st (left_by_clocked st) words → HasWordChanges st (settle_start st (clocked_run st)).kept words
words_start st words settled tabled changes m is watched =
    let old = changes m is watched in
    let same : (c : Cell) → In c (all_cells st.design m) → (settle_start st (clocked_run st)).kept c ≡ left_by_clocked st c = λ c i. word_kept st settled tabled m is c (all_thing st.design m c i) in (
      old.0 ∙ any_same _ _ (all_cells st.design m) (λ c i. ap (surely_differ (st.start.kept c)) (sym (same c i))),
      old.1 ∙ all_same _ _ (all_cells st.design m) (λ c i. ap (surely_same (st.start.kept c)) (sym (same c i))),
    )

runs_leave : (st : Closing) (ordered : Bool) (ps : List ℕ) (w : Working) (c : Cell) → ((p : ℕ) → In p ps → WritesSignals st.design p) → is_memory st.design c.thing ≡ true → (run_all_settling st ordered ps w).kept c ≡ w.kept c
runs_leave st ordered [] w c writes is = refl
runs_leave st ordered (p ∷ ps) w c writes is = runs_leave st ordered ps (run_settling st ordered p w) c (λ q i. writes q (inr i)) is ∙ run_leaves st w p c.thing ordered c (writes p (inl refl)) is refl

pub words_left : (st : Closing) (c : Cell) → SettledLaw st.design → AreTables st.design st.bound st.tables → is_memory st.design c.thing ≡ true → (all_run st).kept c ≡ left_by_clocked st c
words_left st c settled tabled is =
    runs_leave st false st.tables.last (run_all_settling st true st.tables.order (settle_start st (clocked_run st))) c (λ p i. settled p ((tabled.others p).0 (inr i)).1) is
    ∙ runs_leave st true st.tables.order (settle_start st (clocked_run st)) c (λ p i. settled p ((tabled.others p).0 (inl i)).1) is
    ∙ word_kept st settled tabled c.thing is c refl

-- ---- the first step

module _ (d : Design) (bound : ℕ → Bool) (run : Runs) (tables : Tables) (new : CellValues Bit) (before : Replay) (c : Cell) (settled : SettledLaw d) (tabled : AreTables d bound tables) (is : is_memory d c.thing ≡ true) where
  first_leaves : (ordered : Bool) (ps : List ℕ) (w : Starting) → ((p : ℕ) → In p ps → WritesSignals d p) → (run_all_first d bound run tables new before ordered ps w).kept c ≡ w.kept c
  first_leaves ordered [] w writes = refl
  first_leaves ordered (p ∷ ps) w writes = first_leaves ordered ps (run_first d bound run tables new before ordered p w) (λ q i. writes q (inr i)) ∙ one (runs_first d bound run tables new before p)
    where
      one : (t : Bool) → (if t then after_first d bound run tables new before ordered p (run p (first_store d bound run tables new before (settled_kept d p w.kept)) quiet) w else w).kept c ≡ w.kept c
      one true = ap (λ b. if b && not (is_dumped d bound c) then (if ordered then (run p (first_store d bound run tables new before (settled_kept d p w.kept)) quiet).kept c else None) else w.kept c) (unwritten d p c.thing c (writes p (inl refl)) is refl)
      one false = refl

  undumped : is_dumped d bound c ≡ false
  undumped =
      let low : length d.signals ≤ c.thing = leb-true (length d.signals) c.thing (and_parts (nat_le (length d.signals) c.thing) _ is).0 in
      both_false (bound c.thing) c.place (signal_at d c.thing).width (ap (λ (s : Signal). s.width) (past_end d.signals c.thing no_signal low))

  abbrev starting : Starting
  starting = record { kept = first_kept d bound run tables new before; made = λ x. None }

  pub first_words : (started d bound run tables new before).kept c ≡ None
  first_words =
      first_leaves false tables.last (run_all_first d bound run tables new before true tables.order starting) (λ p i. settled p ((tabled.others p).0 (inr i)).1)
      ∙ first_leaves true tables.order starting (λ p i. settled p ((tabled.others p).0 (inl i)).1)
      ∙ ap (λ t. if t then Some (new c) else None) undumped
