-- The store and the vectors as the Assigns and Combs begin, beside the definition of the step.
use Rattle.std.proofs.Common.{◌≡◌, ℕ, ◌<◌, ◌==◌, ◌&&◌, ◌||◌, Bool, true, false, not, if◌then◌else◌, List, [], ◌∷◌, ◌≤◌, length, map, Option, Some, None, refl, sym, ap, ap₂, subst, ◌∙◌, arith, inl, inr}
use Rattle.std.specs.Prelude.{nat_lt}
use Rattle.std.specs.List.{All, list_any, range_with_len}
use Rattle.std.proofs.Math.Path.{fun_ext}
use Rattle.std.proofs.lemmas.Bool.{and_parts, cases_lt, eqb-true, false_from_ne_true, false≢true}
use Rattle.std.proofs.lemmas.Bool.Decides.{nat_tests}
use Rattle.std.proofs.lemmas.List.Elements.{All-head, All-tail}
use Rattle.event_machine.specs.Cell.{Cell}
use Rattle.four_state.specs.Masks.{is_set}
use Rattle.four_state.specs.Vector.{Vector}
use Rattle.design_model.specs.Design.{Design, In, body_at, cell, signal_at, signal_cells}
use Rattle.design_model.specs.Mentions.{blocking_target}
use Rattle.store_knowledge.specs.body_calls.Own.{is_in}
use Rattle.store_knowledge.specs.body_replay.Replay.{flush}
use Rattle.store_knowledge.specs.body_replay.Store.{Kept}
use Rattle.store_knowledge.specs.body_store.Owned.{IsBlank}
use Rattle.store_knowledge.specs.body_store.declared.store.Store.{Store}
use Rattle.index_sets.specs.Rows.{row_at}
use Rattle.process_targets.specs.Rows.{IsInside}
use Rattle.process_targets.specs.Targets.{row_has}
use Rattle.process_targets.specs.declared.bits.Bits.{Bits}
use Rattle.replay_steps.specs.replay_model.Step.{Closing, Working, is_loose, known_bits, settle_start, updated}
use Rattle.replay_steps.proofs.Settling.{loose_is}
use Rattle.store_knowledge.specs.Knows.{Knows}
use Rattle.store_knowledge.proofs.Cells.{out_of_cells}
use Rattle.step_values.specs.Dumped.{HaveCodes, putting}
use Rattle.step_values.specs.Loose.{HaveRows, forgetting, has_code, some_row_has, uncoded}
use Rattle.step_values.specs.Starts.{AreTaken, HasValues, IsStartOf}
use Rattle.step_values.specs.Vectors.{FitsSignals, StepVectors, vector_at}

-- two tests that agree on the members of a list
any_same : {A : Type 0} (f g : A → Bool) (xs : List A) → ((x : A) → In x xs → f x ≡ g x) → list_any f xs ≡ list_any g xs
any_same f g [] same = refl
any_same f g (x ∷ xs) same = ap₂ (λ a b. a || b) (same x (inl refl)) (any_same f g xs (λ y h. same y (inr h)))

-- each of a list has a code
coded_in : (d : Design) (codes : List (Option ℕ)) (ss : List ℕ) (s : ℕ) → HaveCodes d codes ss → is_in ss s ≡ true → has_code codes s ≡ true
coded_in d codes [] s all h = absurd (false≢true h)
coded_in d codes (x ∷ ss) s all h = go (x == s) refl h (coded_in d codes ss s (All-tail (λ y. (y < length d.signals) × (has_code codes y ≡ true)) x ss all))
  where
    go : (t : Bool) → (x == s) ≡ t → (t || is_in ss s) ≡ true → (is_in ss s ≡ true → has_code codes s ≡ true) → has_code codes s ≡ true
    go true e k rest = let first : (x < length d.signals) × (has_code codes x ≡ true) = All-head (λ y. (y < length d.signals) × (has_code codes y ≡ true)) x ss all in subst (λ y. has_code codes y ≡ true) (eqb-true x s e) first.1
    go false e k rest = rest k

-- a row of bits inside of signals has no cell of anything else
row_out : (d : Design) (row : List Bits) (c : Cell) → All (IsInside d) row → length d.signals ≤ c.thing → row_has row c ≡ false
row_out d [] c all past = refl
row_out d (b ∷ row) c all past =
    let first : IsInside d b = All-head (IsInside d) b row all in
    let inside : b.signal < length d.signals = first.0 in
    let other : (b.signal == c.thing) ≡ false = grind (arith, nat_tests, inside, past) in
    ap (λ t. (t && is_set b.mask c.place) || row_has row c) other ∙ row_out d row c (All-tail (IsInside d) b row all) past

in_rows : (d : Design) (rows : List (List Bits)) (ps : List ℕ) (p : ℕ) → HaveRows d rows ps → In p ps → All (IsInside d) (row_at rows p)
in_rows d rows [] p all i = absurd i
in_rows d rows (q ∷ ps) p all (inl e) = let first : (q < length rows) × All (IsInside d) (row_at rows q) = All-head (λ x. (x < length rows) × All (IsInside d) (row_at rows x)) q ps all in subst (λ x. All (IsInside d) (row_at rows x)) e first.1
in_rows d rows (q ∷ ps) p all (inr i) = in_rows d rows ps p (All-tail (λ x. (x < length rows) × All (IsInside d) (row_at rows x)) q ps all) i

-- the cells of a signal on which two agree
same_cells : (k m : Kept) (s : ℕ) (js : List ℕ) → ((j : ℕ) → k (cell s j) ≡ m (cell s j)) → map k (map (cell s) js) ≡ map m (map (cell s) js)
same_cells k m s [] same = refl
same_cells k m s (j ∷ js) same = ap₂ (λ o os. o ∷ os) (same j) (same_cells k m s js same)

module _ (st : Closing) (w : Working) (running : List ℕ) (targets : List (List Bits)) (changed overwritten : List ℕ) (codes : List (Option ℕ)) (values : List (Option Vector)) (start : IsStartOf st w running targets changed overwritten codes values) (rows : HaveRows st.design targets running) where
  -- what is known before
  abbrev left : Kept
  left = flush w.kept w.queue

  target_at : (p : ℕ) (c : Cell) → In p running → row_has (row_at targets p) c ≡ blocking_target st.design (body_at st.design p) c
  target_at p c i = elim (cases_lt c.thing (length st.design.signals)) [
    | inl l ↦ start.targets p c i l
    | inr past ↦ row_out st.design (row_at targets p) c (in_rows st.design targets running p rows i) past ∙ sym (false_from_ne_true _ (λ e. let l = start.driven p c i e in absurd (omega (arith, l, past))))
  ]

  -- what is to be made anew is what the rows of the processes that run have
  pub loose_rows : (c : Cell) → is_loose st c ≡ some_row_has targets running c
  loose_rows c = loose_is st c running start.running ∙ sym (any_same (λ p. row_has (row_at targets p) c) (λ p. blocking_target st.design (body_at st.design p) c) running (λ p h. target_at p c h))

  pub updated_is : (c : Cell) → updated st w c ≡ forgetting (some_row_has targets running) left c
  updated_is c = ap (λ b. if b then None else left c) (loose_rows c)

  -- of a bound signal that is not overwritten what is known before is what was known at the start
  left_at : (s : ℕ) (t : Bool) → is_in overwritten s ≡ t → st.bound s ≡ true → known_bits st.design (if t then left else st.start.kept) s ≡ known_bits st.design left s
  left_at s true e b = refl
  left_at s false e b = same_cells st.start.kept left s (range_with_len 0 (signal_at st.design s).width) (λ j. sym (start.unwritten (cell s j) b e))

  module _ (blank : IsBlank st.design left) (coded : HaveCodes st.design codes changed) (coded_over : HaveCodes st.design codes overwritten) where
    -- by whether the dump has the cell, whether its signal has changed or is overwritten, and whether a row has the cell
    kept_at : (c : Cell) (bound wide put over row : Bool) → (bound && wide ≡ true → put ≡ false → over ≡ false → left c ≡ Some (st.new c))
        → (put ≡ true → bound ≡ true)
        → (over ≡ true → bound ≡ true)
        → (wide ≡ false → bound ≡ true → left c ≡ None)
        → (if bound && wide then Some (st.new c) else (if row then None else left c)) ≡ (if over && wide then Some (st.new c) else (if put && wide then Some (st.new c) else (if row && not bound then None else left c)))
    kept_at c true true put true row still listed taken past = refl
    kept_at c true true true false row still listed taken past = refl
    kept_at c true true false false true still listed taken past = sym (still refl refl refl)
    kept_at c true true false false false still listed taken past = sym (still refl refl refl)
    kept_at c true false true true true still listed taken past = sym (past refl refl)
    kept_at c true false true false true still listed taken past = sym (past refl refl)
    kept_at c true false false true true still listed taken past = sym (past refl refl)
    kept_at c true false false false true still listed taken past = sym (past refl refl)
    kept_at c true false true true false still listed taken past = refl
    kept_at c true false true false false still listed taken past = refl
    kept_at c true false false true false still listed taken past = refl
    kept_at c true false false false false still listed taken past = refl
    kept_at c false wide put true row still listed taken past = absurd (false≢true (taken refl))
    kept_at c false wide true false row still listed taken past = absurd (false≢true (listed refl))
    kept_at c false wide false false true still listed taken past = refl
    kept_at c false wide false false false still listed taken past = refl

    past : (c : Cell) → nat_lt c.place (signal_at st.design c.thing).width ≡ false → has_code codes c.thing ≡ true → left c ≡ None
    past c e b =
        let signal : c.thing < length st.design.signals = start.signals c.thing (start.bound c.thing ∙ b) in
        let above : (signal_at st.design c.thing).width ≤ c.place = grind (arith, nat_tests, e) in
        blank c (out_of_cells st.design c.thing signal c.place above)

    still : (c : Cell) → has_code codes c.thing && nat_lt c.place (signal_at st.design c.thing).width ≡ true → is_in changed c.thing ≡ false → is_in overwritten c.thing ≡ false → left c ≡ Some (st.new c)
    still c e put over =
        let has : st.bound c.thing && nat_lt c.place (signal_at st.design c.thing).width ≡ true = ap (λ b. b && nat_lt c.place (signal_at st.design c.thing).width) (start.bound c.thing) ∙ e in
        start.unwritten c (and_parts (st.bound c.thing) _ has).0 over ∙ start.still c has put

    -- what is kept once the dump's values are put in
    pub kept_is : putting st.design overwritten st.new (putting st.design changed st.new (forgetting (uncoded codes (some_row_has targets running)) left)) ≡ (settle_start st w).kept
    kept_is = fun_ext (λ c. sym (
        ap (λ b. if b && nat_lt c.place (signal_at st.design c.thing).width then Some (st.new c) else updated st w c) (start.bound c.thing)
        ∙ ap (λ o. if has_code codes c.thing && nat_lt c.place (signal_at st.design c.thing).width then Some (st.new c) else o) (updated_is c)
        ∙ kept_at c (has_code codes c.thing) (nat_lt c.place (signal_at st.design c.thing).width) (is_in changed c.thing) (is_in overwritten c.thing) (some_row_has targets running c)
        (still c)
        (coded_in st.design codes changed c.thing coded)
        (coded_in st.design codes overwritten c.thing coded_over)
        (past c)))

    -- the values of the step
    pub has_values : (x : Store) (v u : StepVectors) → AreTaken st left overwritten v → FitsSignals st.design u → u.before ≡ v.before
        → Knows st.design (putting st.design overwritten st.new (putting st.design changed st.new (forgetting (uncoded codes (some_row_has targets running)) left))) x
        → ((s : ℕ) → s < length st.design.signals → has_code codes s ≡ true → (vector_at v.made s).bits ≡ map left (signal_cells st.design s) → (vector_at u.made s).bits ≡ map (forgetting (some_row_has targets running) left) (signal_cells st.design s))
        → HasValues st (settle_start st w) x u
    has_values x v u taken fits before knows made =
        record {
          knows = subst (λ k. Knows st.design k x) kept_is knows;
          fits = fits;
          before = λ s l m. ap (λ qs. (vector_at qs s).bits) before ∙ taken.before s l m;
          made = λ s l m b. made s l (sym (start.bound s) ∙ b) (taken.made s l m b ∙ left_at s (is_in overwritten s) refl b) ∙ sym (ap (λ k. map k (signal_cells st.design s)) (fun_ext updated_is));
        }
