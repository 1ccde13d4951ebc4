-- What is clear is closed under its rules, where some state agrees with it: each rule uses finitely much of the map.
use Rattle.std.proofs.Common.{◌≡◌, ◌⊎◌, inl, inr, ⊎_elim, ℕ, zero, suc, ◌+◌, ◌<◌, ◌≤◌, Bool, true, false, ◌&&◌, if◌then◌else◌, List, [], ◌∷◌, ◌++◌, map, length, refl, sym, ap, ap₂, subst, ◌∙◌, arith}
use Rattle.std.proofs.lemmas.Bool.{and_from, and_parts, or_cases, cases_Bool, cases_lt, false≢true}
use Rattle.std.proofs.lemmas.List.{get_or_past}
use Rattle.std.specs.List.{list_all, list_any}
use Rattle.std.specs.Prelude.{slice_index_or}
use Rattle.event_machine.specs.Cell.{Cell, Values, Write, WritesCell, put_all}
use Rattle.event_machine.specs.Machine.{wakes}
use Rattle.event_machine.specs.Habit.{Habit}
use Rattle.four_state.specs.declared.bit.Bit.{Bit}
use Rattle.design_model.specs.Tree.{Process, Stmt, assign, clocked, comb}
use Rattle.design_model.specs.Design.{Design, Thing, a_signal, body, body_at, cell, is_assign, no_process, process_at, signal_cells, thing_bits}
use Rattle.design_model.specs.Mentions.{any_set, blocking_target, body_assigns, has_cell, may_write, target_names}
use Rattle.design_model.specs.Execution.{Visit, at_line, at_node, covers, execution, reads, writes_word}
use Rattle.design_model.specs.Reads.{Agrees, AllInside, HasValue, ReadsWithin, PartialMap, nothing_known}
use Rattle.design_model.specs.Machine.{is_level}
use Rattle.design_model.specs.Shows.{BoundDump}
use Rattle.design_model.specs.Clear.{IsClearBy, IsCombValue, IsNetValue, IsSignal, bits_after, clear, clear_from, clear_in, driven_writes, drives, of_assigns, of_clean, of_comb, of_dump, of_unwoken}
use Rattle.design_model.specs.Lawful.{IsLawfulDesign, is_signal}
use Rattle.design_model.specs.Laws.{ClearClosedLaw}
use Rattle.design_model.specs.ExampleParts.{at, counted}
use Rattle.design_model.proofs.Assigns.{machine_lawful}
use Rattle.design_model.proofs.Combs.{body_writes}
use Rattle.design_model.proofs.FlipFlopDoubt.{agrees}
use Rattle.design_model.proofs.Lawful.{any_weaker, names_from}
use Rattle.design_model.proofs.MadeSound.{comb_blocks}
use Rattle.design_model.proofs.Named.{WritesCell-left, WritesCell-right, has_cell-from}
use Rattle.design_model.proofs.Rounds.{inside_more, rounds_grow}
use Rattle.design_model.proofs.WithinMap.{cells_covered, within_blocking, within_by}

-- an Assign that may write a bit of signal s drives it
drives_by : (d : Design) (s : ℕ) (c : Cell) (p : Process) → c.thing ≡ s → (is_assign p && any_set (λ blocking y t. may_write d y c) (body p)) ≡ true → drives s p ≡ true
drives_by d s c p at h =
    let both = and_parts (is_assign p) (any_set (λ blocking y t. may_write d y c) (body p)) h in
    and_from (is_assign p) (body_assigns s (body p)) both.0
    (subst (λ y. body_assigns y (body p) ≡ true) at
    (any_weaker (λ blocking y t. may_write d y c) (λ blocking y t. target_names c.thing y) (λ blocking y t e. names_from d y c e) (body p) both.1))

module _ (d : Design) (s : ℕ) (u v : Values Bit) where
  -- the Assigns write the same where each that drives the signal does
  writes_same : (ps : List Process) → ((j : ℕ) → drives s (slice_index_or ps j no_process) ≡ true → (execution d (body (slice_index_or ps j no_process)) u).blocking ≡ (execution d (body (slice_index_or ps j no_process)) v).blocking) → driven_writes d u s ps ≡ driven_writes d v s ps
  writes_same [] same = refl
  writes_same (p ∷ ps) same = ap₂ (λ (a b : List (Write Bit)). a ++ b) (go (drives s p) refl) (writes_same ps (λ j. same (suc j)))
    where
      go : (b : Bool) → drives s p ≡ b → (if b then (execution d (body p) u).blocking else []) ≡ (if b then (execution d (body p) v).blocking else [])
      go true e = same 0 e
      go false e = refl

  -- a bit that some Assign writes is among what the Assigns write
  driven_cell : (c : Cell) → c.thing ≡ s → (ps : List Process) → ((j : ℕ) → (is_assign (slice_index_or ps j no_process) && any_set (λ blocking y t. may_write d y c) (body (slice_index_or ps j no_process))) ≡ true → WritesCell (execution d (body (slice_index_or ps j no_process)) v).blocking c) → list_any (λ p. is_assign p && any_set (λ blocking y t. may_write d y c) (body p)) ps ≡ true → WritesCell (driven_writes d v s ps) c
  driven_cell c at [] writes some = absurd (false≢true some)
  driven_cell c at (p ∷ ps) writes some =
      ⊎_elim
      (λ here. go (drives s p) (drives_by d s c p at here) (writes 0 here))
      (λ later. WritesCell-right (if drives s p then (execution d (body p) v).blocking else []) (driven_writes d v s ps) c (driven_cell c at ps (λ j. writes (suc j)) later))
      (or_cases (is_assign p && any_set (λ blocking y t. may_write d y c) (body p)) (list_any (λ q. is_assign q && any_set (λ blocking y t. may_write d y c) (body q)) ps) some)
    where
      go : (b : Bool) → b ≡ true → WritesCell (execution d (body p) v).blocking c → WritesCell ((if b then (execution d (body p) v).blocking else []) ++ driven_writes d v s ps) c
      go true e has = WritesCell-left (execution d (body p) v).blocking (driven_writes d v s ps) c has
      go false e has = absurd (false≢true e)

blocking_of : (d : Design) (c : Cell) (p : Process) → (is_assign p && any_set (λ blocking y t. may_write d y c) (body p)) ≡ true → (is_assign p ≡ true) × (blocking_target d (body p) c ≡ true)
blocking_of d c (assign i x t counted) h = (refl, h)
blocking_of d c (comb i wakes s) h = absurd (false≢true h)
blocking_of d c (clocked i events s) h = absurd (false≢true h)

module _ (d : Design) (lawful : IsLawfulDesign d) (h : Habit) (dump : BoundDump) (t : ℕ) (start : PartialMap) (v : Values Bit) (agrees : (x : Thing) (bits : List Bit) → clear_from d h dump t start x bits → thing_bits d v x ≡ bits) where
  Round : ℕ → PartialMap
  Round n = clear_in d h dump t start n

  pub Clear : PartialMap
  Clear = clear_from d h dump t start

  up : (n m : ℕ) → n ≤ m → (x : Thing) (bits : List Bit) → Round n x bits → Round m x bits
  unfolding Round
  up zero zero le x bits k = k
  up (suc n) zero le x bits k = absurd (omega (arith, le))
  up n (suc m) le x bits k =
      ⊎_elim
      (λ above. subst (λ y. clear_in d h dump t start y x bits) (same n m le above) k)
      (λ below. rounds_grow d h dump t start m x bits (up n m below x bits k))
      (cases_lt m n)
    where
      same : (n m : ℕ) → n ≤ suc m → m < n → n ≡ suc m
      same n m le above = omega (arith, le, above)

  agrees_in : (n : ℕ) → Agrees d (Round n) v
  unfolding Round
  agrees_in n x bits k = agrees x bits (n, k)

  up_inside : (n m : ℕ) → n ≤ m → (xs : List Visit) → AllInside (Round n) xs → AllInside (Round m) xs
  up_inside n m le xs inside = inside_more d (Round n) (Round m) (up n m le) xs inside

  -- what visits read is clear in some round
  inside_round : (xs : List Visit) → AllInside Clear xs → (n : ℕ) × AllInside (Round n) xs
  unfolding Clear Round
  inside_round [] inside = (0, tt)
  inside_round (at_line n ∷ xs) inside = let found = inside_round xs inside.1 in (found.0, (tt, found.1))
  inside_round (at_node n c ∷ xs) inside = let found = inside_round xs inside.1 in (found.0, (tt, found.1))
  inside_round (writes_word m i ∷ xs) inside = let found = inside_round xs inside.1 in (found.0, (tt, found.1))
  inside_round (reads x true ∷ xs) inside = let found = inside_round xs inside.1 in (found.0, (tt, found.1))
  inside_round (reads x false ∷ xs) inside =
      let found = inside_round xs inside.1 in
      let here = inside.0.1 in (
        here.0 + found.0,
        (
          (inside.0.0, up here.0 (here.0 + found.0) (omega arith) x inside.0.0 here.1),
          up_inside found.0 (here.0 + found.0) (omega arith) xs found.1,
        ),
      )

  within_round : (b : Stmt) → ReadsWithin d Clear b → (n : ℕ) × AllInside (Round n) (execution d b v).visits
  unfolding Clear
  within_round b told = inside_round (execution d b v).visits (told v agrees)

  -- the Assigns of signal s, of the first k processes, read within what is known in some round
  drivers_round : (s : ℕ) → ((p : ℕ) → drives s (process_at d p) ≡ true → ReadsWithin d Clear (body_at d p)) → (k : ℕ) → (n : ℕ) × ((p : ℕ) → p < k → drives s (process_at d p) ≡ true → AllInside (Round n) (execution d (body_at d p) v).visits)
  drivers_round s told zero = (0, λ p below drives_it. absurd (omega (arith, below)))
  drivers_round s told (suc k) = go (cases_Bool (drives s (process_at d k))) (drivers_round s told k)
    where
      last : (p : ℕ) → p < suc k → k ≤ p → k ≡ p
      last p below over = omega (arith, below, over)

      go : (drives s (process_at d k) ≡ true) ⊎ (drives s (process_at d k) ≡ false) → ((n : ℕ) × ((p : ℕ) → p < k → drives s (process_at d p) ≡ true → AllInside (Round n) (execution d (body_at d p) v).visits)) → (n : ℕ) × ((p : ℕ) → p < suc k → drives s (process_at d p) ≡ true → AllInside (Round n) (execution d (body_at d p) v).visits)
      go (inl is) before =
          let here = within_round (body_at d k) (told k is) in (
            here.0 + before.0,
            λ p below drives_it.
                ⊎_elim
                (λ under. up_inside before.0 (here.0 + before.0) (omega arith) _ (before.1 p under drives_it))
                (λ over. subst (λ q. AllInside (Round (here.0 + before.0)) (execution d (body_at d q) v).visits) (last p below over) (up_inside here.0 (here.0 + before.0) (omega arith) _ here.1))
                (cases_lt p k),
          )
      go (inr is) before = (
        before.0,
        λ p below drives_it.
            ⊎_elim
            (λ under. before.1 p under drives_it)
            (λ over. absurd (false≢true (sym is ∙ subst (λ q. drives s (process_at d q) ≡ true) (sym (last p below over)) drives_it)))
            (cases_lt p k),
      )

  driver_below : (s p : ℕ) → drives s (process_at d p) ≡ true → p < length d.processes
  driver_below s p drives_it =
      ⊎_elim
      (λ below. below)
      (λ past. absurd (false≢true (subst (λ q. drives s q ≡ true) (get_or_past d.processes p no_process past) drives_it)))
      (cases_lt p (length d.processes))

  -- the cells of a driven signal are among what its Assigns write
  driven_covered : (s : ℕ) (ks : List ℕ) → list_all (λ c. list_any (λ p. is_assign p && any_set (λ blocking y t. may_write d y c) (body p)) d.processes) (map (cell s) ks) ≡ true → covers (driven_writes d v s d.processes) (map (cell s) ks) ≡ true
  driven_covered s [] all = refl
  driven_covered s (k ∷ ks) all =
      let both = and_parts (list_any (λ p. is_assign p && any_set (λ blocking y t. may_write d y (cell s k)) (body p)) d.processes) _ all in
      and_from (has_cell (driven_writes d v s d.processes) (cell s k)) _
      (has_cell-from (driven_writes d v s d.processes) (cell s k)
      (driven_cell d s v v (cell s k) refl d.processes (λ j is. let by = blocking_of d (cell s k) (process_at d j) is in ((machine_lawful d lawful).assigns_combinational j (cell s k) by.0 by.1).writes v) both.0))
      (driven_covered s ks both.1)

  closed_net : (s : ℕ) (bits : List Bit) → dump.bound s ≡ false → IsNetValue d Clear s bits → Clear (a_signal s) bits
  unfolding Clear Round
  closed_net s bits unbound is =
      let found = drivers_round s is.within (length d.processes) in (
        suc found.0,
        of_assigns s bits unbound
            (record {
              is_signal = is.is_signal;
              driven = is.driven;
              within = λ p drives_it. within_by d (Round found.0) (body_at d p) v (agrees_in found.0) (found.1 p (driver_below s p drives_it) drives_it);
              gives = λ u fits.
                  ap (λ (ws : List (Write Bit)). bits_after d u ws (a_signal s))
                  (writes_same d s u v d.processes (λ j drives_it. sym (within_blocking d (Round found.0) (body_at d j) v u (agrees_in found.0) fits (found.1 j (driver_below s j drives_it) drives_it))))
                  ∙ cells_covered d u v (driven_writes d v s d.processes) (put_all u (driven_writes d v s d.processes)) (put_all v (driven_writes d v s d.processes)) (signal_cells d s) (λ c. refl) (λ c. refl) (driven_covered s _ is.driven)
                  ∙ is.gives v agrees;
            }),
      )

  -- the signals that a Comb mentions or lists and does not assign, of the first k, are clear in some round
  signals_round : (p : ℕ) → ((x : ℕ) → is_level (process_at d p) x ≡ true → body_assigns x (body_at d p) ≡ false → IsSignal d x → HasValue Clear (a_signal x)) → (k : ℕ) → k ≤ length d.signals → (n : ℕ) × ((x : ℕ) → x < k → is_level (process_at d p) x ≡ true → body_assigns x (body_at d p) ≡ false → HasValue (Round n) (a_signal x))
  unfolding Clear Round
  signals_round p all zero le = (0, λ x below level other. absurd (omega (arith, below)))
  signals_round p all (suc k) le = go (cases_Bool (is_level (process_at d p) k)) (cases_Bool (body_assigns k (body_at d p))) (signals_round p all k (omega (arith, le)))
    where
      last : (x : ℕ) → x < suc k → k ≤ x → k ≡ x
      last x below over = omega (arith, below, over)

      Found : ℕ → ℕ → Type 0
      Found n j = (x : ℕ) → x < j → is_level (process_at d p) x ≡ true → body_assigns x (body_at d p) ≡ false → HasValue (Round n) (a_signal x)

      go : (is_level (process_at d p) k ≡ true) ⊎ (is_level (process_at d p) k ≡ false) → (body_assigns k (body_at d p) ≡ true) ⊎ (body_assigns k (body_at d p) ≡ false) → ((n : ℕ) × ((x : ℕ) → x < k → is_level (process_at d p) x ≡ true → body_assigns x (body_at d p) ≡ false → HasValue (Round n) (a_signal x))) → (n : ℕ) × ((x : ℕ) → x < suc k → is_level (process_at d p) x ≡ true → body_assigns x (body_at d p) ≡ false → HasValue (Round n) (a_signal x))
      go (inl level) (inr other) before =
          let here = all k level other (omega (arith, le)) in (
            here.1.0 + before.0,
            λ x below lv ot.
                ⊎_elim
                (λ under. let old = before.1 x under lv ot in (old.0, up before.0 (here.1.0 + before.0) (omega arith) (a_signal x) old.0 old.1))
                (λ over. subst (λ y. HasValue (Round (here.1.0 + before.0)) (a_signal y)) (last x below over) (here.0, up here.1.0 (here.1.0 + before.0) (omega arith) (a_signal k) here.0 here.1.1))
                (cases_lt x k),
          )
      go (inr none) _ before = (
        before.0,
        λ x below lv ot.
            ⊎_elim
            (λ under. before.1 x under lv ot)
            (λ over. absurd (false≢true (sym none ∙ subst (λ y. is_level (process_at d p) y ≡ true) (sym (last x below over)) lv)))
            (cases_lt x k),
      )
      go (inl level) (inl own) before = (
        before.0,
        λ x below lv ot.
            ⊎_elim
            (λ under. before.1 x under lv ot)
            (λ over. absurd (false≢true (sym (subst (λ y. body_assigns y (body_at d p) ≡ false) (sym (last x below over)) ot) ∙ own)))
            (cases_lt x k),
      )

  closed_comb : (p s : ℕ) (bits : List Bit) → dump.bound s ≡ false → IsCombValue d dump t Clear p s bits → Clear (a_signal s) bits
  unfolding Clear Round
  closed_comb p s bits unbound is =
      let found = signals_round p is.all_clear (length d.signals) (omega arith) in
      let read = within_round (body_at d p) is.within in
      let n : ℕ = read.0 + found.0 in
      let inside : AllInside (Round n) (execution d (body_at d p) v).visits = up_inside read.0 n (omega arith) _ read.1 in (
        suc n,
        of_comb p s bits unbound
            (record {
              is_signal = is.is_signal;
              is_comb = is.is_comb;
              target = is.target;
              written_whole = is.written_whole;
              writes_first = is.writes_first;
              all_clear = λ x level other signal. let has = found.1 x signal level other in (has.0, up found.0 n (omega arith) (a_signal x) has.0 has.1);
              within = within_by d (Round n) (body_at d p) v (agrees_in n) inside;
              has_changed = is.has_changed;
              gives = λ u fits.
                  ap (λ (ws : List (Write Bit)). bits_after d u ws (a_signal s)) (sym (within_blocking d (Round n) (body_at d p) v u (agrees_in n) fits inside))
                  ∙ cells_covered d u v (execution d (body_at d p) v).blocking (put_all u (execution d (body_at d p) v).blocking) (put_all v (execution d (body_at d p) v).blocking) (signal_cells d s) (λ c. refl) (λ c. refl) (body_writes d (body_at d p) s v (comb_blocks d (process_at d p) is.is_comb (lawful.targets p)) is.written_whole)
                  ∙ is.gives v agrees;
            }),
      )

  pub closed : (x : Thing) (bits : List Bit) → IsClearBy d h dump t start Clear x bits → Clear x bits
  unfolding Clear
  closed x bits (of_dump s w0 is_shown is_bound is_signal is) = (1, of_dump s w0 is_shown is_bound is_signal is)
  closed x bits (of_assigns s w0 unbound is) = closed_net s w0 unbound is
  closed x bits (of_comb p s w0 unbound is) = closed_comb p s w0 unbound is
  closed x bits (of_unwoken p x0 w0 window unbound target cannot old) = (1, of_unwoken p x0 w0 window unbound target cannot old)
  closed x bits (of_clean p c x0 w0 window unbound is) = (1, of_clean p c x0 w0 window unbound is)

pub closed_law : (d : Design) → IsLawfulDesign d → (h : Habit) → ClearClosedLaw d h
unfolding Clear
closed_law d lawful h dump zero v agrees x bits by = closed d lawful h dump zero nothing_known v agrees x bits by
closed_law d lawful h dump (suc t) v agrees x bits by = closed d lawful h dump (suc t) (clear d h dump t) v agrees x bits by
