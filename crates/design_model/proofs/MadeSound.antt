-- The rule for Combs: from the Idle and Follow laws of the machine.
use Rattle.std.proofs.Common.{◌≡◌, ◌≢◌, ◌⊎◌, inl, inr, ⊎_elim, ℕ, zero, suc, ◌+◌, ◌-◌, ◌*◌, ◌<◌, ◌≤◌, Bool, true, false, not, List, [], ◌∷◌, ◌++◌, map, length, append-nil, refl, sym, ap, subst, ◌∙◌, arith}
use Rattle.std.proofs.lemmas.Bool.{and_parts, or_left, cases_Bool, false≢true, true≢false, both_ways, false_from_ne_true, not-true, lt-leb}
use Rattle.std.specs.List.{list_all}
use Rattle.std.specs.List.{range_with_len}
use Rattle.event_machine.specs.Cell.{Cell, Values, WritesCell, join, put_all}
use Rattle.event_machine.specs.Machine.{IsCombinational, IsWakeCell, output}
use Rattle.event_machine.specs.Habit.{Habit}
use Rattle.event_machine.specs.Laws.{ComputedLaw, EdgeLaw, EvaluatesSettled, IdleLaw, IsIdle, NetLaw, NoWakeLaw, WriteLaw}
use Rattle.four_state.specs.Arithmetic.{whole}
use Rattle.four_state.specs.declared.bit.Bit.{Bit}
use Rattle.design_model.specs.Tree.{Process, Stmt, Target, Term, assign, clocked, comb}
use Rattle.design_model.specs.Design.{Design, IsComb, a_signal, a_word, body, body_at, cell, memory_at, process_at, signal_at, signal_bits, signal_cells, thing_bits}
use Rattle.design_model.specs.Mentions.{body_assigns, body_mentions, has_cell, may_write}
use Rattle.design_model.specs.Execution.{Execution, Visit, at_line, at_node, covers, execute_assignment, execution, execution_start, reads, writes_word}
use Rattle.design_model.specs.Paths.{each_writes_whole, reads_signal_before_writing}
use Rattle.design_model.specs.Reads.{Agrees, PartialMap}
use Rattle.design_model.specs.Machine.{is_level, machine}
use Rattle.design_model.specs.Run.{IsRun, Run, settled}
use Rattle.design_model.specs.Shows.{BindsSignals, BoundDump, IsWindow, ShowsUpTo}
use Rattle.design_model.specs.Clear.{HasChanged, IsCombValue, clear}
use Rattle.design_model.specs.Lawful.{IsLawfulDesign, target_once}
use Rattle.design_model.proofs.Agree.{AllOuter}
use Rattle.design_model.proofs.Assigns.{machine_lawful}
use Rattle.design_model.proofs.Combs.{AllInnerOf, body_inner, body_writes}
use Rattle.design_model.proofs.Execution.{EachSet, each_fails, each_gives, execute_keeps}
use Rattle.design_model.proofs.Lawful.{any_gives, assigns_any, may_any, place_from}
use Rattle.design_model.proofs.Mentions.{AllReads, execute_reads}
use Rattle.design_model.proofs.Named.{WritesCell-from}
use Rattle.design_model.proofs.Sound.{IsSeen, cells_eq, clear_sound, no_window, step_or, window_shown}
use Rattle.design_model.proofs.Times.{StepTo}
use Rattle.design_model.proofs.WithinMap.{SameExecution, execution_same}
use Rattle.design_model.proofs.Untouched.{put_other}

-- a Comb of a lawful design has blocking assignments alone
pub comb_blocks : (d : Design) (x : Process) → IsComb x → target_once x d ≡ true → EachSet (λ n k y t. k ≡ true) (body x)
comb_blocks d (assign i y t c) is once = absurd is
comb_blocks d (comb i wakes s) is once = each_gives (λ n k y t e. not_false k e) s (each_fails (λ k y t. not k) s (not-true _ once))
  where
    not_false : (k : Bool) → not k ≡ false → k ≡ true
    not_false true e = refl
    not_false false e = absurd (true≢false e)
comb_blocks d (clocked i events s) is once = absurd is

comb_level : (x : Process) (y : ℕ) → IsComb x → body_mentions y (body x) ≡ true → is_level x y ≡ true
comb_level (assign i z t c) y is m = absurd is
comb_level (comb i wakes s) y is m = or_left (body_mentions y s) _ m
comb_level (clocked i events s) y is m = absurd is

-- blocking assignments queue nothing
no_updates : (d : Design) (b : Stmt) (v : Values Bit) → EachSet (λ n k y t. k ≡ true) b → (execution d b v).nonblocking ≡ []
no_updates d b v blocks = execute_keeps d (λ r. r.nonblocking ≡ []) (λ r vs e. e) b (each_gives (λ n k y t e. keeps n k y t e) b blocks) (execution_start v) refl
  where
    keeps : (n : ℕ) (k : Bool) (y : Target) (t : Term) → k ≡ true → (r : Execution) → r.nonblocking ≡ [] → (execute_assignment d n k y t r).nonblocking ≡ []
    keeps n true y t e r h = h
    keeps n false y t e r h = absurd (false≢true e)

abbrev IsCons : {A : Type 0} → List A → Type 0
IsCons [] = ⊥
IsCons (x ∷ xs) = Unit {0}

all_at : (f : Cell → Bool) (s n k j : ℕ) → list_all f (map (cell s) (range_with_len n k)) ≡ true → j < k → f (cell s (n + j)) ≡ true
all_at f s n zero j h l = absurd (omega (arith, l))
all_at f s n (suc k) zero h l =
    let same : n ≡ n + 0 = omega arith in
    subst (λ y. f (cell s y) ≡ true) same (and_parts (f (cell s n)) _ h).0
all_at f s n (suc k) (suc j) h l =
    let same : (n + 1) + j ≡ n + suc j = omega arith in
    subst (λ y. f (cell s y) ≡ true) same (all_at f s (n + 1) k j (and_parts (f (cell s n)) _ h).1 (omega arith))

module _ (d : Design) (lawful : IsLawfulDesign d) (p : ℕ) (is_comb : IsComb (process_at d p)) where
  blocks : EachSet (λ n k y t. k ≡ true) (body_at d p)
  blocks = comb_blocks d (process_at d p) is_comb (lawful.targets p)

  -- a cell of what the body mentions and does not assign wakes it
  wakes : (q : ℕ) (c : Cell) → c.thing ≡ q → body_mentions q (body_at d p) ≡ true → body_assigns q (body_at d p) ≡ false → IsWakeCell (machine d) p c
  wakes q c is m nope =
      (comb_level (process_at d p) c.thing is_comb (subst (λ y. body_mentions y (body_at d p) ≡ true) (sym is) m), false_from_ne_true _ (λ e. both_ways (body_assigns q (body_at d p)) nope (subst (λ y. body_assigns y (body_at d p) ≡ true) is (assigns_any d (body_at d p) c (inl e)))))

  module _ (u v : Values Bit) (same : (c : Cell) → IsWakeCell (machine d) p c → u c ≡ v c) where
    no_words : (m i : ℕ) → m < length d.signals → thing_bits d u (a_word m i) ≡ thing_bits d v (a_word m i)
    no_words m i h =
        let none : (memory_at d m).width ≡ 0 = rw (lt-leb (length d.signals) m h) refl in
        subst (λ w. map u (map (λ k. cell m (i * (memory_at d m).width + k)) (range_with_len 0 w)) ≡ map v (map (λ k. cell m (i * (memory_at d m).width + k)) (range_with_len 0 w))) (sym none) refl

    outer_of : (xs : List Visit) → AllReads (λ y. body_mentions y (body_at d p) ≡ true) xs → ((q : ℕ) → body_assigns q (body_at d p) ≡ true → AllInnerOf q xs) → AllOuter d u v xs
    outer_of [] a inner = tt
    outer_of (at_line n ∷ xs) a inner = (tt, outer_of xs a.1 (λ q o. (inner q o).1))
    outer_of (at_node n c ∷ xs) a inner = (tt, outer_of xs a.1 (λ q o. (inner q o).1))
    outer_of (writes_word m i ∷ xs) a inner = (tt, outer_of xs a.1 (λ q o. (inner q o).1))
    outer_of (reads x true ∷ xs) a inner = (tt, outer_of xs a.1 (λ q o. (inner q o).1))
    outer_of (reads (a_signal q) false ∷ xs) a inner =
        (⊎_elim (λ own. absurd (false≢true ((inner q own).0 refl))) (λ nope. cells_eq d u v (a_signal q) (λ c is. same c (wakes q c is a.0 nope))) (cases_Bool (body_assigns q (body_at d p))), outer_of xs a.1 (λ q o. (inner q o).1))
    outer_of (reads (a_word m i) false ∷ xs) a inner =
        (⊎_elim (λ own. no_words m i (lawful.comb_writes p m is_comb own)) (λ nope. cells_eq d u v (a_word m i) (λ c is. same c (wakes m c is a.0 nope))) (cases_Bool (body_assigns m (body_at d p))), outer_of xs a.1 (λ q o. (inner q o).1))

  -- a Comb that writes s whole on each path and reads no own target before writing it is combinational for each bit of s that it may write
  pub combinational : ((x : ℕ) → body_assigns x (body_at d p) ≡ true → reads_signal_before_writing d (body_at d p) x ≡ false) → (s : ℕ) → each_writes_whole d (body_at d p) s ≡ true → (c : Cell) → c.thing ≡ s → (machine d).blocking p c ≡ true → IsCombinational (machine d) p c
  combinational is_early s whole c is at =
      record {
        reads = λ u v same. both u v (execution_same d u v (body_at d p) (outer_of u v same _ (execute_reads (λ y. body_mentions y (body_at d p) ≡ true) d (body_at d p) (λ y e. e) (execution_start u) tt) (λ q own. body_inner d (body_at d p) q u blocks (is_early q own))));
        writes = λ v. written v (body_writes d (body_at d p) s v blocks whole);
      }
    where
      both : (u v : Values Bit) → SameExecution d u v (execution d (body_at d p) u) (execution d (body_at d p) v) → (machine d).evaluate p u ≡ (machine d).evaluate p v
      both u v e = λ i. record { blocking = e.blocking i; nonblocking = e.nonblocking i }

      range : c.place < (signal_at d c.thing).width
      range = any_gives (λ x y w. may_write d y c) _ (λ x y w e. place_from d y c (lawful.comb_writes p c.thing is_comb (assigns_any d (body_at d p) c (inl at))) e) (body_at d p) (may_any d (body_at d p) c (inl at))

      written : (v : Values Bit) → covers (execution d (body_at d p) v).blocking (signal_cells d s) ≡ true → WritesCell (execution d (body_at d p) v).blocking c
      written v h =
          let in_range : c.place < (signal_at d s).width = subst (λ y. c.place < (signal_at d y).width) is range in
          let found : has_cell (execution d (body_at d p) v).blocking (cell s (0 + c.place)) ≡ true = all_at (has_cell (execution d (body_at d p) v).blocking) s 0 (signal_at d s).width c.place h in_range in
          let same : cell s (0 + c.place) ≡ c = λ i. record { thing = sym is i; place = zero_plus c.place i } in
          WritesCell-from (execution d (body_at d p) v).blocking c (subst (λ y. has_cell (execution d (body_at d p) v).blocking y ≡ true) same found)
        where
          zero_plus : (k : ℕ) → 0 + k ≡ k
          zero_plus k = omega arith

cons_nil : {A : Type 0} (x : A) (xs : List A) → x ∷ xs ≡ [] → ⊥
cons_nil x xs e = subst IsCons e tt

module _ (d : Design) (lawful : IsLawfulDesign d) (h : Habit) (dump : BoundDump) (binds : BindsSignals d dump) (r : Run) (is_run : IsRun d h r) (end : ℕ) (shows : ShowsUpTo d dump r end) (net_law : NetLaw (machine d)) (no_wake_law : NoWakeLaw (machine d)) (write_law : WriteLaw (machine d)) (edge_law : EdgeLaw (machine d) h) (idle_law : IdleLaw (machine d)) (computed_law : ComputedLaw (machine d)) where
  abbrev W : ℕ → Values Bit
  W t = settled d r t

  -- the cell has the value that the body of p gives it on the settled values
  abbrev IsFollowing : ℕ → Cell → Values Bit → Type 0
  IsFollowing p c v = v c ≡ put_all v (output (machine d) p v) c

  step_here : (t : ℕ) → (W (suc t) ≡ W t) ⊎ StepTo (machine d) h (W t) (W (suc t))
  step_here t = step_or d lawful h dump binds r is_run end shows net_law no_wake_law write_law edge_law t

  goes_on : (t p : ℕ) (c : Cell) → IsCombinational (machine d) p c → IsFollowing p c (W t) → IsFollowing p c (W (suc t))
  goes_on t p c cb now = go (step_here t)
    where
      go : (W (suc t) ≡ W t) ⊎ StepTo (machine d) h (W t) (W (suc t)) → IsFollowing p c (W (suc t))
      go (inl same) = subst (IsFollowing p c) (sym same) now
      go (inr s) = subst (IsFollowing p c) s.ends (computed_law h s.start s.events s.is_step p c cb (λ none. subst (IsFollowing p c) (sym s.starts) now))

  goes_on_to : (k t p : ℕ) (c : Cell) → IsCombinational (machine d) p c → IsFollowing p c (W t) → IsFollowing p c (W (t + k))
  goes_on_to zero t p c cb now =
      let same : t ≡ t + 0 = omega arith in
      subst (λ y. IsFollowing p c (W y)) same now
  goes_on_to (suc k) t p c cb now =
      let same : suc t + k ≡ t + suc k = omega arith in
      subst (λ y. IsFollowing p c (W y)) same (goes_on_to k (suc t) p c cb (goes_on t p c cb now))

  -- a mentioned signal that changes over a step has its Comb act in it
  begins_by : (w p by : ℕ) (c : Cell) → IsComb (process_at d p) → IsCombinational (machine d) p c → IsSeen dump end w → IsSeen dump end (suc w) → body_mentions by (body_at d p) ≡ true → dump.bound by ≡ true → signal_bits d (dump.values w) by ≢ signal_bits d (dump.values (suc w)) by → IsFollowing p c (W (suc w))
  begins_by w p by c is_comb cb now next mentioned bound changed = go (step_here w)
    where
      still : signal_bits d (W w) by ≡ signal_bits d (W (suc w)) by → ⊥
      still e = changed (sym (shows.shows w now.0 now.1 by bound) ∙ e ∙ shows.shows (suc w) next.0 next.1 by bound)

      not_empty : (earlier : List (Values Bit)) (entry : Values Bit) → earlier ++ entry ∷ [] ≡ [] → ⊥
      not_empty [] entry e = cons_nil entry [] e
      not_empty (x ∷ xs) entry e = cons_nil x _ e

      acted : (s : StepTo (machine d) h (W w) (W (suc w))) → EvaluatesSettled (machine d) p s.start s.events ⊎ IsIdle (machine d) p s.start s.events → IsFollowing p c (W (suc w))
      acted s (inl evaluated) = subst (IsFollowing p c) s.ends (computed_law h s.start s.events s.is_step p c cb (λ none. absurd (not_empty evaluated.earlier evaluated.entry (sym evaluated.evaluated ∙ none))))
      acted s (inr idle) =
          absurd (still (cells_eq d (W w) (W (suc w)) (a_signal by) (λ b at. sym (ap (λ f. f b) s.starts) ∙ sym (idle.kept b (comb_level (process_at d p) b.thing is_comb (subst (λ y. body_mentions y (body_at d p) ≡ true) (sym at) mentioned))) ∙ ap (λ f. f b) s.ends)))

      go : (W (suc w) ≡ W w) ⊎ StepTo (machine d) h (W w) (W (suc w)) → IsFollowing p c (W (suc w))
      go (inl same) = absurd (still (ap (λ f. signal_bits d f by) (sym same)))
      go (inr s) = acted s (idle_law h s.start s.events s.is_step p)

  -- a Comb whose mentioned signal has changed follows at the time
  follows_at : (t p : ℕ) (c : Cell) → IsComb (process_at d p) → IsCombinational (machine d) p c → IsSeen dump end t → HasChanged dump d (body_at d p) t → IsFollowing p c (W t)
  follows_at t p c is_comb cb now h' = go h'.time h'.until h'.in_window h'.changed
    where
      go : (u : ℕ) → u ≤ t → IsWindow dump u → signal_bits d (dump.values (u - 1)) h'.by ≢ signal_bits d (dump.values u) h'.by → IsFollowing p c (W t)
      go zero le window changed = absurd (no_window d lawful h dump binds r is_run end shows net_law no_wake_law write_law edge_law window)
      go (suc w) le window changed =
          let shown_at = window_shown d lawful h dump binds r is_run end shows net_law no_wake_law write_law edge_law w window (omega (arith, le, now.1)) in
          let start : suc w - 1 ≡ w = omega arith in
          let there : suc w + (t - suc w) ≡ t = omega (arith, le) in
          subst (λ y. IsFollowing p c (W y)) there
          (goes_on_to (t - suc w) (suc w) p c cb (begins_by w p h'.by c is_comb cb shown_at.0 shown_at.1 h'.mentioned h'.is_bound (λ e. changed (subst (λ y. signal_bits d (dump.values y) h'.by ≡ signal_bits d (dump.values (suc w)) h'.by) (sym start) e))))

  pub made_sound : (t p s : ℕ) (K : PartialMap) (bits : List Bit) → IsSeen dump end t → Agrees d K (W t) → IsCombValue d dump t K p s bits → signal_bits d (W t) s ≡ bits
  made_sound t p s K bits now agrees is = cells_eq d (W t) (put_all (W t) (execution d (body_at d p) (W t)).blocking) (a_signal s) (λ c at. ⊎_elim (driven c at) (λ nope. sym (put_other (W t) (execution d (body_at d p) (W t)).blocking c (λ has. both_ways _ nope ((machine_lawful d lawful).blocking_kept p (W t) c has)))) (cases_Bool ((machine d).blocking p c))) ∙ is.gives (W t) agrees
    where
      driven : (c : Cell) → c.thing ≡ s → (machine d).blocking p c ≡ true → W t c ≡ put_all (W t) (execution d (body_at d p) (W t)).blocking c
      driven c at e =
          let plain : output (machine d) p (W t) ≡ (execution d (body_at d p) (W t)).blocking = ap (λ us. (execution d (body_at d p) (W t)).blocking ++ join us) (no_updates d (body_at d p) (W t) (comb_blocks d (process_at d p) is.is_comb (lawful.targets p))) ∙ append-nil _ in
          follows_at t p c is.is_comb (combinational d lawful p is.is_comb is.writes_first s is.written_whole c at e) now is.has_changed ∙ ap (λ ws. put_all (W t) ws c) plain

  -- In every run that shows the dump, at each time that the dump shows, the settled values are those that are clear.
  pub clear_is_sound : (t : ℕ) → IsSeen dump end t → Agrees d (clear d h dump t) (settled d r t)
  clear_is_sound t now = clear_sound d lawful h dump binds r is_run end shows net_law no_wake_law write_law edge_law made_sound t now
