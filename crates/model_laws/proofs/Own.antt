-- A signal of which an Assign has no wake bit does not matter to it, and a lawful design in which an Assign has no wake bit of a signal that it drives and mentions.
use Rattle.std.proofs.Common.{◌≡◌, ◌⊎◌, ⊎_elim, inl, inr, ℕ, zero, suc, ◌<◌, ◌≤◌, ◌==◌, ◌&&◌, Bool, true, false, length, refl, sym, subst, ◌∙◌, arith, lit≤, if◌then◌else◌}
use Rattle.std.specs.Prelude.{nat_lt}
use Rattle.std.specs.List.{list_all}
use Rattle.std.proofs.lemmas.Bool.{and_right, both_ways, cases_Bool, cases_lt, eqb-true, false≢true, lt-ltb, ltb-true}
use Rattle.design_model.specs.event_machine.Cell.{Cell}
use Rattle.design_model.specs.event_machine.Machine.{IsWakeCell}
use Rattle.design_model.specs.Tree.{Process, all_of, assign, clocked, comb}
use Rattle.design_model.specs.Design.{Design, In, IsAssign, IsClocked, IsComb, body_at, cell, is_assign, is_number, path_of, process_at, signal_at}
use Rattle.design_model.specs.Mentions.{any_set, body_assigns, body_queues, may_write}
use Rattle.design_model.specs.Execution.{execution, execution_start}
use Rattle.design_model.specs.Numbered.{LineAt, NodeAt, lines_of, nodes_of}
use Rattle.design_model.specs.Machine.{events_of, machine}
use Rattle.design_model.specs.Open.{IsWakeBit}
use Rattle.design_model.specs.Shape.{is_body}
use Rattle.design_model.specs.WellFormed.{is_well_formed_body}
use Rattle.design_model.specs.Lawful.{IsLawfulDesign, may_read, target_once, wakes_of}
use Rattle.design_model.specs.BodyLaws.{all_cells}
use Rattle.design_model.proofs.AssignLaws.{assign_visits_law, own_wake_law}
use Rattle.design_model.proofs.SettledHits.{settling_level}
use Rattle.design_model.proofs.ReadThings.{execute_things}
use Rattle.design_model.proofs.WithinMap.{execution_same}
use Rattle.model_laws.specs.Own.{IsIgnored, IsPickingExample, OwnWakesLaw, WakeOrIgnoredLaw, picking}
use Rattle.model_laws.proofs.Cells.{has, in_has, on_design, outer_on, signal_place}

-- ---- ignored signals

ignored : (d : Design) → IsLawfulDesign d → (p y : ℕ) → is_assign (process_at d p) ≡ true → y < length d.signals → ((k : ℕ) → IsWakeBit d p (cell y k) → ⊥) → IsIgnored d p y
ignored d lawful p y is_a less no_bit u v same =
    assign_visits_law d lawful p is_a u (on_design d v u) on_wakes
    ∙ sym (execution_same d v (on_design d v u) (body_at d p) (outer_on d v u (execution d (body_at d p) v).visits (execute_things d (body_at d p) (lawful.bodies p) (execution_start v) tt))).visits
  where
    on_wakes : (c : Cell) → IsWakeCell (machine d) p c → u c ≡ on_design d v u c
    on_wakes c wake = go (has (all_cells d c.thing) c) refl
      where
        own : In c (all_cells d c.thing) → c.thing ≡ y → ⊥
        own inside e =
            let below : c.thing < length d.signals = subst (λ z. z < length d.signals) (sym e) less in
            no_bit c.place (subst (λ z. IsWakeBit d p (cell z c.place)) e (below, signal_place d c below inside, wake))

        go : (b : Bool) → has (all_cells d c.thing) c ≡ b → u c ≡ (if b then v c else u c)
        go true here = same c (own (in_has (all_cells d c.thing) c here))
        go false here = refl

-- some of the first n fails the test, or all pass it
find_false : (f : ℕ → Bool) (n : ℕ) → ((k : ℕ) × (k < n) × (f k ≡ false)) ⊎ ((k : ℕ) → k < n → f k ≡ true)
find_false f zero = inr (λ k below. absurd (omega (arith, below)))
find_false f (suc n) = ⊎_elim (λ a. inl (a.0, omega (arith, a.1), a.2)) (λ all. ⊎_elim (λ last. inr (λ k below. go all last k below)) (λ none. inl (n, omega arith, none)) (cases_Bool (f n))) (find_false f n)
  where
    go : ((k : ℕ) → k < n → f k ≡ true) → f n ≡ true → (k : ℕ) → k < suc n → f k ≡ true
    go all last k below = ⊎_elim (all k) (λ over. subst (λ z. f z ≡ true) (same k below over) last) (cases_lt k n)
      where
        same : (k : ℕ) → k < suc n → n ≤ k → n ≡ k
        same k below over = omega (arith, below, over)

pub wake_or_ignored_law : (d : Design) → IsLawfulDesign d → WakeOrIgnoredLaw d
wake_or_ignored_law d lawful p y is_a mentioned less =
    ⊎_elim
    (λ a. inl (a.0, (less, a.1, (settling_level (process_at d p) y (not_clocked (process_at d p) is_a) mentioned, a.2))))
    (λ all. inr (ignored d lawful p y is_a less (λ k is. both_ways _ is.2.1 (all k is.1))))
    (find_false (λ k. (machine d).blocking p (cell y k)) (signal_at d y).width)
  where
    not_clocked : (q : Process) → is_assign q ≡ true → IsClocked q → ⊥
    not_clocked (assign i x t counted) a k = k
    not_clocked (comb i wakes s) a k = false≢true a
    not_clocked (clocked i events s) a k = false≢true a

-- ---- where each select is known

pub own_wakes_law : (d : Design) → IsLawfulDesign d → OwnWakesLaw d
own_wakes_law d lawful known p y is_a mentioned mine = ⊎_elim (λ wake. wake) (λ unknown. absurd (both_ways _ (known p y (is_a, mentioned, mine)) unknown)) (own_wake_law d lawful p y (is_a, mentioned, mine))

-- ---- the design

only_process : (p x : ℕ) → body_assigns x (body_at picking p) ≡ true → (p ≡ 0) × (x ≡ 0)
only_process zero x h = (refl, sym (eqb-true 0 x h))
only_process (suc p) x h = absurd (false≢true h)

no_line : (p : ℕ) (x : LineAt) → In x (lines_of (process_at picking p)) → ⊥
no_line zero x h = h
no_line (suc p) x h = h

no_node : (p : ℕ) (x : NodeAt) → In x (nodes_of (process_at picking p)) → ⊥
no_node zero x h = h
no_node (suc p) x h = h

picking_lawful : IsLawfulDesign picking
picking_lawful =
    record {
      signals = refl;
      memories = refl;
      instances = refl;
      bodies = bodies;
      constants = refl;
      aliases = refl;
      well_formed = well_formed;
      lists = lists;
      instance_paths = (λ h. h, tt);
      names = (λ h. h, tt);
      short_instances = refl;
      short_paths = short_paths;
      few_signals = lit≤ tt;
      few_processes = lit≤ tt;
      few_words = lit≤ tt;
      few_instances = lit≤ tt;
      few_statements = lit≤ tt;
      lines_once = λ p q x y a b i e. absurd (no_line p x a);
      nodes_once = λ p q x y a b i e. absurd (no_node p x a);
      one_writer = λ p q x np nq a b. (only_process p x a).0 ∙ sym (only_process q x b).0;
      one_driver = λ p q c a b x y. assign_zero p a ∙ sym (assign_zero q b);
      apart = λ p q x a b c. subst (λ z. IsAssign (process_at picking z)) (sym (only_process q x c).0) tt;
      no_input = λ p s a. subst (λ z. (signal_at picking z).input ≡ false) (sym (only_process p s a).1) refl;
      not_both = λ p q x a b. not_queued q x b;
      targets = targets;
      comb_writes = λ p x c a. absurd (no_comb p x c a);
      reads_no_own = reads_no_own;
      events = events;
    }
  where
    bodies : (p : ℕ) → is_body picking (body_at picking p) ≡ true
    bodies zero = refl
    bodies (suc p) = refl

    well_formed : (p : ℕ) → is_well_formed_body picking (body_at picking p) ≡ true
    well_formed zero = refl
    well_formed (suc p) = refl

    lists : (p : ℕ) → list_all (λ x. nat_lt x (length picking.signals)) (wakes_of (process_at picking p)) ≡ true
    lists zero = refl
    lists (suc p) = refl

    short_paths : (x : ℕ) → is_number picking x ≡ true → length (path_of picking x) ≤ 256
    short_paths zero h = lit≤ tt
    short_paths (suc x) h = absurd (omega (arith, ltb-true (suc x) 1 h))

    assign_zero : (p : ℕ) → IsAssign (process_at picking p) → p ≡ 0
    assign_zero zero a = refl
    assign_zero (suc p) a = absurd a

    not_queued : (q x : ℕ) → body_queues x (body_at picking q) ≡ true → ⊥
    not_queued zero x b = false≢true b
    not_queued (suc q) x b = false≢true b

    targets : (p : ℕ) → target_once (process_at picking p) picking ≡ true
    targets zero = refl
    targets (suc p) = refl

    no_comb : (p x : ℕ) → IsComb (process_at picking p) → body_assigns x (body_at picking p) ≡ true → ⊥
    no_comb zero x c a = c
    no_comb (suc p) x c a = false≢true a

    reads_no_own : (p : ℕ) (c : Cell) → IsAssign (process_at picking p) → any_set (λ b x t. may_write picking x c && may_read picking t c) (body_at picking p) ≡ false
    reads_no_own zero c a = and_right (may_write picking (all_of 0) c) ((c.thing == 0) && false) (and_right (c.thing == 0) false refl)
    reads_no_own (suc p) c a = refl

    events : (p : ℕ) → list_all (λ e. nat_lt e.1 (length picking.signals) && ((signal_at picking e.1).width == 1)) (events_of (process_at picking p)) ≡ true
    events zero = refl
    events (suc p) = refl

driven : (k : ℕ) → IsWakeBit picking 0 (cell 0 k) → ⊥
driven k is = false≢true (sym is.2.1 ∙ lt-ltb k 2 is.1)

pub picking_example : IsPickingExample
picking_example =
    record {
      lawful = picking_lawful;
      is_assign = refl;
      mentions = refl;
      assigns = refl;
      same_value = λ v. refl;
      no_wake_bit = driven;
      no_own_wakes = λ wakes. let w = wakes 0 0 refl refl refl in driven w.0 w.1;
    }
