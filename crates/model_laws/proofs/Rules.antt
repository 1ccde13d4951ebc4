-- Each rule of what is clear gives the things of a signal or memory values that one state has.
use Rattle.std.proofs.Common.{◌≡◌, ◌≢◌, ◌⊎◌, inl, inr, ⊎_elim, ℕ, zero, suc, ◌<◌, ◌≤◌, ◌&&◌, Bool, true, false, List, [], ◌∷◌, length, map, refl, sym, ap, subst, ◌∙◌, arith}
use Rattle.std.specs.Prelude.{nat_le, slice_index_or}
use Rattle.std.specs.List.{list_all, list_any, range_with_len}
use Rattle.std.proofs.lemmas.Bool.{and_parts, both_ways, cases_Bool, cases_lt, false≢true, leb-true, or_cases}
use Rattle.design_model.specs.event_machine.Cell.{Cell, Values, put_all}
use Rattle.design_model.specs.event_machine.Habit.{Habit}
use Rattle.design_model.specs.four_state.declared.bit.Bit.{Bit}
use Rattle.design_model.specs.Tree.{Process, assign, clocked, comb}
use Rattle.design_model.specs.Design.{Design, IsAssign, IsClocked, IsComb, IsThing, Thing, a_signal, a_word, body, body_at, cell, is_assign, no_process, owner, process_at, signal_at, thing_bits}
use Rattle.design_model.specs.Mentions.{any_set, body_assigns, may_write, target_names}
use Rattle.design_model.specs.Execution.{execution}
use Rattle.design_model.specs.Reads.{Agrees, PartialMap}
use Rattle.design_model.specs.Shows.{BoundDump}
use Rattle.design_model.specs.MayMove.{CanWakeAt, IsCleanAt}
use Rattle.design_model.specs.Clear.{EntryFrom, IsNetValue, all_writes, clear_in, driven_writes, is_driven, of_assigns, of_clean, of_comb, of_dump, of_unwoken}
use Rattle.design_model.specs.Lawful.{IsLawfulDesign}
use Rattle.design_model.proofs.AssignLaws.{has_bit}
use Rattle.design_model.proofs.Assigns.{is_assign_from}
use Rattle.design_model.proofs.Bound.{clear_in-thing, in_bound}
use Rattle.design_model.proofs.Lawful.{any_weaker, edge_one, names_from}
use Rattle.design_model.proofs.Sound.{cells_eq}
use Rattle.model_laws.proofs.States.{Serves, middle, with_away, with_here, with_thing}

-- a process is an Assign, a Comb or a Clocked
kind_of : (q : Process) → IsAssign q ⊎ (IsComb q ⊎ IsClocked q)
kind_of (assign i x t c) = inl tt
kind_of (comb i wakes s) = inr (inl tt)
kind_of (clocked i events s) = inr (inr tt)

not_comb : (q : Process) → IsAssign q → IsComb q → ⊥
not_comb (assign i x t c) a k = k
not_comb (comb i wakes s) a k = a
not_comb (clocked i events s) a k = a

not_clocked : (q : Process) → IsAssign q → IsClocked q → ⊥
not_clocked (assign i x t c) a k = k
not_clocked (comb i wakes s) a k = a
not_clocked (clocked i events s) a k = a

comb_clocked : (q : Process) → IsComb q → IsClocked q → ⊥
comb_clocked (assign i x t c) a k = a
comb_clocked (comb i wakes s) a k = k
comb_clocked (clocked i events s) a k = a

-- a test that some process passes
any_index : (f : Process → Bool) (ps : List Process) → list_any f ps ≡ true → (j : ℕ) × (f (slice_index_or ps j no_process) ≡ true)
any_index f [] h = absurd (false≢true h)
any_index f (p ∷ ps) h = ⊎_elim (λ e. (0, e)) (λ k. let r = any_index f ps k in (suc r.0, r.1)) (or_cases (f p) (list_any f ps) h)

module _ (d : Design) (lawful : IsLawfulDesign d) where
  -- an Assign drives the signal or memory
  abbrev IsDriver : ℕ → ℕ → Type 0
  IsDriver o p = IsAssign (process_at d p) × (body_assigns o (body_at d p) ≡ true)

  -- another process assigns it
  abbrev IsWriter : ℕ → ℕ → Type 0
  IsWriter o p = (IsAssign (process_at d p) → ⊥) × (body_assigns o (body_at d p) ≡ true)

  -- an Assign may write the cell
  abbrev is_driven_cell : Cell → Bool
  is_driven_cell c = list_any (λ q. is_assign q && any_set (λ b y t. may_write d y c) (body q)) d.processes

  -- a driven signal has a driver
  driver_of : (s : ℕ) → s < length d.signals → is_driven d s ≡ true → (p : ℕ) × IsDriver s p
  driver_of s less driven =
      let found = any_index (λ q. is_assign q && any_set (λ b y t. may_write d y (cell s 0)) (body q)) d.processes (first (signal_at d s).width (has_bit d lawful s less) driven) in
      let both = and_parts (is_assign (process_at d found.0)) (any_set (λ b y t. may_write d y (cell s 0)) (body_at d found.0)) found.1 in
      (found.0, (is_assign_from (process_at d found.0) both.0, any_weaker (λ b y t. may_write d y (cell s 0)) (λ b y t. target_names s y) (λ b y t e. names_from d y (cell s 0) e) (body_at d found.0) both.1))
    where
      first : (w : ℕ) → 1 ≤ w → list_all is_driven_cell (map (cell s) (range_with_len 0 w)) ≡ true → is_driven_cell (cell s 0) ≡ true
      first zero one h = absurd (omega (arith, one))
      first (suc w) one h = (and_parts (is_driven_cell (cell s 0)) _ h).0

  module _ (h : Habit) (dump : BoundDump) (t : ℕ) (start : PartialMap) (u : Values Bit) (au : Agrees d start u) (things : (x : Thing) (bits : List Bit) → start x bits → IsThing d x) (n : ℕ) (v : Values Bit) (av : Agrees d (clear_in d h dump t start n) v) where
    abbrev K : PartialMap
    K = clear_in d h dump t start n

    abbrev Next : PartialMap
    Next = clear_in d h dump t start (suc n)

    -- the state on which clean block p with trigger c is evaluated
    abbrev entry : Cell → Values Bit
    entry c = with_thing c.thing u (dump.values t)

    entry_agrees : (p : ℕ) (c : Cell) → IsCleanAt d dump t p c → Agrees d (EntryFrom d h dump t start p c) (with_thing c.thing u (dump.values t))
    entry_agrees p c clean x bits (inl new) = cells_eq d (with_thing c.thing u (dump.values t)) (dump.values t) x (λ b is. with_here c.thing u (dump.values t) b (is ∙ ap owner new.0)) ∙ sym new.1
    entry_agrees p c clean x bits (inr old) = cells_eq d (with_thing c.thing u (dump.values t)) u x (λ b is. with_away c.thing u (dump.values t) b (λ e. apart x (things x bits old.2) old.0 (sym is ∙ e))) ∙ au x bits old.2
      where
        signal : c.thing < length d.signals
        signal = (edge_one d (process_at d p) clean.can_wake.0.0 c clean.can_wake.0.1 (lawful.events p)).1

        apart : (x : Thing) → IsThing d x → x ≢ a_signal c.thing → owner x ≡ c.thing → ⊥
        apart (a_signal s) is ne e = ne (ap a_signal e)
        apart (a_word m i) is ne e = let most = leb-true (length d.signals) m (and_parts (nat_le (length d.signals) m) _ is.0).0 in omega (arith, most, signal, e)

    module _ (o : ℕ) (unbound : o < length d.signals → dump.bound o ≡ false) where
      -- no rule gives the dump's value
      no_dump : (x : Thing) (s : ℕ) → owner x ≡ o → x ≡ a_signal s → dump.bound s ≡ true → s < length d.signals → ⊥
      no_dump x s own is bound less =
          let same : s ≡ o = sym (ap owner is) ∙ own in
          both_ways (dump.bound o) (unbound (subst (λ z. z < length d.signals) same less)) (subst (λ z. dump.bound z ≡ true) same bound)

      -- an Assign drives it
      by_driver : (p : ℕ) → IsDriver o p → Serves d Next o (put_all v (driven_writes d v o d.processes))
      by_driver p is x bits own (of_dump s w shown bound less e) = absurd (no_dump x s own refl bound less)
      by_driver p is x bits own (of_assigns s w free net) = subst (λ z. thing_bits d (put_all v (driven_writes d v z d.processes)) (a_signal s) ≡ w) own (net.gives v av)
      by_driver p is x bits own (of_comb q s w free made) = absurd (not_comb (process_at d q) (lawful.apart p q o is.0 is.1 (subst (λ z. body_assigns z (body_at d q) ≡ true) own made.target)) made.is_comb)
      by_driver p is x bits own (of_unwoken q y w window free target cannot old) = absurd (not_clocked (process_at d q) (lawful.apart p q o is.0 is.1 (subst (λ z. body_assigns z (body_at d q) ≡ true) own target.target)) target.is_clocked)
      by_driver p is x bits own (of_clean q c y w window free written) = absurd (not_clocked (process_at d q) (lawful.apart p q o is.0 is.1 (subst (λ z. body_assigns z (body_at d q) ≡ true) own written.writer.target)) written.writer.is_clocked)

      -- no Assign does
      module _ (no_driver : (p : ℕ) → IsDriver o p → ⊥) where
        no_net : (s : ℕ) (bits : List Bit) → s ≡ o → IsNetValue d K s bits → ⊥
        no_net s bits own net = let q = driver_of s net.is_signal net.driven in no_driver q.0 (q.1.0, subst (λ z. body_assigns z (body_at d q.0) ≡ true) own q.1.1)

        -- nor does another process assign it
        by_none : ((p : ℕ) → IsWriter o p → ⊥) → Serves d Next o v
        by_none no_writer x bits own (of_dump s w shown bound less e) = absurd (no_dump x s own refl bound less)
        by_none no_writer x bits own (of_assigns s w free net) = absurd (no_net s w own net)
        by_none no_writer x bits own (of_comb q s w free made) = absurd (no_writer q ((λ a. not_comb (process_at d q) a made.is_comb), subst (λ z. body_assigns z (body_at d q) ≡ true) own made.target))
        by_none no_writer x bits own (of_unwoken q y w window free target cannot old) = absurd (no_writer q ((λ a. not_clocked (process_at d q) a target.is_clocked), subst (λ z. body_assigns z (body_at d q) ≡ true) own target.target))
        by_none no_writer x bits own (of_clean q c y w window free written) = absurd (no_writer q ((λ a. not_clocked (process_at d q) a written.writer.is_clocked), subst (λ z. body_assigns z (body_at d q) ≡ true) own written.writer.target))

        -- process p does
        module _ (p : ℕ) (writer : IsWriter o p) where
          same_comb : (q s : ℕ) → s ≡ o → IsComb (process_at d q) → body_assigns s (body_at d q) ≡ true → q ≡ p
          same_comb q s own is target = lawful.one_writer q p o (λ a. not_comb (process_at d q) a is) writer.0 (subst (λ z. body_assigns z (body_at d q) ≡ true) own target) writer.1

          same_clocked : (q s : ℕ) → s ≡ o → IsClocked (process_at d q) → body_assigns s (body_at d q) ≡ true → q ≡ p
          same_clocked q s own is target = lawful.one_writer q p o (λ a. not_clocked (process_at d q) a is) writer.0 (subst (λ z. body_assigns z (body_at d q) ≡ true) own target) writer.1

          by_comb : IsComb (process_at d p) → Serves d Next o (put_all v (execution d (body_at d p) v).blocking)
          by_comb is x bits own (of_dump s w shown bound less e) = absurd (no_dump x s own refl bound less)
          by_comb is x bits own (of_assigns s w free net) = absurd (no_net s w own net)
          by_comb is x bits own (of_comb q s w free made) = subst (λ z. thing_bits d (put_all v (execution d (body_at d z) v).blocking) (a_signal s) ≡ w) (same_comb q s own made.is_comb made.target) (made.gives v av)
          by_comb is x bits own (of_unwoken q y w window free target cannot old) = absurd (comb_clocked (process_at d p) is (subst (λ z. IsClocked (process_at d z)) (same_clocked q (owner y) own target.is_clocked target.target) target.is_clocked))
          by_comb is x bits own (of_clean q c y w window free written) = absurd (comb_clocked (process_at d p) is (subst (λ z. IsClocked (process_at d z)) (same_clocked q (owner y) own written.writer.is_clocked written.writer.target) written.writer.is_clocked))

          -- a Clocked that is not clean leaves it
          by_unclean : IsClocked (process_at d p) → ((c : Cell) → IsCleanAt d dump t p c → ⊥) → Serves d Next o u
          by_unclean is unclean x bits own (of_dump s w shown bound less e) = absurd (no_dump x s own refl bound less)
          by_unclean is unclean x bits own (of_assigns s w free net) = absurd (no_net s w own net)
          by_unclean is unclean x bits own (of_comb q s w free made) = absurd (comb_clocked (process_at d p) (subst (λ z. IsComb (process_at d z)) (same_comb q s own made.is_comb made.target) made.is_comb) is)
          by_unclean is unclean x bits own (of_unwoken q y w window free target cannot old) = au y w old
          by_unclean is unclean x bits own (of_clean q c y w window free written) = absurd (unclean c (subst (λ z. IsCleanAt d dump t z c) (same_clocked q (owner y) own written.writer.is_clocked written.writer.target) written.is_clean))

          -- a clean one writes it
          by_clean : IsClocked (process_at d p) → (c : Cell) → IsCleanAt d dump t p c → Serves d Next o (put_all u (all_writes (execution d (body_at d p) (with_thing c.thing u (dump.values t)))))
          by_clean is c clean x bits own (of_dump s w shown bound less e) = absurd (no_dump x s own refl bound less)
          by_clean is c clean x bits own (of_assigns s w free net) = absurd (no_net s w own net)
          by_clean is c clean x bits own (of_comb q s w free made) = absurd (comb_clocked (process_at d p) (subst (λ z. IsComb (process_at d z)) (same_comb q s own made.is_comb made.target) made.is_comb) is)
          by_clean is c clean x bits own (of_unwoken q y w window free target cannot old) = absurd (cannot (c, subst (λ z. CanWakeAt d dump t c z) (sym (same_clocked q (owner y) own target.is_clocked target.target)) clean.can_wake))
          by_clean is c clean x bits own (of_clean q b y w window free written) =
              let same : q ≡ p = same_clocked q (owner y) own written.writer.is_clocked written.writer.target in
              let trigger : b ≡ c = clean.alone b (subst (λ z. CanWakeAt d dump t b z) same written.is_clean.can_wake) in
              subst (λ a. thing_bits d (put_all u (all_writes (execution d (body_at d p) (with_thing a.thing u (dump.values t))))) y ≡ w) trigger
              (subst (λ z. thing_bits d (put_all u (all_writes (execution d (body_at d z) (with_thing b.thing u (dump.values t))))) y ≡ w) same
              ((written.gives (with_thing b.thing u (dump.values t)) (entry_agrees q b written.is_clean)).is u (λ z old. au y z old)))

          by_writer : ((f : Values Bit) → Serves d Next o f → ⊥) → ⊥
          by_writer done =
              ⊎_elim writer.0
              (⊎_elim (λ is. done (put_all v (execution d (body_at d p) v).blocking) (by_comb is))
              (λ is. middle ((c : Cell) × IsCleanAt d dump t p c)
              (⊎_elim (λ a. done (put_all u (all_writes (execution d (body_at d p) (with_thing a.0.thing u (dump.values t))))) (by_clean is a.0 a.1)) (λ unclean. done u (by_unclean is (λ c clean. unclean (c, clean)))))))
              (kind_of (process_at d p))

      by_rules : ((f : Values Bit) → Serves d Next o f → ⊥) → ⊥
      by_rules done =
          middle ((p : ℕ) × IsDriver o p)
          (⊎_elim (λ a. done (put_all v (driven_writes d v o d.processes)) (by_driver a.0 a.1))
          (λ no_driver. middle ((p : ℕ) × IsWriter o p)
          (⊎_elim (λ a. by_writer (λ p k. no_driver (p, k)) a.0 a.1 done)
          (λ no_writer. done v (by_none (λ p k. no_driver (p, k)) (λ p k. no_writer (p, k)))))))

    -- some state has the values of the next round of the things with this number
    pub served : (o : ℕ) → ((f : Values Bit) → Serves d (clear_in d h dump t start (suc n)) o f → ⊥) → ⊥
    served o done = ⊎_elim of_signal (λ most. by_rules o (λ less. absurd (omega (arith, less, most))) done) (cases_lt o (length d.signals))
      where
        dumped : o < length d.signals → dump.bound o ≡ true → Serves d (clear_in d h dump t start (suc n)) o (dump.values t)
        dumped less bound (a_signal s) bits own k = sym (in_bound d h dump t start (suc n) s bits k (subst (λ z. dump.bound z ≡ true) (sym own) bound))
        dumped less bound (a_word m i) bits own k = absurd (let most = leb-true (length d.signals) m (and_parts (nat_le (length d.signals) m) _ (clear_in-thing d h dump t start (suc n) (a_word m i) bits k).0).0 in omega (arith, most, less, own))

        of_signal : o < length d.signals → ⊥
        of_signal less = ⊎_elim (λ bound. done (dump.values t) (dumped less bound)) (λ free. by_rules o (λ below. free) done) (cases_Bool (dump.bound o))
