-- What a closing step reports is reasoned, where what is clear is sure: what a block reaches is hit, and each doubt is one.
use Rattle.std.proofs.Common.{◌≡◌, ◌≢◌, ◌⊎◌, inl, inr, ⊎_elim, ℕ, zero, suc, ◌-◌, ◌<◌, ◌≤◌, Bool, true, false, not, ◌&&◌, ◌||◌, ◌==◌, List, [], ◌∷◌, ◌++◌, map, length, refl, sym, ap, ap₂, subst, ◌∙◌, arith, Option, Some, None, if◌then◌else◌}
use Rattle.std.specs.Prelude.{nat_le}
use Rattle.std.specs.List.{range_with_len}
use Rattle.std.proofs.lemmas.Bool.{and_parts, and_from, and_cases, both_ways, cases_Bool, eq-eqb, eqb-true, false_from_ne_true, leb-true, lt-ltb, ltb-true, not-true, not-false, or_cases, or_left, or_parts}
use Rattle.event_machine.specs.Cell.{Cell, Values}
use Rattle.event_machine.specs.Habit.{Habit}
use Rattle.event_machine.specs.Laws.{EarlyLaw}
use Rattle.design_model.specs.four_state.declared.bit.Bit.{Bit}
use Rattle.design_model.specs.declared.point.Point.{Point}
use Rattle.design_model.specs.declared.point.Point.TheVariants.{Line as line_point, Logic as logic_point, Toggle as toggle_point, State as state_point, Arc as arc_point, Word as word_point}
use Rattle.design_model.specs.Design.{Design, In, IsThing, Thing, a_signal, a_word, body_at, cell, cells, memory_at, owner, process_at, signal_at, signal_cells, thing_bits}
use Rattle.design_model.specs.Execution.{Visit}
use Rattle.design_model.specs.Machine.{machine}
use Rattle.design_model.specs.Shows.{BoundDump, IsWindow}
use Rattle.design_model.specs.MayMove.{IsCleanAt}
use Rattle.design_model.specs.Early.{IsEarlyAt}
use Rattle.design_model.specs.Points.{IsBlock}
use Rattle.design_model.specs.Reads.{ReadsWithin, PartialMap, ReadsFrom}
use Rattle.design_model.specs.Clear.{EntryFrom, clear, clear_before}
use Rattle.design_model.specs.Open.{IsOpenFor, IsSurelyOpen, IsVisitOf, KnownOnEntry, ReachesFrom}
use Rattle.design_model.specs.Doubt.{BlockDoubt, IsInDoubt, of_block}
use Rattle.replay_model.proofs.Causes.{doubt_at_start, doubt_early, doubt_unclean}
use Rattle.design_model.proofs.Bound.{clear-thing}
use Rattle.design_model.proofs.Lawful.{edge_one}
use Rattle.replay_model.proofs.AskedLaws.{AskedLaws}
use Rattle.body_replay.specs.Contract.{Doubted, HasHitNote, IsUnsure, Note, clean, spot_at, sure_in}
use Rattle.body_replay.specs.Replay.{Spot, line, node, spot_of, word_read, word_write}
use Rattle.body_replay.specs.Runs.{HasDoubtNote, Runs, seen_of}
use Rattle.body_replay.specs.Store.{Kept}
use Rattle.replay_model.specs.Sets.{AreSets, Sets}
use Rattle.replay_model.specs.Tables.{Tables}
use Rattle.replay_model.specs.Step.{Closing, Replay}
use Rattle.replay_model.specs.Laws.{IsReplayOf, closing_at}
use Rattle.replay_model.proofs.Rounds.{single_bound}
use Rattle.replay_model.proofs.Clocked.{at_false, at_true}
use Rattle.replay_model.proofs.Grows.{Within, open_less, sample, sample_agrees, surely_more, visits_more, reads_within}
use Rattle.replay_model.proofs.Settling.{in_signal, in_word}
use Rattle.replay_model.proofs.Trace.{CleanRun, WeakRun}

-- maps that agree on each element of a list
pub map_same : {A : Type 0} (f g : Cell → A) (cs : List Cell) → ((c : Cell) → In c cs → f c ≡ g c) → map f cs ≡ map g cs
map_same f g [] h = refl
map_same f g (c ∷ cs) h = ap₂ (λ x xs. x ∷ xs) (h c (inl refl)) (map_same f g cs (λ b x. h b (inr x)))

pub map_sure : (f : Kept) (g : Values Bit) (cs : List Cell) → ((c : Cell) → In c cs → f c ≡ Some (g c)) → map f cs ≡ map Some (map g cs)
map_sure f g [] h = refl
map_sure f g (c ∷ cs) h = ap₂ (λ x xs. x ∷ xs) (h c (inl refl)) (map_sure f g cs (λ b x. h b (inr x)))

-- a bit of what is wholly sure is sure
pub sure_bit : (k : Kept) (cs : List Cell) (bits : List Bit) → map k cs ≡ map Some bits → (c : Cell) → In c cs → k c ≡ None → ⊥
sure_bit k [] bits e c h none = absurd h
sure_bit k (b ∷ cs) [] e c h none = absurd (cc)
sure_bit k (b ∷ cs) (x ∷ bits) e c (inl q) none = some_none (k c) x (ap k (sym q) ∙ ap (head_or None) e) none
  where
    head_or : Option Bit → List (Option Bit) → Option Bit
    head_or o [] = o
    head_or o (p ∷ ps) = p

    some_none : (o : Option Bit) (x : Bit) → o ≡ Some x → o ≡ None → ⊥
    some_none o x e f = cc
sure_bit k (b ∷ cs) (x ∷ bits) e c (inr q) none = sure_bit k cs bits (ap tail_of e) c q none
  where
    tail_of : List (Option Bit) → List (Option Bit)
    tail_of [] = []
    tail_of (p ∷ ps) = ps

pub in_owner : (d : Design) (x : Thing) (c : Cell) → In c (cells d x) → c.thing ≡ owner x
in_owner d (a_signal s) c h = (in_signal d s c h).0
in_owner d (a_word m i) c h = in_word m (Rattle.std.proofs.Common.◌*◌ i (memory_at d m).width) (range_with_len 0 (memory_at d m).width) c h

-- what a visit of a point counts for
pub visit_spot : (x : Point) (y : Visit) → IsVisitOf x y → (s : Spot) × (spot_of y ≡ Some s) × (spot_at x ≡ Some s)
visit_spot (line_point p n at w) y is = (line n, ap spot_of is, refl)
visit_spot (logic_point p n at op c) y is = (node n c, ap spot_of is, refl)
visit_spot (toggle_point s i rise) y is = absurd is
visit_spot (state_point i name s state bits) y is = absurd is
visit_spot (arc_point i name s from to old new) y is = absurd is
visit_spot (word_point m k true) y is = (word_write m k, ap spot_of is, refl)
visit_spot (word_point m k false) y is = (word_read m k, ap spot_of is.1, refl)

pub surely_spot : (d : Design) (K : PartialMap) (b : Rattle.design_model.specs.Tree.Stmt) (x : Point) → IsSurelyOpen d K b x → (s : Spot) × (spot_at x ≡ Some s)
surely_spot d K b (line_point p n at w) is = (line n, refl)
surely_spot d K b (logic_point p n at op c) is = (node n c, refl)
surely_spot d K b (toggle_point s i rise) is = absurd is
surely_spot d K b (state_point i name s state bits) is = absurd is
surely_spot d K b (arc_point i name s from to old new) is = absurd is
surely_spot d K b (word_point m k true) is = (word_write m k, refl)
surely_spot d K b (word_point m k false) is = (word_read m k, refl)

module _ (d : Design) (h : Habit) (dump : BoundDump) (run : Runs) (tables : Tables) (points : List Point) (is : IsReplayOf d h dump run tables points) (early_law : EarlyLaw (machine d)) (asked : AskedLaws d) (t : ℕ) (window : IsWindow dump (suc t)) (sets : Sets) (are : AreSets d h dump (suc t) sets) (a : Replay) (at_start : (x : Thing) (bits : List Bit) → clear d h dump t x bits → sure_in d a.kept x bits) where
  abbrev st : Closing
  st = closing_at d dump run tables sets t a

  last : suc t - 1 ≡ t
  last = omega arith

  -- what was clear at the start is sure there
  start_sure : (x : Thing) (bits : List Bit) → clear_before d h dump (suc t) x bits → sure_in d a.kept x bits
  start_sure x bits k = at_start x bits (subst (λ u. clear d h dump u x bits) last k)

  apart : (s : ℕ) → s < length d.signals → (y : Thing) → y ≢ a_signal s → IsThing d y → owner y ≢ s
  apart s below (a_signal q) ne is_thing e = ne (ap a_signal e)
  apart s below (a_word m i) ne is_thing e = omega (arith, e, below, leb-true (length d.signals) m (and_parts (nat_le (length d.signals) m) _ is_thing.0).0)

  module _ (p : ℕ) (ns : List Note) (k : CleanRun d is.lawful h early_law dump run is.runs tables t sets are a p ns) where
    abbrev is_clean : IsCleanAt d dump (suc t) p (cell k.trigger 0)
    is_clean = are.trigger p k.trigger k.is_trigger

    one : ((cell k.trigger 0).place ≡ 0) × (k.trigger < length d.signals) × ((signal_at d k.trigger).width ≡ 1)
    one = edge_one d (process_at d p) (are.trigger p k.trigger k.is_trigger).can_wake.0.0 (cell k.trigger 0) (are.trigger p k.trigger k.is_trigger).can_wake.0.1 (is.lawful.events p)

    shown_trigger : (c : Cell) → In c (signal_cells d k.trigger) → seen_of k.store c ≡ Some (dump.values (suc t) c)
    shown_trigger c x =
        let at = in_signal d k.trigger c x in
        k.reads c ∙ at_true (λ z. z ≡ Some (dump.values (suc t) c)) _ _ _ (or_left (c.thing == k.trigger) _ (eq-eqb c.thing k.trigger at.0))
        (at_true (λ z. z ≡ Some (dump.values (suc t) c)) _ _ _ (eq-eqb c.thing k.trigger at.0)
        (at_true (λ z. z ≡ Some (dump.values (suc t) c)) _ _ _ (and_from (dump.bound c.thing) _ (subst (λ z. dump.bound z ≡ true) (sym at.0) (single_bound d is.lawful dump (suc t) (cell k.trigger 0) is_clean.is_single)) (lt-ltb _ _ (subst (λ z. c.place < (signal_at d z).width) (sym at.0) at.1))) refl))

    not_hidden : (c : Cell) → c.thing ≢ k.trigger → (IsEarlyAt d h dump (suc t) p (cell k.trigger 0) c.thing → ⊥) → seen_of k.store c ≡ a.kept c
    not_hidden c other late =
        k.reads c ∙ at_false (λ z. z ≡ a.kept c) _ _ _ (Rattle.std.proofs.lemmas.Bool.or_from (c.thing == k.trigger) _ (Rattle.std.proofs.lemmas.Bool.ne_eqb c.thing k.trigger other) (false_from_ne_true _ (λ e. late ((are.early p (cell k.trigger 0) is_clean c.thing).0 e)))) refl

    -- what the block knows on entry is sure as it reads
    pub entry_within : Within (KnownOnEntry d h dump (suc t) p) (sure_in d (seen_of k.store))
    entry_within x bits known = go (subst (λ c. EntryFrom d h dump (suc t) (clear_before d h dump (suc t)) p c x bits) (is_clean.alone known.0 known.1.can_wake) known.2)
      where
        of_trigger : (y : Thing) → y ≡ a_signal k.trigger → map (seen_of k.store) (cells d y) ≡ map Some (thing_bits d (dump.values (suc t)) y)
        of_trigger y e = subst (λ z. map (seen_of k.store) (cells d z) ≡ map Some (thing_bits d (dump.values (suc t)) z)) (sym e) (map_sure (seen_of k.store) (dump.values (suc t)) (signal_cells d k.trigger) shown_trigger)

        go : EntryFrom d h dump (suc t) (clear_before d h dump (suc t)) p (cell k.trigger 0) x bits → sure_in d (seen_of k.store) x bits
        go (inl e) = of_trigger x e.0 ∙ ap (map Some) (sym e.1)
        go (inr e) =
            map_same (seen_of k.store) a.kept (cells d x)
            (λ c y. not_hidden c (λ q. apart k.trigger one.1 x e.0 (clear-thing d h dump t x bits (subst (λ u. clear d h dump u x bits) last e.2)) (sym (in_owner d x c y) ∙ q)) (λ q. e.1 (subst (IsEarlyAt d h dump (suc t) p (cell k.trigger 0)) (in_owner d x c y) q)))
            ∙ start_sure x bits e.2

    -- what it reaches is reported to be hit
    pub clean_reached : (x : Point) → ReachesFrom d (KnownOnEntry d h dump (suc t) p) (body_at d p) x → (s : Spot) × (spot_at x ≡ Some s) × HasHitNote s ns
    clean_reached x (inl y) =
        let s = visit_spot x y.0 y.1 in
        (s.0, s.2, subst (HasHitNote s.0) (sym k.notes) (is.runs.prefix_hit p k.store (suc t) s.0 y.0 s.1 (visits_more d (KnownOnEntry d h dump (suc t) p) (sure_in d (seen_of k.store)) entry_within (sample (seen_of k.store)) (sample_agrees d (seen_of k.store)) (body_at d p) y.0 y.2)))
    clean_reached x (inr surely) =
        let s = surely_spot d (KnownOnEntry d h dump (suc t) p) (body_at d p) x surely in
        (s.0, s.1, subst (HasHitNote s.0) (sym k.notes) (is.runs.surely_open_hit p k.store (suc t) x s.0 s.1 (surely_more d (KnownOnEntry d h dump (suc t) p) (sure_in d (seen_of k.store)) entry_within (sample (seen_of k.store)) (sample_agrees d (seen_of k.store)) (body_at d p) x surely)))

    -- and each doubt that it reports is one
    pub clean_doubt : (x : Point) (s : Spot) (y : Doubted) → spot_at x ≡ Some s → IsBlock d x p → HasDoubtNote s y ns → (y.time ≡ suc t) × IsInDoubt d h dump x (suc t) y.thing
    clean_doubt x s y spot block told = (blame.0, of_block p window block open_for (why (cases_Bool (sets.early p y.thing))))
      where
        note : HasDoubtNote s y (run p k.store (clean (suc t))).notes
        note = subst (HasDoubtNote s y) k.notes told

        blame : (y.time ≡ suc t) × IsUnsure d (seen_of k.store) y.thing × Rattle.design_model.specs.Paths.ReadsUnwritten d (body_at d p) y.thing
        blame = is.runs.blames p k.store (suc t) s y (subst (HasDoubtNote s y) k.notes told)

        open_for : IsOpenFor d h dump (suc t) p x
        open_for = inl ((cell k.trigger 0, is_clean.can_wake), inr (open_less d (KnownOnEntry d h dump (suc t) p) (sure_in d (seen_of k.store)) entry_within (sample (seen_of k.store)) (sample_agrees d (seen_of k.store)) (body_at d p) x (is.runs.doubt_open p k.store (suc t) x s y spot (subst (HasDoubtNote s y) k.notes told))))

        untold : ReadsWithin d (KnownOnEntry d h dump (suc t) p) (body_at d p) → ⊥
        untold f = is.runs.no_doubt p k.store (suc t) (sample (seen_of k.store), sample_agrees d (seen_of k.store)) (reads_within d (KnownOnEntry d h dump (suc t) p) (sure_in d (seen_of k.store)) (body_at d p) entry_within f) s y (subst (HasDoubtNote s y) k.notes told)

        thing : Thing
        thing = (is.runs.blames p k.store (suc t) s y (subst (HasDoubtNote s y) k.notes told)).1.0

        from : (b : (y.time ≡ suc t) × IsUnsure d (seen_of k.store) y.thing × Rattle.design_model.specs.Paths.ReadsUnwritten d (body_at d p) y.thing) → ReadsFrom d (KnownOnEntry d h dump (suc t) p) (body_at d p) b.1.0
        from b = inr (untold, subst (λ z. Rattle.design_model.specs.Mentions.body_mentions z (body_at d p) ≡ true) (sym b.1.1) (asked.path_mentions p y.thing b.2), b.1.2)

        late : (b : (y.time ≡ suc t) × IsUnsure d (seen_of k.store) y.thing × Rattle.design_model.specs.Paths.ReadsUnwritten d (body_at d p) y.thing) → sets.early p y.thing ≡ false → BlockDoubt d h dump (suc t) y.thing p
        late b e =
            doubt_at_start b.1.0 b.1.2 b.1.1 (cell k.trigger 0, is_clean.can_wake) (from b) (λ c c_clean q. trigger_sure (q ∙ ap (λ z. a_signal z.thing) (is_clean.alone c c_clean.can_wake)))
            (λ v. sure_bit a.kept (cells d b.1.0) v.0 (start_sure b.1.0 v.0 v.1) b.1.3.0 b.1.3.1 (sym (not_hidden b.1.3.0 other not_early) ∙ b.1.3.2))
          where
            trigger_sure : b.1.0 ≡ a_signal k.trigger → ⊥
            trigger_sure q =
                sure_bit (seen_of k.store) (signal_cells d k.trigger) (thing_bits d (dump.values (suc t)) (a_signal k.trigger)) (map_sure (seen_of k.store) (dump.values (suc t)) (signal_cells d k.trigger) shown_trigger) b.1.3.0 (subst (λ z. In b.1.3.0 (cells d z)) q b.1.3.1) b.1.3.2

            other : b.1.3.0.thing ≢ k.trigger
            other q = apart k.trigger one.1 b.1.0 trigger_sure b.1.2 (sym (in_owner d b.1.0 b.1.3.0 b.1.3.1) ∙ q)

            not_early : IsEarlyAt d h dump (suc t) p (cell k.trigger 0) b.1.3.0.thing → ⊥
            not_early q = both_ways _ e ((are.early p (cell k.trigger 0) is_clean y.thing).1 (subst (IsEarlyAt d h dump (suc t) p (cell k.trigger 0)) (in_owner d b.1.0 b.1.3.0 b.1.3.1 ∙ b.1.1) q))

        why : (sets.early p y.thing ≡ true) ⊎ (sets.early p y.thing ≡ false) → BlockDoubt d h dump (suc t) y.thing p
        why (inl e) = doubt_early blame.1.0 (cell k.trigger 0) blame.1.1 is_clean (from blame) ((are.early p (cell k.trigger 0) is_clean y.thing).0 e)
        why (inr e) = late blame e

  -- so is each of a weak run
  pub weak_doubt : (p : ℕ) (ns : List Note) → WeakRun d is.lawful h early_law dump run is.runs tables t sets are a p ns → (x : Point) (s : Spot) (y : Doubted) → IsBlock d x p → HasDoubtNote s y ns → (y.time ≡ suc t) × IsInDoubt d h dump x (suc t) y.thing
  weak_doubt p ns k x s y block told =
      let e : y ≡ record { time = suc t; thing = k.thing } = is.runs.weak_as_told p k.store (suc t) k.thing s y (subst (HasDoubtNote s y) k.notes told) in
      (ap (λ z. z.time) e, of_block p window block (inl ((cell k.thing 0, are.wakes p k.thing k.by), inl (are.no_trigger p k.not_clean))) (doubt_unclean (cell k.thing 0) (ap (λ z. z.thing) (sym e)) (are.wakes p k.thing k.by) (are.no_trigger p k.not_clean)))
