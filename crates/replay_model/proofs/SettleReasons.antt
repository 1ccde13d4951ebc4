-- What runs on settled values report is reasoned, where what is clear is sure.
use Rattle.std.proofs.Common.{◌≡◌, ◌≢◌, ◌⊎◌, inl, inr, ⊎_elim, ℕ, zero, suc, ◌-◌, ◌+◌, ◌*◌, ◌<◌, ◌≤◌, Bool, true, false, not, ◌&&◌, List, [], ◌∷◌, map, length, refl, sym, ap, ap₂, subst, ◌∙◌, arith, Option, Some, None, if◌then◌else◌}
use Rattle.std.specs.Prelude.{nat_le, nat_lt, min, max, slice_index_or}
use Rattle.std.specs.List.{list_any, list_all, range_with_len}
use Rattle.std.proofs.lemmas.Bool.{and_parts, and_from, and_right, and_cases, both_ways, cases_Bool, cases_lt, false_from_ne_true, leb-true, le-leb, lt-ltb, ltb-true, ltb-false, not-false, not_from_false, or_parts}
use Rattle.std.proofs.Math.Nat.{le-max_left, min-le_left}
use Rattle.event_machine.specs.Cell.{Cell, Values}
use Rattle.event_machine.specs.Habit.{Habit}
use Rattle.event_machine.specs.Laws.{EarlyLaw}
use Rattle.design_model.specs.four_state.declared.bit.Bit.{Bit}
use Rattle.design_model.specs.declared.design.Memory.{Memory}
use Rattle.design_model.specs.declared.point.Point.{Point}
use Rattle.design_model.specs.Design.{Design, In, no_memory, IsClocked, IsThing, Thing, a_signal, a_word, body_at, cell, cells, is_memory, memory_at, owner, process_at, signal_at, signal_bits, signal_cells, word_cells}
use Rattle.design_model.specs.Mentions.{blocking_target, body_assigns, body_mentions}
use Rattle.design_model.specs.Paths.{ReadsUnwritten, paths, reads_signal_unwritten}
use Rattle.design_model.specs.Machine.{is_level, machine}
use Rattle.design_model.specs.Shows.{BoundDump, IsShown, IsWindow}
use Rattle.design_model.specs.Points.{IsBlock}
use Rattle.design_model.specs.Reads.{ReadsWithin}
use Rattle.design_model.specs.Clear.{clear, clear_before, of_dump}
use Rattle.design_model.specs.Open.{HasChangedWakeBit, IsOpen, IsOpenFor, KnownAtEnd, ReachesFrom}
use Rattle.design_model.specs.Doubt.{BlockDoubt, IsInDoubt, IsUnclear, MayWakeUnlisted, of_block}
use Rattle.replay_model.proofs.Causes.{doubt_own, doubt_signal, doubt_word}
use Rattle.design_model.proofs.Lawful.{same_bit_is}
use Rattle.replay_model.proofs.AskedLaws.{AskedLaws}
use Rattle.body_replay.specs.Contract.{Certainty, Doubted, HasHitNote, IsUnsure, Note, clean, perhaps, quiet, spot_at, sure_in}
use Rattle.body_replay.specs.Replay.{Spot}
use Rattle.body_replay.specs.Runs.{HasDoubtNote, Runs}
use Rattle.body_replay.specs.Store.{Kept}
use Rattle.replay_model.specs.Sets.{AreSets, Sets}
use Rattle.design_model.specs.BodyLaws.{all_cells, word_indexes, words_cells}
use Rattle.design_model.proofs.Stretches.{window_shown_at}
use Rattle.replay_model.specs.Tables.{Tables}
use Rattle.replay_model.specs.Step.{Closing, Replay, all_run, certainty, first_unsure, has_changed, is_comb, is_dumped, is_still, plain_store, settled_kept, surely_differ, surely_same, wake_cells}
use Rattle.replay_model.specs.Laws.{IsReplayOf, closing_at}
use Rattle.replay_model.proofs.Bits.{any_in, in_any, in_halves, none_in}
use Rattle.replay_model.proofs.Clocked.{at_false, at_true}
use Rattle.replay_model.proofs.Existing.{all_has, signal_has}
use Rattle.replay_model.proofs.Grows.{Within, open_less, sample, sample_agrees, surely_more, visits_more, reads_within}
use Rattle.replay_model.proofs.Hits.{Way, in_not_assigned, level_settles, still, sure, unsure, way_of}
use Rattle.replay_model.proofs.Order.{MeetingRun, final_dumped}
use Rattle.replay_model.proofs.Reasons.{in_owner, map_same, sure_bit, surely_spot, visit_spot}
use Rattle.replay_model.proofs.Settling.{assign_if, in_signal, is_comb-from, level_mentioned, not_assigned-in}
use Rattle.replay_model.proofs.Targets.{blocks_assigns, blocks_from}

-- the bits of a bound signal are clear at a time that the dump shows
pub bound_clear : (d : Design) (h : Habit) (dump : BoundDump) (t s : ℕ) → IsShown dump t → dump.bound s ≡ true → s < length d.signals → clear d h dump t (a_signal s) (signal_bits d (dump.values t) s)
bound_clear d h dump zero s shown bound is_signal = (1, of_dump s (signal_bits d (dump.values zero) s) shown bound is_signal refl)
bound_clear d h dump (suc t) s shown bound is_signal = (1, of_dump s (signal_bits d (dump.values (suc t)) s) shown bound is_signal refl)

pub sure_at : (k : Kept) (v : Values Bit) (cs : List Cell) → map k cs ≡ map Some (map v cs) → (c : Cell) → In c cs → k c ≡ Some (v c)
sure_at k v [] e c h = absurd h
sure_at k v (b ∷ cs) e c (inl q) = subst (λ z. k z ≡ Some (v z)) q (ap (head_or None) e)
  where
    head_or : Option Bit → List (Option Bit) → Option Bit
    head_or o [] = o
    head_or o (p ∷ ps) = p
sure_at k v (b ∷ cs) e c (inr q) = sure_at k v cs (ap tail_of e) c q
  where
    tail_of : List (Option Bit) → List (Option Bit)
    tail_of [] = []
    tail_of (p ∷ ps) = ps

pub differ_from : (a b : Bit) → a ≢ b → surely_differ (Some a) (Some b) ≡ true
differ_from a b ne = not_from_false _ (false_from_ne_true _ (λ e. ne (same_bit_is a b e)))

-- bits that neither surely differ nor are surely the same are not both sure
pub one_unknown : (p q : Option Bit) → surely_differ p q ≡ false → surely_same p q ≡ false → (p ≡ None) ⊎ (q ≡ None)
one_unknown None q e f = inl refl
one_unknown (Some a) None e f = inr refl
one_unknown (Some a) (Some b) e f = absurd (both_ways _ f (not-false _ e))

some_not : {A : Type 0} (f : A → Bool) (xs : List A) → list_all f xs ≡ false → (x : A) × In x xs × (f x ≡ false)
some_not f [] e = absurd (both_ways _ e refl)
some_not f (x ∷ xs) e = ⊎_elim (λ g. (x, inl refl, g)) (λ g. let r = some_not f xs g in (r.0, inr r.1, r.2)) (and_cases (f x) _ e)

-- the first that is not still is listed
unsure_in : (st : Closing) (k : Kept) (p : ℕ) (xs : List ℕ) (y : ℕ) → first_unsure st k p xs ≡ Some y → In y xs × (is_still st k p y ≡ false)
unsure_in st k p [] y e = absurd (cc)
unsure_in st k p (x ∷ xs) y e = go (is_still st k p x) refl e (unsure_in st k p xs y)
  where
    go : (b : Bool) → is_still st k p x ≡ b → (if b then first_unsure st k p xs else Some x) ≡ Some y → (first_unsure st k p xs ≡ Some y → In y xs × (is_still st k p y ≡ false)) → In y (x ∷ xs) × (is_still st k p y ≡ false)
    go true f g rest = let r = rest g in (inr r.0, r.1)
    go false f g rest = let q : x ≡ y = cc in (inl q, subst (λ z. is_still st k p z ≡ false) q f)

in_words : (d : Design) (m : ℕ) (is : List ℕ) (c : Cell) → In c (words_cells d m is) → (i : ℕ) × In i is × In c (word_cells d m i)
in_words d m [] c h = absurd h
in_words d m (i ∷ is) c h = ⊎_elim (λ x. (i, inl refl, x)) (λ x. let r = in_words d m is c x in (r.0, inr r.1, r.2)) (in_halves c (word_cells d m i) (words_cells d m is) h)

in_range : (n k i : ℕ) → In i (range_with_len n k) → (n ≤ i) × (i < n + k)
in_range n zero i h = absurd h
in_range n (suc k) i (inl e) = (omega (arith, e), omega (arith, e))
in_range n (suc k) i (inr h) = let r = in_range (n + 1) k i h in (omega (arith, r.0), omega (arith, r.1))

span_end : (x y i : ℕ) → i < min x y + (max x y - min x y + 1) → i ≤ max x y
span_end x y i h = omega (arith, h, min-le_left x y, le-max_left x y)

past_memories : (xs : List Memory) (m : ℕ) → length xs ≤ m → (slice_index_or xs m no_memory).width ≡ 0
past_memories [] m le = refl
past_memories (x ∷ xs) zero le = absurd (omega (arith, le))
past_memories (x ∷ xs) (suc m) le = past_memories xs m (omega (arith, le))

-- a word with a cell is one of a memory of the design
memory_below : (d : Design) (m i : ℕ) (c : Cell) → length d.signals ≤ m → In c (word_cells d m i) → m < length d.signals + length d.memories
memory_below d m i c above inside = ⊎_elim (λ lt. lt) (λ le. absurd (empty le)) (cases_lt m (length d.signals + length d.memories))
  where
    none : (w : ℕ) (f : ℕ) → w ≡ 0 → In c (map (λ k. cell m (f + k)) (range_with_len 0 w)) → ⊥
    none zero f e h = h
    none (suc w) f e h = cc

    empty : length d.signals + length d.memories ≤ m → ⊥
    empty le = none (memory_at d m).width (i * (memory_at d m).width) (width le) inside
      where
        width : length d.signals + length d.memories ≤ m → (memory_at d m).width ≡ 0
        width le = ap (λ b. (if b then slice_index_or d.memories (m - length d.signals) no_memory else no_memory).width) (le-leb _ _ above) ∙ past_memories d.memories (m - length d.signals) (omega (arith, le))

module _ (d : Design) (h : Habit) (early_law : EarlyLaw (machine d)) (dump : BoundDump) (run : Runs) (tables : Tables) (points : List Point) (is : IsReplayOf d h dump run tables points) (asked : AskedLaws d) (t : ℕ) (window : IsWindow dump (suc t)) (sets : Sets) (are : AreSets d h dump (suc t) sets) (a : Replay) (at_start : (x : Thing) (bits : List Bit) → clear d h dump t x bits → sure_in d a.kept x bits) (at_end : (x : Thing) (bits : List Bit) → clear d h dump (suc t) x bits → sure_in d (all_run (closing_at d dump run tables sets t a)).kept x bits) where
  abbrev st : Closing
  st = closing_at d dump run tables sets t a

  last : suc t - 1 ≡ t
  last = omega arith

  module _ (p : ℕ) (ns : List Note) (k : MeetingRun d h early_law dump run tables points is t sets are a p ns) where
    settles : IsClocked (process_at d p) → ⊥
    settles = let x = any_in sets.moves (tables.watched p) k.touched in level_settles (process_at d p) x.0 ((is.tabled.watched p x.0).0 x.1)

    -- something that the process watches may move
    wakes : MayWakeUnlisted d dump (suc t) p
    wakes = let x = any_in sets.moves (tables.watched p) k.touched in inr (x.0, (is.tabled.watched p x.0).0 x.1, (are.moves x.0).0 x.2)

    -- what is met, and elsewhere what is known at the end
    abbrev met : Kept
    met c = if body_mentions c.thing (body_at d p) then k.wk.kept c else (all_run st).kept c

    abbrev read : Kept
    read = settled_kept d p met

    same_notes : (how : Certainty) → (run p (plain_store (settled_kept d p k.wk.kept)) how).notes ≡ (run p (plain_store (settled_kept d p met)) how).notes
    same_notes how =
        is.runs.local p (plain_store (settled_kept d p k.wk.kept)) (plain_store (settled_kept d p met)) how
        (λ c m. ap (λ z. if is_comb (process_at d p) && body_assigns c.thing (body_at d p) then None else z) (sym (at_true (λ z. z ≡ k.wk.kept c) (body_mentions c.thing (body_at d p)) (k.wk.kept c) ((all_run st).kept c) m refl)))

    -- of what the process does not assign it reads what is known at the end
    met_final : (c : Cell) → blocking_target d (body_at d p) c ≡ false → met c ≡ (all_run st).kept c
    met_final c own = go (body_mentions c.thing (body_at d p)) refl
      where
        go : (b : Bool) → body_mentions c.thing (body_at d p) ≡ b → (if b then k.wk.kept c else (all_run st).kept c) ≡ (all_run st).kept c
        go true e = k.meets c (level_mentioned (process_at d p) c.thing settles e) own
        go false e = refl

    not_blocked : (c : Cell) → body_assigns c.thing (body_at d p) ≡ false → blocking_target d (body_at d p) c ≡ false
    not_blocked c e = false_from_ne_true _ (λ f. both_ways _ e (blocks_assigns c.thing (body_at d p) (blocks_from d p c f)))

    read_final : (c : Cell) → body_assigns c.thing (body_at d p) ≡ false → read c ≡ (all_run st).kept c
    read_final c e = at_false (λ z. z ≡ (all_run st).kept c) (is_comb (process_at d p) && body_assigns c.thing (body_at d p)) None (met c) (and_right _ _ e) (met_final c (not_blocked c e))

    end_within : Within (KnownAtEnd d h dump (suc t) p) (sure_in d (settled_kept d p met))
    end_within x bits known = map_same read (all_run st).kept (cells d x) (λ c y. read_final c (subst (λ z. body_assigns z (body_at d p) ≡ false) (sym (in_owner d x c y)) known.0)) ∙ at_end x bits known.1

    -- where a wake bit that the dump has changes the run is clean
    surely_clean : HasChangedWakeBit d dump (suc t) p → certainty st k.wk.kept p ≡ clean (suc t)
    surely_clean changed = go (way_of st k.wk.kept p)
      where
        c : Cell
        c = changed.0

        shown : IsShown dump t × IsShown dump (suc t)
        shown = window_shown_at dump.stretches t window

        before : a.kept changed.0 ≡ Some (dump.values t changed.0)
        before =
            sure_at a.kept (dump.values t) (signal_cells d changed.0.thing) (at_start (a_signal changed.0.thing) (signal_bits d (dump.values t) changed.0.thing) (bound_clear d h dump t changed.0.thing (window_shown_at dump.stretches t window).0 changed.2 changed.1.0)) changed.0
            (signal_has d changed.0 changed.1.1)

        after : k.wk.kept changed.0 ≡ Some (dump.values (suc t) changed.0)
        after = k.dumped changed.0 (and_from (dump.bound changed.0.thing) _ changed.2 (lt-ltb _ _ changed.1.1))

        differ : surely_differ (a.kept changed.0) (k.wk.kept changed.0) ≡ true
        differ =
            ap₂ surely_differ before after ∙ differ_from (dump.values t changed.0) (dump.values (suc t) changed.0) (λ e. changed.3 (ap (λ u. dump.values u changed.0) last ∙ e))

        found : list_any (has_changed st k.wk.kept p) (tables.watched p) ≡ true
        found =
            in_any (has_changed st k.wk.kept p) (tables.watched p) changed.0.thing ((is.tabled.watched p changed.0.thing).1 changed.1.2.0)
            (in_any (λ c. surely_differ (a.kept c) (k.wk.kept c)) (wake_cells d p changed.0.thing) changed.0 (in_not_assigned d p (all_cells d changed.0.thing) changed.0 (all_has d changed.0 changed.1.0 changed.1.1) changed.1.2.1) differ)

        go : Way st k.wk.kept p → certainty st k.wk.kept p ≡ clean (suc t)
        go (sure e f) = f
        go (unsure x e g f) = absurd (both_ways _ e found)
        go (still e g f) = absurd (both_ways _ e found)

    -- what it reaches is reported to be hit
    pub settle_reached : HasChangedWakeBit d dump (suc t) p → (x : Point) → ReachesFrom d (KnownAtEnd d h dump (suc t) p) (body_at d p) x → (s : Spot) × (spot_at x ≡ Some s) × HasHitNote s ns
    settle_reached changed x (inl y) =
        let s = visit_spot x y.0 y.1 in
        (s.0, s.2, subst (HasHitNote s.0) (sym (k.notes ∙ ap (λ z. (run p (plain_store (settled_kept d p k.wk.kept)) z).notes) (surely_clean changed) ∙ same_notes (clean (suc t)))) (is.runs.prefix_hit p (plain_store (settled_kept d p met)) (suc t) s.0 y.0 s.1 (visits_more d (KnownAtEnd d h dump (suc t) p) (sure_in d (settled_kept d p met)) end_within (sample (settled_kept d p met)) (sample_agrees d (settled_kept d p met)) (body_at d p) y.0 y.2)))
    settle_reached changed x (inr surely) =
        let s = surely_spot d (KnownAtEnd d h dump (suc t) p) (body_at d p) x surely in
        (s.0, s.1, subst (HasHitNote s.0) (sym (k.notes ∙ ap (λ z. (run p (plain_store (settled_kept d p k.wk.kept)) z).notes) (surely_clean changed) ∙ same_notes (clean (suc t)))) (is.runs.surely_open_hit p (plain_store (settled_kept d p met)) (suc t) x s.0 s.1 (surely_more d (KnownAtEnd d h dump (suc t) p) (sure_in d (settled_kept d p met)) end_within (sample (settled_kept d p met)) (sample_agrees d (settled_kept d p met)) (body_at d p) x surely)))

    start_sure : (x : Thing) (bits : List Bit) → clear_before d h dump (suc t) x bits → sure_in d a.kept x bits
    start_sure x bits known = at_start x bits (subst (λ u. clear d h dump u x bits) last known)

    opens : (x : Point) → IsOpen d (sure_in d (settled_kept d p met)) (body_at d p) x → IsOpenFor d h dump (suc t) p x
    opens x open_here = inr (settles, open_less d (KnownAtEnd d h dump (suc t) p) (sure_in d (settled_kept d p met)) end_within (sample (settled_kept d p met)) (sample_agrees d (settled_kept d p met)) (body_at d p) x open_here)

    -- why a thing that is unsure as the body reads it is in doubt
    module _ (y : ℕ) (b : IsUnsure d (settled_kept d p met) y) (bare : ReadsUnwritten d (body_at d p) y) (untold : ReadsWithin d (KnownAtEnd d h dump (suc t) p) (body_at d p) → ⊥) where
      mentioned : body_mentions y (body_at d p) ≡ true
      mentioned = asked.path_mentions p y bare

      of_comb : body_assigns y (body_at d p) ≡ true → is_comb (process_at d p) ≡ true → BlockDoubt d h dump (suc t) y p
      of_comb mine e =
          doubt_own (is_comb-from (process_at d p) e) wakes mine
          (⊎_elim (λ f. in_any (reads_signal_unwritten d y []) (paths [] (body_at d p)) bare.0 bare.1 f)
          (λ f. absurd (omega (arith, is.lawful.comb_writes p y (is_comb-from (process_at d p) e) mine, leb-true (length d.signals) y (and_parts (nat_le (length d.signals) y) _ f.0).0))) bare.2)

      -- a bound signal is sure
      not_bound : is_comb (process_at d p) ≡ false → dump.bound y ≡ true → (x : Thing) → owner x ≡ y → IsThing d x → (c : Cell) → In c (cells d x) → settled_kept d p met c ≡ None → ⊥
      not_bound e bound (a_word m i) own is_thing c inside none = omega (arith, is.fits.signals y bound, own, leb-true (length d.signals) m (and_parts (nat_le (length d.signals) m) _ is_thing.0).0)
      not_bound e bound (a_signal q) own is_thing c inside none = some_none (settled_kept d p met c) (dump.values (suc t) c) is_sure none
        where
          at : (c.thing ≡ q) × (c.place < (signal_at d q).width)
          at = in_signal d q c inside

          has : is_dumped d dump.bound c ≡ true
          has = and_from (dump.bound c.thing) _ (subst (λ z. dump.bound z ≡ true) (sym ((in_signal d q c inside).0 ∙ own)) bound) (lt-ltb _ _ (subst (λ z. c.place < (signal_at d z).width) (sym (in_signal d q c inside).0) (in_signal d q c inside).1))

          met_sure : (z : Bool) → (if z then k.wk.kept c else (all_run st).kept c) ≡ Some (dump.values (suc t) c)
          met_sure true = k.dumped c has
          met_sure false = final_dumped d h early_law dump run tables points is t sets are a c has

          is_sure : settled_kept d p met c ≡ Some (dump.values (suc t) c)
          is_sure = at_false (λ z. z ≡ Some (dump.values (suc t) c)) (is_comb (process_at d p) && body_assigns c.thing (body_at d p)) None (met c) (Rattle.std.proofs.lemmas.Bool.and_left _ _ e) (met_sure (body_mentions c.thing (body_at d p)))

          some_none : (o : Option Bit) (x : Bit) → o ≡ Some x → o ≡ None → ⊥
          some_none o x e f = cc

      of_assign : body_assigns y (body_at d p) ≡ true → is_comb (process_at d p) ≡ false → BlockDoubt d h dump (suc t) y p
      of_assign mine e =
          ⊎_elim (λ bound. absurd (not_bound e bound b.0 b.1 b.2 b.3.0 b.3.1 b.3.2))
          (λ free. let j = asked.own_wake p y (assign_if (process_at d p) settles e) mentioned mine in doubt_signal j.0 settles wakes j.1 (inr (asked.own_unclear h dump (suc t) p y (assign_if (process_at d p) settles e) mentioned mine free))) (cases_Bool (dump.bound y))

      of_other : body_assigns y (body_at d p) ≡ false → (x : Thing) → owner x ≡ y → IsThing d x → (c : Cell) → In c (cells d x) → settled_kept d p met c ≡ None → BlockDoubt d h dump (suc t) y p
      of_other other (a_signal q) own is_thing c inside none =
          doubt_signal c.place settles wakes
          (subst (λ z. z < length d.signals) own is_thing, subst (λ z. c.place < (signal_at d z).width) own (in_signal d q c inside).1, (level_mentioned (process_at d p) y settles mentioned, not_blocked (cell y c.place) other))
          (inr (λ v. sure_bit (all_run st).kept (cells d (a_signal y)) v.0 (at_end (a_signal y) v.0 v.1) c (subst (λ z. In c (signal_cells d z)) own inside) (sym (read_final c (subst (λ z. body_assigns z (body_at d p) ≡ false) (sym ((in_signal d q c inside).0 ∙ own)) other)) ∙ none)))
      of_other other (a_word m i) own is_thing c inside none =
          subst (λ z. BlockDoubt d h dump (suc t) z p) own
          (doubt_word i settles wakes (subst (λ z. body_mentions z (body_at d p) ≡ true) (sym own) mentioned) is_thing
          (inr (λ v. sure_bit (all_run st).kept (cells d (a_word m i)) v.0 (at_end (a_word m i) v.0 v.1) c inside (sym (read_final c (subst (λ z. body_assigns z (body_at d p) ≡ false) (sym (in_owner d (a_word m i) c inside ∙ own)) other)) ∙ none))) (inl (inr (untold, subst (λ z. body_mentions z (body_at d p) ≡ true) (sym own) mentioned, is_thing))))

      why : BlockDoubt d h dump (suc t) y p
      why = ⊎_elim (λ mine. ⊎_elim (of_comb mine) (of_assign mine) (cases_Bool (is_comb (process_at d p)))) (λ other. of_other other b.0 b.1 b.2 b.3.0 b.3.1 b.3.2) (cases_Bool (body_assigns y (body_at d p)))

    -- why a thing that is not surely unchanged is in doubt
    unsure_doubt : (x : ℕ) → In x (tables.watched p) → is_still st k.wk.kept p x ≡ false → list_any (has_changed st k.wk.kept p) (tables.watched p) ≡ false → BlockDoubt d h dump (suc t) x p
    unsure_doubt x watched not_still calm = go (nat_lt x (length d.signals)) refl (not_assigned-in d p (all_cells d x) found.0 found.1).0
      where
        parts : (not (sets.moves x) ≡ false) × (list_all (λ c. surely_same (a.kept c) (k.wk.kept c)) (wake_cells d p x) ≡ false)
        parts = or_parts (not (sets.moves x)) _ not_still

        found : (c : Cell) × In c (wake_cells d p x) × (surely_same (a.kept c) (k.wk.kept c) ≡ false)
        found = some_not (λ c. surely_same (a.kept c) (k.wk.kept c)) (wake_cells d p x) (or_parts (not (sets.moves x)) _ not_still).1

        level : is_level (process_at d p) x ≡ true
        level = (is.tabled.watched p x).0 watched

        abbrev_unknown : (c : Cell) → In c (wake_cells d p x) → surely_same (a.kept c) (k.wk.kept c) ≡ false → (a.kept c ≡ None) ⊎ (k.wk.kept c ≡ None)
        abbrev_unknown c inside e = one_unknown (a.kept c) (k.wk.kept c) (none_in (λ c. surely_differ (a.kept c) (k.wk.kept c)) (wake_cells d p x) (none_in (has_changed st k.wk.kept p) (tables.watched p) calm x watched) c inside) e

        unclear : (f : (c : Cell) × In c (wake_cells d p x) × (surely_same (a.kept c) (k.wk.kept c) ≡ false)) (y : Thing) → owner y ≡ x → In f.0 (cells d y) → IsUnclear d h dump (suc t) y
        unclear f y own inside =
            ⊎_elim (λ none. inl (λ v. sure_bit a.kept (cells d y) v.0 (start_sure y v.0 v.1) f.0 inside none))
            (λ none. inr (λ v. sure_bit (all_run st).kept (cells d y) v.0 (at_end y v.0 v.1) f.0 inside (sym (k.meets f.0 (subst (λ z. is_level (process_at d p) z ≡ true) (sym (in_owner d y f.0 inside ∙ own)) level) (not_assigned-in d p (all_cells d x) f.0 f.1).1) ∙ none))) (abbrev_unknown f.0 f.1 f.2)

        of_signal : (f : (c : Cell) × In c (wake_cells d p x) × (surely_same (a.kept c) (k.wk.kept c) ≡ false)) → nat_lt x (length d.signals) ≡ true → In f.0 (signal_cells d x) → BlockDoubt d h dump (suc t) x p
        of_signal f is_signal inside =
            let at = in_signal d x f.0 inside in
            doubt_signal f.0.place settles wakes (ltb-true _ _ is_signal, at.1, (level, subst (λ z. blocking_target d (body_at d p) z ≡ false) (λ i. record { thing = at.0 i; place = f.0.place }) (not_assigned-in d p (all_cells d x) f.0 f.1).1)) (unclear f (a_signal x) refl inside)

        of_memory : (f : (c : Cell) × In c (wake_cells d p x) × (surely_same (a.kept c) (k.wk.kept c) ≡ false)) → nat_lt x (length d.signals) ≡ false → In f.0 (words_cells d x (word_indexes d x)) → BlockDoubt d h dump (suc t) x p
        of_memory f no_signal inside =
            let w = in_words d x (word_indexes d x) f.0 inside in
            let is_mem : is_memory d x ≡ true = and_from (nat_le (length d.signals) x) _ (le-leb _ _ (ltb-false _ _ no_signal)) (lt-ltb _ _ (memory_below d x w.0 f.0 (ltb-false _ _ no_signal) w.2)) in
            let range = in_range (min (memory_at d x).first (memory_at d x).last) (max (memory_at d x).first (memory_at d x).last - min (memory_at d x).first (memory_at d x).last + 1) w.0 w.1 in
            doubt_word w.0 settles wakes (asked.listed_memory p x level is_mem) (is_mem, range.0, span_end (memory_at d x).first (memory_at d x).last w.0 range.1) (unclear f (a_word x w.0) refl w.2) (inr ((are.moves x).0 (not-false _ (or_parts (not (sets.moves x)) _ not_still).0)))

        go : (b : Bool) → nat_lt x (length d.signals) ≡ b → In found.0 (if b then signal_cells d x else words_cells d x (word_indexes d x)) → BlockDoubt d h dump (suc t) x p
        go true e inside = of_signal found e inside
        go false e inside = of_memory found e inside

    pub settle_doubt : (x : Point) (s : Spot) (y : Doubted) → spot_at x ≡ Some s → IsBlock d x p → HasDoubtNote s y ns → (y.time ≡ suc t) × IsInDoubt d h dump x (suc t) y.thing
    settle_doubt x s y spot block told = go (way_of st k.wk.kept p)
      where
        note : (how : Certainty) → certainty st k.wk.kept p ≡ how → HasDoubtNote s y (run p (plain_store (settled_kept d p met)) how).notes
        note how f = subst (HasDoubtNote s y) (k.notes ∙ ap (λ z. (run p (plain_store (settled_kept d p k.wk.kept)) z).notes) f ∙ same_notes how) told

        go : Way st k.wk.kept p → (y.time ≡ suc t) × IsInDoubt d h dump x (suc t) y.thing
        go (sure e f) =
            let n = note (clean (suc t)) f in
            let blame = is.runs.blames p (plain_store (settled_kept d p met)) (suc t) s y n in (
              blame.0,
              of_block p window block (opens x (is.runs.doubt_open p (plain_store (settled_kept d p met)) (suc t) x s y spot n))
                  (why y.thing blame.1 blame.2 (λ g. is.runs.no_doubt p (plain_store (settled_kept d p met)) (suc t) (sample (settled_kept d p met), sample_agrees d (settled_kept d p met)) (reads_within d (KnownAtEnd d h dump (suc t) p) (sure_in d (settled_kept d p met)) (body_at d p) end_within g) s y n)),
            )
        go (unsure z e g f) =
            let n = is.runs.perhaps_open p (plain_store (settled_kept d p met)) (suc t) z x s y spot (note (perhaps (suc t) z) f) in
            let q = unsure_in st k.wk.kept p (tables.watched p) z g in
            (ap (λ v. v.time) n.0, of_block p window block (opens x n.1) (subst (λ v. BlockDoubt d h dump (suc t) v p) (ap (λ v. v.thing) (sym n.0)) (unsure_doubt z q.0 q.1 e)))
        go (still e g f) = absurd (none (note quiet f))
          where
            none : HasDoubtNote s y (run p (plain_store (settled_kept d p met)) quiet).notes → ⊥
            none n = subst (HasDoubtNote s y) (is.runs.quiet_notes p (plain_store (settled_kept d p met))) n
