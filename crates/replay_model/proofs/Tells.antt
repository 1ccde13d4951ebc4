-- All that a closing step reports is reasoned, where what is clear is sure at its ends.
use Rattle.std.proofs.Common.{◌≡◌, ◌⊎◌, inl, inr, ⊎_elim, ℕ, zero, suc, ◌-◌, ◌<◌, Bool, true, false, not, ◌&&◌, List, [], ◌∷◌, ◌++◌, map, length, pos, negsuc, ℤ, refl, sym, ap, subst, ◌∙◌, arith, Option, Some, None, if◌then◌else◌}
use Rattle.std.specs.Prelude.{nat_lt, slice_index_or}
use Rattle.std.specs.List.{list_all}
use Rattle.std.proofs.lemmas.Bool.{and_parts, and_from, and_cases, both_ways, lt-ltb, ltb-true, leb-true, not-false, not-true, true_from_ne_false}
use Rattle.event_machine.specs.Cell.{Cell}
use Rattle.event_machine.specs.Habit.{Habit}
use Rattle.event_machine.specs.Laws.{EarlyLaw}
use Rattle.design_model.specs.four_state.Parts.{within}
use Rattle.design_model.specs.four_state.declared.bit.Bit.{Bit}
use Rattle.design_model.specs.four_state.declared.bit.Bit.TheVariants.{One, Zero}
use Rattle.design_model.specs.declared.point.Point.{Point}
use Rattle.design_model.specs.declared.point.Point.TheVariants.{Line as line_point, Logic as logic_point, Toggle as toggle_point, State as state_point, Arc as arc_point, Word as word_point}
use Rattle.design_model.specs.Design.{Design, In, IsClocked, Thing, a_signal, body_at, cell, no_signal, process_at, signal_at, signal_cells}
use Rattle.design_model.specs.declared.design.Signal.{Signal}
use Rattle.design_model.specs.Value.{offset}
use Rattle.design_model.specs.Assignment.{signal_range}
use Rattle.design_model.specs.Machine.{machine}
use Rattle.design_model.specs.Shows.{BoundDump, IsWindow}
use Rattle.design_model.specs.MayMove.{IsCleanAt}
use Rattle.design_model.specs.Points.{IsBlock, indexed_cell, toggle_cell}
use Rattle.design_model.specs.Clear.{clear}
use Rattle.design_model.specs.Open.{IsReached}
use Rattle.design_model.specs.Doubt.{IsInDoubt, IsPointOn, IsUnclear, MayMoveUnlisted, of_signal}
use Rattle.design_model.specs.Lawful.{is_signal}
use Rattle.hidden_times.specs.Hidden.{is_listed}
use Rattle.hidden_times.proofs.Clear.{shrink_law}
use Rattle.hidden_times.proofs.Listed.{listed_law}
use Rattle.replay_model.proofs.AskedLaws.{AskedLaws}
use Rattle.body_replay.specs.Contract.{Doubted, HasHitNote, Note, spot_at, sure_in}
use Rattle.body_replay.specs.Replay.{Spot}
use Rattle.body_replay.specs.Runs.{Runs}
use Rattle.body_replay.specs.Store.{Kept}
use Rattle.body_replay.specs.known_state.Join.{join_bit}
use Rattle.replay_model.specs.Sets.{AreSets, Sets}
use Rattle.replay_model.specs.Tables.{Tables}
use Rattle.replay_model.specs.Marks.{IsKeyOf, IsDoubtMarked, IsHitMarked, Marking, markings_by, of_process}
use Rattle.replay_model.specs.Step.{Closing, Replay, all_point_notes, all_run, are_surely, before_of, clean_order, clocked_run, is_dumped, is_touched, known_bits, mark_had, mark_reached, may_be, opened, point_notes, run_all_clean, run_all_settling, settle_start, surely_differ, surely_same, tell, mark_toggle}
use Rattle.replay_model.specs.Laws.{IsReplayOf, closing_at}
use Rattle.replay_model.proofs.Bits.{in_any, in_halves, in_left, join_is, join_none}
use Rattle.replay_model.proofs.AllowedBy.{past}
use Rattle.replay_model.proofs.Clocked.{distinct_left}
use Rattle.replay_model.proofs.Existing.{signal_has}
use Rattle.replay_model.proofs.Grows.{sample, sample_agrees}
use Rattle.replay_model.proofs.Hits.{edge_clocked, hit_told, told_doubt}
use Rattle.replay_model.proofs.Order.{MeetingRun, last_runs, of_last, of_order, order_runs}
use Rattle.replay_model.proofs.Reasons.{clean_doubt, clean_reached, sure_bit, weak_doubt}
use Rattle.replay_model.proofs.SettleReasons.{one_unknown, settle_doubt, settle_reached}
use Rattle.replay_model.proofs.SignalPoints.{in_point_notes, note_key, told_of, toggle_thing}
use Rattle.replay_model.proofs.Trace.{CleanRun, Traced, WeakRun, doubt_in, in_doubt, in_hit, order_traced, weak_all}

-- the cell of a toggle point lies within its signal
indexed_in : (s width : ℕ) (index : ℤ) → 0 < width → (indexed_cell s (within width index)).place < width
indexed_in s width (negsuc k) some = some
indexed_in s width (pos k) some = go (nat_lt k width) refl
  where
    go : (b : Bool) → nat_lt k width ≡ b → (indexed_cell s (if b then Some k else None)).place < width
    go true is = ltb-true k width is
    go false is = some

toggle_in : (d : Design) (s i : ℕ) → 0 < (signal_at d s).width → (toggle_cell d s i).place < (signal_at d s).width
toggle_in d s i some = go (signal_at d s).ranged
  where
    go : (b : Bool) → (if b then indexed_cell s (within (signal_at d s).width (offset (signal_range d s) (pos i))) else cell s 0).place < (signal_at d s).width
    go true = indexed_in s (signal_at d s).width (offset (signal_range d s) (pos i)) some
    go false = some

-- bits that may be these, and are not surely, are not all known
unknown_in : (k : Kept) (cs : List Cell) (bs : List Bit) → are_surely (map k cs) bs ≡ false → may_be (map k cs) bs ≡ true → (c : Cell) × In c cs × (k c ≡ None)
unknown_in k [] [] e f = absurd (both_ways _ e refl)
unknown_in k [] (b ∷ bs) e f = absurd (both_ways false refl f)
unknown_in k (c ∷ cs) [] e f = absurd (both_ways false refl f)
unknown_in k (c ∷ cs) (b ∷ bs) e f =
    let g = and_parts (not (surely_differ (k c) (Some b))) _ f in
    ⊎_elim (λ x. (c, inl refl, ⊎_elim (λ none. none) (λ q. absurd (some_none b q)) (one_unknown (k c) (Some b) (not-true _ g.0) x))) (λ x. let r = unknown_in k cs bs x g.1 in (r.0, inr r.1, r.2)) (and_cases (surely_same (k c) (Some b)) _ e)
  where
    some_none : (b : Bit) → Some b ≡ None → ⊥
    some_none b e = cc

-- where what is known of bits before is known of them after, bits that may be these after, and are not surely these before, were not all known
unknown_before : (k l : Kept) (cs : List Cell) (bs : List Bit) → ((c : Cell) (p : Bit) → k c ≡ Some p → l c ≡ Some p) → are_surely (map k cs) bs ≡ false → may_be (map l cs) bs ≡ true → (c : Cell) × In c cs × (k c ≡ None)
unknown_before k l [] [] same e f = absurd (both_ways _ e refl)
unknown_before k l [] (b ∷ bs) same e f = absurd (both_ways false refl f)
unknown_before k l (c ∷ cs) [] same e f = absurd (both_ways false refl f)
unknown_before k l (c ∷ cs) (b ∷ bs) same e f =
    let g = and_parts (not (surely_differ (l c) (Some b))) _ f in
    ⊎_elim (λ x. (c, inl refl, none_of (k c) refl x g.0)) (λ x. let r = unknown_before k l cs bs same x g.1 in (r.0, inr r.1, r.2)) (and_cases (surely_same (k c) (Some b)) _ e)
  where
    none_of : (o : Option Bit) → k c ≡ o → surely_same (k c) (Some b) ≡ false → not (surely_differ (l c) (Some b)) ≡ true → k c ≡ None
    none_of None q x g = q
    none_of (Some p) q x g = absurd (both_ways _ (subst (λ z. surely_same z (Some b) ≡ false) q x) (not-false _ (subst (λ z. surely_differ z (Some b) ≡ false) (same c p q) (not-true _ g))))

abbrev head_of : List (Option Bit) → Option Bit
head_of [] = None
head_of (x ∷ xs) = x

abbrev tail_of : List (Option Bit) → List (Option Bit)
tail_of [] = []
tail_of (x ∷ xs) = xs

-- what is equal as a list is equal at each cell
same_at : (k l : Kept) (cs : List Cell) (c : Cell) → In c cs → map k cs ≡ map l cs → k c ≡ l c
same_at k l [] c h e = absurd h
same_at k l (x ∷ xs) c (inl q) e = subst (λ z. k z ≡ l z) q (ap head_of e)
same_at k l (x ∷ xs) c (inr h) e = same_at k l xs c h (ap tail_of e)

-- of a bit too
unknown_bit : (p : Option Bit) (b : Bit) → surely_same p (Some b) ≡ false → not (surely_differ p (Some b)) ≡ true → p ≡ None
unknown_bit p b e f = ⊎_elim (λ none. none) (λ q. absurd (some_none q)) (one_unknown p (Some b) (not-true _ f) e)
  where
    some_none : Some b ≡ None → ⊥
    some_none e = cc

pub at_all : (f : Signal → Bool) (xs : List Signal) (s : ℕ) → list_all f xs ≡ true → s < length xs → f (slice_index_or xs s no_signal) ≡ true
at_all f [] s e below = absurd (omega (arith, below))
at_all f (x ∷ xs) zero e below = (and_parts (f x) _ e).0
at_all f (x ∷ xs) (suc s) e below = at_all f xs s (and_parts (f x) _ e).1 (omega (arith, below))

module _ (d : Design) (h : Habit) (early_law : EarlyLaw (machine d)) (dump : BoundDump) (run : Runs) (tables : Tables) (points : List Point) (is : IsReplayOf d h dump run tables points) (asked : AskedLaws d) (t : ℕ) (window : IsWindow dump (suc t)) (sets : Sets) (are : AreSets d h dump (suc t) sets) (a : Replay) (at_start : (x : Thing) (bits : List Bit) → clear d h dump t x bits → sure_in d a.kept x bits) (at_end : (x : Thing) (bits : List Bit) → clear d h dump (suc t) x bits → sure_in d (all_run (closing_at d dump run tables sets t a)).kept x bits) where
  abbrev st : Closing
  st = closing_at d dump run tables sets t a

  clean_told : Traced (CleanRun d is.lawful h early_law dump run is.runs tables t sets are a) (λ q. In q tables.clocked × ((s : ℕ) × (sets.trigger q ≡ Some s))) a.notes (run_all_clean st (clean_order st) (opened st)).notes
  clean_told =
      order_traced d is.lawful h early_law dump run is.runs tables t sets are a (distinct_left tables.clocked (tables.order ++ tables.last) is.tabled.once)

  weak_told : Traced (WeakRun d is.lawful h early_law dump run is.runs tables t sets are a) (λ q. In q tables.clocked × ((sets.trigger q ≡ None) × ((s : ℕ) × (sets.wakes q ≡ Some s)))) (run_all_clean st (clean_order st) (opened st)).notes (clocked_run st).notes
  weak_told = weak_all d is.lawful h early_law dump run is.runs tables t sets are a tables.clocked (run_all_clean st (clean_order st) (opened st))

  pub kept_told : (n : Marking) → In n a.notes → In n (all_run st).notes
  kept_told n y = (last_runs d h early_law dump run tables points is t sets are a).keeps n ((order_runs d h early_law dump run tables points is t sets are a).keeps n (weak_told.keeps n (clean_told.keeps n y)))

  -- a doubt of the point at this time
  abbrev DoubtNow : Point → Doubted → Type 0
  DoubtNow x y = (y.time ≡ suc t) × IsInDoubt d h dump x (suc t) y.thing

  key_spot : (x : Point) (n : Marking) (p : ℕ) (s : Spot) → IsKeyOf d x n.key → n.key ≡ of_process p s → (spot_at x ≡ Some s) × IsBlock d x p
  key_spot x n p s key e = subst (IsKeyOf d x) e key

  -- each doubt that is reported of a point of a body is one
  pub body_doubt : (x : Point) (y : Doubted) (n : Marking) → In n (all_run st).notes → IsKeyOf d x n.key → n.doubt ≡ Some y → In n a.notes ⊎ DoubtNow x y
  body_doubt x y n there key e = ⊎_elim in_order (λ k. inr (of_settling k.0 k.1 (of_last d h early_law dump run tables points is t sets are a k.0 k.1 k.2) k.3)) ((last_runs d h early_law dump run tables points is t sets are a).from n there)
    where
      of_settling : (p : ℕ) (ns : List Note) → MeetingRun d h early_law dump run tables points is t sets are a p ns → In n (markings_by p ns) → DoubtNow x y
      of_settling p ns k z =
          let s = told_doubt p ns n y z e in
          let b = key_spot x n p s.0 key s.1 in
          settle_doubt d h early_law dump run tables points is asked t window sets are a at_start at_end p ns k x s.0 y b.0 b.1 s.2

      of_clean : (p : ℕ) (ns : List Note) → CleanRun d is.lawful h early_law dump run is.runs tables t sets are a p ns → In n (markings_by p ns) → DoubtNow x y
      of_clean p ns k z =
          let s = told_doubt p ns n y z e in
          let b = key_spot x n p s.0 key s.1 in
          clean_doubt d h dump run tables points is early_law asked t window sets are a at_start p ns k x s.0 y b.0 b.1 s.2

      of_weak : (p : ℕ) (ns : List Note) → WeakRun d is.lawful h early_law dump run is.runs tables t sets are a p ns → In n (markings_by p ns) → DoubtNow x y
      of_weak p ns k z =
          let s = told_doubt p ns n y z e in
          let b = key_spot x n p s.0 key s.1 in
          weak_doubt d h dump run tables points is early_law asked t window sets are a at_start p ns k x s.0 y b.1 s.2

      in_clean : In n (run_all_clean st (clean_order st) (opened st)).notes → In n a.notes ⊎ DoubtNow x y
      in_clean z = ⊎_elim (λ v. inl v) (λ k. inr (of_clean k.0 k.1 k.2 k.3)) (clean_told.from n z)

      in_clocked : In n (clocked_run st).notes → In n a.notes ⊎ DoubtNow x y
      in_clocked z = ⊎_elim in_clean (λ k. inr (of_weak k.0 k.1 k.2 k.3)) (weak_told.from n z)

      in_order : In n (run_all_settling st true tables.order (settle_start st (clocked_run st))).notes → In n a.notes ⊎ DoubtNow x y
      in_order z = ⊎_elim in_clocked (λ k. inr (of_settling k.0 k.1 (of_order d h early_law dump run tables points is t sets are a k.0 k.1 k.2) k.3)) ((order_runs d h early_law dump run tables points is t sets are a).from n z)

  last : suc t - 1 ≡ t
  last = omega arith

  -- a signal of which a bit is not known at an end is not clear there
  start_unclear : (s : ℕ) (c : Cell) → In c (signal_cells d s) → a.kept c ≡ None → IsUnclear d h dump (suc t) (a_signal s)
  start_unclear s c inside none = inl (λ v. sure_bit a.kept (signal_cells d s) v.0 (at_start (a_signal s) v.0 (subst (λ u. clear d h dump u (a_signal s) v.0) last v.1)) c inside none)

  end_unclear : (s : ℕ) (c : Cell) → In c (signal_cells d s) → (all_run st).kept c ≡ None → IsUnclear d h dump (suc t) (a_signal s)
  end_unclear s c inside none = inr (λ v. sure_bit (all_run st).kept (signal_cells d s) v.0 (at_end (a_signal s) v.0 v.1) c inside none)

  -- at a time that is not listed what is clear was clear before
  shrunk : is_listed dump (suc t) ≡ false → (x : Thing) (bits : List Bit) → clear d h dump (suc t) x bits → clear d h dump t x bits
  shrunk e =
      shrink_law d h is.lawful dump is.fits t window (λ on. both_ways _ e ((listed_law dump (suc t)).1 on)) (sample a.kept) (λ x bits k. sample_agrees d a.kept x bits (at_start x bits k))

  -- so a signal of which a bit is known and changes is not clear after
  differ_unclear : is_listed dump (suc t) ≡ false → (s : ℕ) (c : Cell) → In c (signal_cells d s) → (p q : Bit) → a.kept c ≡ Some p → (all_run st).kept c ≡ Some q → (p ≡ q → ⊥) → IsUnclear d h dump (suc t) (a_signal s)
  differ_unclear e s c inside p q was now apart =
      inr (λ v. apart (same_some (sym was ∙ same_at a.kept (all_run st).kept (signal_cells d s) c inside (at_start (a_signal s) v.0 (shrunk e (a_signal s) v.0 v.1) ∙ sym (at_end (a_signal s) v.0 v.1)) ∙ now)))
    where
      same_some : Some p ≡ Some q → p ≡ q
      same_some f = cc

  -- nor one of which a bit is not known before the step
  before_none : (b : Bool) → is_listed dump (suc t) ≡ b → (s : ℕ) (c : Cell) → In c (signal_cells d s) → (if b then a.kept c else join_bit (a.kept c) ((all_run st).kept c)) ≡ None → IsUnclear d h dump (suc t) (a_signal s)
  before_none true e s c inside none = start_unclear s c inside none
  before_none false e s c inside none =
      ⊎_elim (λ was. start_unclear s c inside was) (λ k. ⊎_elim (λ now. end_unclear s c inside now) (λ m. differ_unclear e s c inside m.0 m.1 m.2 m.3 m.4) k) (join_none (a.kept c) ((all_run st).kept c) none)

  before_unclear : (s : ℕ) (c : Cell) → In c (signal_cells d s) → before_of st c ≡ None → IsUnclear d h dump (suc t) (a_signal s)
  before_unclear s c inside none = before_none (is_listed dump (suc t)) refl s c inside none

  -- what is known before a time that is not listed is known after it
  known_after : is_listed dump (suc t) ≡ false → (c : Cell) (p : Bit) → before_of st c ≡ Some p → (all_run st).kept c ≡ Some p
  known_after e c p f =
      join_is (a.kept c) ((all_run st).kept c) p (subst (λ b. (if b then a.kept c else join_bit (a.kept c) ((all_run st).kept c)) ≡ Some p) e f)

  some_some : (y z : Doubted) (o : Option Doubted) → o ≡ Some y → o ≡ Some z → z ≡ y
  some_some y z o e f = cc

  none_some : (y : Doubted) (o : Option Doubted) → o ≡ Some y → o ≡ None → ⊥
  none_some y o e f = cc

  -- a doubt that is reported of a point on signal s
  told_doubt_of : (x : Point) (s : ℕ) (p q : Bool) (n : Marking) (y : Doubted) → In n (tell st x s p q) → n.doubt ≡ Some y → (p ≡ false) × (q ≡ true) × (record { time = suc t; thing = s } ≡ y)
  told_doubt_of x s p q n y there e = ⊎_elim (λ z. absurd (none_some y n.doubt e z.1)) (λ z. (z.0, z.1, some_some y (record { time = suc t; thing = s }) n.doubt e z.2)) (told_of st x s p q n there).1

  wide : (s : ℕ) → s < length d.signals → 0 < (signal_at d s).width
  wide s below =
      let all = at_all (is_signal d) d.signals s is.lawful.signals below in
      omega (arith, leb-true 1 (signal_at d s).width (and_parts _ _ (and_parts _ _ (and_parts _ _ (and_parts _ _ all).0).0).0).1)

  toggle_has : (s i : ℕ) (rise : Bool) → In (toggle_point s i rise) points → In (toggle_cell d s i) (signal_cells d s)
  toggle_has s i rise member = subst (λ z. In (toggle_cell d s i) (signal_cells d z)) (toggle_thing d s i) (signal_has d (toggle_cell d s i) (subst (λ z. (toggle_cell d s i).place < (signal_at d z).width) (sym (toggle_thing d s i)) (toggle_in d s i (wide s (is.toggles s i rise member).0))))

  if_in : (b : Bool) (n : Marking) (ns : List Marking) → In n (if b then ns else []) → (b ≡ true) × In n ns
  if_in true n ns h' = (refl, h')
  if_in false n ns h' = absurd h'

  as_doubt : (x : Point) (s : ℕ) (y : Doubted) → IsPointOn x s → MayMoveUnlisted d dump (suc t) s → IsUnclear d h dump (suc t) (a_signal s) → record { time = suc t; thing = s } ≡ y → DoubtNow x y
  as_doubt x s y on may unclear e = (ap (λ z. z.time) (sym e), subst (λ z. IsInDoubt d h dump x (suc t) z.thing) e (of_signal window on may unclear))

  -- what moves may move
  may : (s : ℕ) → sets.moves s ≡ true → MayMoveUnlisted d dump (suc t) s
  may s moves = inr ((are.moves s).0 moves)

  toggle_doubt : (x : Point) (s i : ℕ) (rise : Bool) → In (toggle_point s i rise) points → IsPointOn x s → (p q : Bit) (n : Marking) (y : Doubted) → In n (if sets.moves s then mark_toggle st x s (toggle_cell d s i) p q else []) → n.doubt ≡ Some y → DoubtNow x y
  toggle_doubt x s i rise member on p q n y there e =
      let k = if_in (sets.moves s) n (mark_toggle st x s (toggle_cell d s i) p q) there in
      let told = told_doubt_of x s (surely_same (before_of st (toggle_cell d s i)) (Some p) && surely_same ((all_run st).kept (toggle_cell d s i)) (Some q)) (not (surely_differ (before_of st (toggle_cell d s i)) (Some p)) && not (surely_differ ((all_run st).kept (toggle_cell d s i)) (Some q))) n y k.1 e in
      let both = and_parts (not (surely_differ (before_of st (toggle_cell d s i)) (Some p))) _ told.1 in
      as_doubt x s y on (may s k.0)
      (⊎_elim (λ f. before_unclear s (toggle_cell d s i) (toggle_has s i rise member) (unknown_bit (before_of st (toggle_cell d s i)) p f both.0)) (λ f. end_unclear s (toggle_cell d s i) (toggle_has s i rise member) (unknown_bit ((all_run st).kept (toggle_cell d s i)) q f both.1)) (and_cases (surely_same (before_of st (toggle_cell d s i)) (Some p)) _ told.0)) told.2

  state_doubt : (b : Bool) → is_listed dump (suc t) ≡ b → (x : Point) (s : ℕ) → IsPointOn x s → (bits : List Bit) (n : Marking) (y : Doubted) → In n (if b then mark_had st x s bits else (if sets.moves s then mark_reached st x s bits else [])) → n.doubt ≡ Some y → DoubtNow x y
  state_doubt true e x s on bits n y there f =
      let told = told_doubt_of x s (are_surely (known_bits d (all_run st).kept s) bits) (may_be (known_bits d (all_run st).kept s) bits) n y there f in
      let c = unknown_in (all_run st).kept (signal_cells d s) bits told.0 told.1 in
      as_doubt x s y on (inl ((listed_law dump (suc t)).0 e)) (end_unclear s c.0 c.1 c.2) told.2
  state_doubt false e x s on bits n y there f =
      let k = if_in (sets.moves s) n (mark_reached st x s bits) there in
      let told = told_doubt_of x s false (may_be (known_bits d (all_run st).kept s) bits && not (are_surely (known_bits d (before_of st) s) bits)) n y k.1 f in
      let both = and_parts (may_be (known_bits d (all_run st).kept s) bits) _ told.1 in
      let c = unknown_before (before_of st) (all_run st).kept (signal_cells d s) bits (known_after e) (not-true _ both.1) both.0 in
      as_doubt x s y on (may s k.0) (before_unclear s c.0 c.1 c.2) told.2

  point_doubt : (x : Point) → In x points → (n : Marking) (y : Doubted) → In n (point_notes st x) → n.doubt ≡ Some y → DoubtNow x y
  point_doubt (line_point q k at word) member n y there e = absurd there
  point_doubt (logic_point q k at op c) member n y there e = absurd there
  point_doubt (word_point m i write) member n y there e = absurd there
  point_doubt (toggle_point s i true) member n y there e = toggle_doubt (toggle_point s i true) s i true member refl Zero One n y there e
  point_doubt (toggle_point s i false) member n y there e = toggle_doubt (toggle_point s i false) s i false member refl One Zero n y there e
  point_doubt (state_point i name s state x) member n y there e = state_doubt (is_listed dump (suc t)) refl (state_point i name s state x) s refl x.bits n y there e
  point_doubt (arc_point i name s from to' x z) member n y there e =
      let k = if_in (sets.moves s) n (tell st (arc_point i name s from to' x z) s (are_surely (known_bits d (before_of st) s) x.bits && are_surely (known_bits d (all_run st).kept s) z.bits) (may_be (known_bits d (before_of st) s) x.bits && may_be (known_bits d (all_run st).kept s) z.bits)) there in
      let told = told_doubt_of (arc_point i name s from to' x z) s (are_surely (known_bits d (before_of st) s) x.bits && are_surely (known_bits d (all_run st).kept s) z.bits) (may_be (known_bits d (before_of st) s) x.bits && may_be (known_bits d (all_run st).kept s) z.bits) n y k.1 e in
      let both = and_parts (may_be (known_bits d (before_of st) s) x.bits) _ told.1 in
      as_doubt (arc_point i name s from to' x z) s y refl (may s k.0)
      (⊎_elim (λ f. let c = unknown_in (before_of st) (signal_cells d s) x.bits f both.0 in before_unclear s c.0 c.1 c.2) (λ f. let c = unknown_in (all_run st).kept (signal_cells d s) z.bits f both.1 in end_unclear s c.0 c.1 c.2) (and_cases (are_surely (known_bits d (before_of st) s) x.bits) _ told.0)) told.2

  -- each doubt that is reported in the step is one
  abbrev After : List Marking
  After = (all_run st).notes ++ all_point_notes st points

  pub doubt_step : (x : Point) (y : Doubted) → IsDoubtMarked d x y After → IsDoubtMarked d x y a.notes ⊎ DoubtNow x y
  doubt_step x y told =
      let n = doubt_in d x y After told in
      ⊎_elim (λ there. ⊎_elim (λ old. inl (in_doubt d x y a.notes n.0 old n.2 n.3)) (λ now. inr now) (body_doubt x y n.0 there n.2 n.3))
      (λ there. let k = in_point_notes st points n.0 there in inr (subst (λ z. DoubtNow z y) (subst (IsKeyOf d x) (note_key st k.0 n.0 k.2) n.2) (point_doubt k.0 k.1 n.0 y k.2 n.3)))
      (in_halves n.0 (all_run st).notes (all_point_notes st points) n.1)

  -- where a bit that the dump has changes, it may move
  module _ (calm : (c : Cell) → is_dumped d dump.bound c ≡ true → sets.moves c.thing ≡ false → dump.values t c ≡ dump.values (suc t) c) where
    hit_told_as : (x : Point) (p : ℕ) (ns : List Note) (s : Spot) → spot_at x ≡ Some s → IsBlock d x p → HasHitNote s ns → ((n : Marking) → In n (markings_by p ns) → In n (all_run st).notes) → IsHitMarked d x After
    hit_told_as x p ns s spot block note there =
        let n = hit_told p ns s note in
        in_hit d x After n.0 (in_left n.0 (all_run st).notes (all_point_notes st points) (there n.0 n.1)) (subst (IsKeyOf d x) (sym n.2) (spot, block)) n.3

    later : (n : Marking) → In n (clocked_run st).notes → In n (all_run st).notes
    later n z = (last_runs d h early_law dump run tables points is t sets are a).keeps n ((order_runs d h early_law dump run tables points is t sets are a).keeps n z)

    clocked_known : (p : ℕ) → IsClocked (process_at d p) → In p tables.clocked
    clocked_known p is_clocked = (is.tabled.clocked p).1 (⊎_elim (λ lt. lt) (λ le. absurd (subst IsClocked (past d.processes p le) is_clocked)) (Rattle.std.proofs.lemmas.Bool.cases_lt p (length d.processes)), is_clocked)

    pub reached_step : (p : ℕ) (x : Point) → IsReached d h dump (suc t) p x → IsHitMarked d x After
    reached_step p x reached = ⊎_elim by_clean by_settling reached.2
      where
        by_clean : (c : Cell) × IsCleanAt d dump (suc t) p c × Rattle.design_model.specs.Open.ReachesFrom d (Rattle.design_model.specs.Open.KnownOnEntry d h dump (suc t) p) (body_at d p) x → IsHitMarked d x After
        by_clean c = go (sets.trigger p) refl
          where
            go : (o : Option ℕ) → sets.trigger p ≡ o → IsHitMarked d x After
            go None e = absurd (are.no_trigger p e c.0 c.1)
            go (Some s) e =
                let k = clean_told.has p (clocked_known p (edge_clocked (process_at d p) c.1.can_wake.0.0 c.0 c.1.can_wake.0.1), (s, e)) in
                let n = clean_reached d h dump run tables points is early_law asked t window sets are a at_start p k.0 k.1 x c.2 in
                hit_told_as x p k.0 n.0 n.1 reached.1 n.2 (λ n z. later n (weak_told.keeps n (k.2 n z)))

        by_settling : (IsClocked (process_at d p) → ⊥) × Rattle.design_model.specs.Open.HasChangedWakeBit d dump (suc t) p × Rattle.design_model.specs.Open.ReachesFrom d (Rattle.design_model.specs.Open.KnownAtEnd d h dump (suc t) p) (body_at d p) x → IsHitMarked d x After
        by_settling b = ⊎_elim in_order in_last ((is.tabled.others p).1 (below, b.0))
          where
            below : p < length d.processes
            below = ⊎_elim (λ lt. lt) (λ le. absurd (both_ways false refl (subst (λ z. Rattle.design_model.specs.Machine.is_level z b.1.0.thing ≡ true) (past d.processes p le) b.1.1.2.0))) (Rattle.std.proofs.lemmas.Bool.cases_lt p (length d.processes))

            touched : is_touched st p ≡ true
            touched =
                in_any sets.moves (tables.watched p) b.1.0.thing ((is.tabled.watched p b.1.0.thing).1 b.1.1.2.0)
                (true_from_ne_false _ (λ f. b.1.3 (ap (λ u. dump.values u b.1.0) last ∙ calm b.1.0 (and_from (dump.bound b.1.0.thing) _ b.1.2 (lt-ltb _ _ b.1.1.1)) f)))

            in_order : In p tables.order → IsHitMarked d x After
            in_order z =
                let k = (order_runs d h early_law dump run tables points is t sets are a).has p (z, touched) in
                let n = settle_reached d h early_law dump run tables points is asked t window sets are a at_start at_end p k.0 (of_order d h early_law dump run tables points is t sets are a p k.0 k.1) b.1 x b.2 in
                hit_told_as x p k.0 n.0 n.1 reached.1 n.2 (λ n y. (last_runs d h early_law dump run tables points is t sets are a).keeps n (k.2 n y))

            in_last : In p tables.last → IsHitMarked d x After
            in_last z =
                let k = (last_runs d h early_law dump run tables points is t sets are a).has p (z, touched) in
                let n = settle_reached d h early_law dump run tables points is asked t window sets are a at_start at_end p k.0 (of_last d h early_law dump run tables points is t sets are a p k.0 k.1) b.1 x b.2 in
                hit_told_as x p k.0 n.0 n.1 reached.1 n.2 k.2
