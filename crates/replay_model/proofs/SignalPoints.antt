-- The marks that a closing step makes on toggle, state and arc points are sound and complete.
use Rattle.std.proofs.Common.{◌≡◌, ◌⊎◌, inl, inr, ⊎_elim, ℕ, suc, Bool, true, false, not, ◌&&◌, List, [], ◌∷◌, map, refl, sym, ap, subst, ◌∙◌, pos, Option, Some, None, if◌then◌else◌}
use Rattle.std.proofs.lemmas.Bool.{and_from, and_parts, both_ways, false_from_ne_true, not_from_false, true_from_ne_false}
use Rattle.event_machine.specs.Cell.{Cell, Values}
use Rattle.event_machine.specs.Habit.{Habit}
use Rattle.event_machine.specs.Laws.{EarlyLaw}
use Rattle.design_model.specs.four_state.Parts.{within}
use Rattle.design_model.specs.four_state.Vector.{Vector}
use Rattle.design_model.specs.four_state.declared.bit.Bit.{Bit}
use Rattle.design_model.specs.four_state.declared.bit.Bit.TheVariants.{One, Zero}
use Rattle.design_model.specs.declared.point.Point.{Point}
use Rattle.design_model.specs.declared.point.Point.TheVariants.{Line as line_point, Logic as logic_point, Toggle as toggle_point, State as state_point, Arc as arc_point, Word as word_point}
use Rattle.design_model.specs.Design.{Design, In, IsComb, cell, process_at, signal_at, signal_bits, signal_cells}
use Rattle.design_model.specs.Machine.{machine}
use Rattle.design_model.specs.Run.{Run, StepOf, settled}
use Rattle.design_model.specs.Shows.{BoundDump, IsListed, IsShowing, IsWindow}
use Rattle.design_model.specs.Value.{offset}
use Rattle.design_model.specs.Assignment.{signal_range}
use Rattle.design_model.specs.Points.{HitIn, IsHitAt, indexed_cell, toggle_cell}
use Rattle.design_model.proofs.Hits.{step_here}
use Rattle.design_model.proofs.StepLaws.{StepLaws}
use Rattle.design_model.specs.StepLaws.{IsLeft, StepFacts}
use Rattle.design_model.proofs.Toggles.{end_values, start_values}
use Rattle.hidden_times.specs.Hidden.{is_listed}
use Rattle.hidden_times.proofs.Listed.{listed_law}
use Rattle.body_replay.specs.Contract.{Doubted, spot_at}
use Rattle.body_replay.specs.KnownBits.{Allows}
use Rattle.body_replay.specs.Replay.{Spot, line, node, word_read, word_write}
use Rattle.body_replay.specs.Runs.{Runs}
use Rattle.body_replay.specs.Store.{AllowsState, Kept}
use Rattle.body_replay.specs.known_state.Join.{join_bit}
use Rattle.replay_model.specs.Sets.{AreSets, Sets}
use Rattle.replay_model.specs.Tables.{Tables}
use Rattle.replay_model.specs.Marks.{Marking, of_point}
use Rattle.replay_model.specs.Step.{Closing, Replay, all_point_notes, all_run, are_surely, before_of, known_bits, mark_had, mark_reached, may_be, point_notes, surely_differ, surely_same, tell, mark_toggle}
use Rattle.replay_model.specs.Laws.{IsReplayOf, closing_at}
use Rattle.replay_model.proofs.AllowedBy.{IsUnknown}
use Rattle.replay_model.proofs.Allows.{all_sound, here}
use Rattle.replay_model.proofs.Bits.{differ_apart, in_halves, in_left, in_right, join_left, same_equal}
use Rattle.replay_model.proofs.Settling.{in_signal}

-- what is reported of one point
pub in_point_notes : (st : Closing) (xs : List Point) (n : Marking) → In n (all_point_notes st xs) → (x : Point) × In x xs × In n (point_notes st x)
in_point_notes st [] n h = absurd h
in_point_notes st (x ∷ xs) n h = ⊎_elim (λ a. (x, inl refl, a)) (λ b. let r = in_point_notes st xs n b in (r.0, inr r.1, r.2)) (in_halves n (point_notes st x) (all_point_notes st xs) h)

pub point_notes_in : (st : Closing) (xs : List Point) (x : Point) (n : Marking) → In x xs → In n (point_notes st x) → In n (all_point_notes st xs)
point_notes_in st [] x n h there = absurd h
point_notes_in st (y ∷ xs) x n (inl e) there = in_left n (point_notes st y) (all_point_notes st xs) (subst (λ z. In n (point_notes st z)) (sym e) there)
point_notes_in st (y ∷ xs) x n (inr h) there = in_right n (point_notes st y) (all_point_notes st xs) (point_notes_in st xs x n h there)

pub told_of : (st : Closing) (x : Point) (s : ℕ) (a b : Bool) (n : Marking) → In n (tell st x s a b) → (n.key ≡ of_point x) × (((a ≡ true) × (n.doubt ≡ None)) ⊎ ((a ≡ false) × (b ≡ true) × (n.doubt ≡ Some (record { time = st.time; thing = s }))))
told_of st x s true b n (inl e) = (ap (λ z. z.key) (sym e), inl (refl, ap (λ z. z.doubt) (sym e)))
told_of st x s true b n (inr e) = absurd e
told_of st x s false true n (inl e) = (ap (λ z. z.key) (sym e), inr (refl, refl, ap (λ z. z.doubt) (sym e)))
told_of st x s false true n (inr e) = absurd e
told_of st x s false false n h = absurd h

key_if : (st : Closing) (x : Point) (s : ℕ) (m a b : Bool) (n : Marking) → In n (if m then tell st x s a b else []) → n.key ≡ of_point x
key_if st x s true a b n h = (told_of st x s a b n h).0
key_if st x s false a b n h = absurd h

state_key : (st : Closing) (x : Point) (s : ℕ) (bits : List Bit) (b m : Bool) (n : Marking) → In n (if b then mark_had st x s bits else (if m then mark_reached st x s bits else [])) → n.key ≡ of_point x
state_key st x s bits true m n h = (told_of st x s (are_surely (known_bits st.design (all_run st).kept s) bits) (may_be (known_bits st.design (all_run st).kept s) bits) n h).0
state_key st x s bits false m n h = key_if st x s m false (may_be (known_bits st.design (all_run st).kept s) bits && not (are_surely (known_bits st.design (before_of st) s) bits)) n h

pub note_key : (st : Closing) (x : Point) (n : Marking) → In n (point_notes st x) → n.key ≡ of_point x
note_key st (line_point q k at word) n h = absurd h
note_key st (logic_point q k at op c) n h = absurd h
note_key st (word_point m i write) n h = absurd h
note_key st (toggle_point s i true) n h = key_if st (toggle_point s i true) s (st.sets.moves s) _ _ n h
note_key st (toggle_point s i false) n h = key_if st (toggle_point s i false) s (st.sets.moves s) _ _ n h
note_key st (state_point i name s state x) n h = state_key st (state_point i name s state x) s x.bits st.listed (st.sets.moves s) n h
note_key st (arc_point i name s from to' x y) n h = key_if st (arc_point i name s from to' x y) s (st.sets.moves s) _ _ n h

-- something is reported of the point at this time
abbrev pub PointNow : Closing → Point → List Marking → Type 0
PointNow st x ns = (n : Marking) × In n ns × (n.key ≡ of_point x) × ((n.doubt ≡ None) ⊎ ((y : ℕ) × (n.doubt ≡ Some (record { time = st.time; thing = y }))))

pub tells_of : (st : Closing) (x : Point) (s : ℕ) (a b : Bool) → b ≡ true → PointNow st x (tell st x s a b)
tells_of st x s true b e = (record { key = of_point x; doubt = None }, inl refl, refl, inl refl)
tells_of st x s false true e = (record { key = of_point x; doubt = Some (record { time = st.time; thing = s }) }, inl refl, refl, inr (s, refl))
tells_of st x s false false e = absurd (both_ways false refl e)

-- bits that are surely these are these; bits that are these may be
pub surely_bits : (k : Kept) (v : Values Bit) → AllowsState k v → (cs : List Cell) (bs : List Bit) → are_surely (map k cs) bs ≡ true → map v cs ≡ bs
surely_bits k v ok [] [] e = refl
surely_bits k v ok [] (b ∷ bs) e = absurd (both_ways false refl e)
surely_bits k v ok (c ∷ cs) [] e = absurd (both_ways false refl e)
surely_bits k v ok (c ∷ cs) (b ∷ bs) e =
    let p = and_parts (surely_same (k c) (Some b)) _ e in
    Rattle.std.proofs.Common.ap₂ (λ x xs. x ∷ xs) (same_equal (k c) (Some b) (v c) b p.0 (ok c) refl) (surely_bits k v ok cs bs p.1)

pub may_bit : (p : Option Bit) (a b : Bit) → Allows p a → a ≡ b → not (surely_differ p (Some b)) ≡ true
may_bit p a b ok e = not_from_false _ (false_from_ne_true _ (λ f. differ_apart p (Some b) a b f ok refl e))

head_or : Bit → List Bit → Bit
head_or b [] = b
head_or b (c ∷ cs) = c

tail_of : List Bit → List Bit
tail_of [] = []
tail_of (c ∷ cs) = cs

pub may_bits : (k : Kept) (v : Values Bit) → AllowsState k v → (cs : List Cell) (bs : List Bit) → map v cs ≡ bs → may_be (map k cs) bs ≡ true
unfolding head_or tail_of
may_bits k v ok [] [] e = refl
may_bits k v ok [] (b ∷ bs) e = absurd (cc)
may_bits k v ok (c ∷ cs) [] e = absurd (cc)
may_bits k v ok (c ∷ cs) (b ∷ bs) e = and_from _ _ (may_bit (k c) (v c) b (ok c) (ap (head_or b) e)) (may_bits k v ok cs bs (ap tail_of e))

indexed_thing : (s : ℕ) (o : Option ℕ) → (indexed_cell s o).thing ≡ s
indexed_thing s None = refl
indexed_thing s (Some k) = refl

pub toggle_thing : (d : Design) (s i : ℕ) → (toggle_cell d s i).thing ≡ s
toggle_thing d s i = go (signal_at d s).ranged (indexed_cell s (within (signal_at d s).width (offset (signal_range d s) (pos i)))) (indexed_thing s (within (signal_at d s).width (offset (signal_range d s) (pos i))))
  where
    go : (b : Bool) (c : Cell) → c.thing ≡ s → (if b then c else cell s 0).thing ≡ s
    go true c e = e
    go false c e = refl

module _ (d : Design) (h : Habit) (dump : BoundDump) (run : Runs) (tables : Tables) (points : List Point) (is : IsReplayOf d h dump run tables points) (laws : StepLaws (machine d) h) (early_law : EarlyLaw (machine d)) (t : ℕ) (window : IsWindow dump (suc t)) (sets : Sets) (are : AreSets d h dump (suc t) sets) (a : Replay) (r : Run) (showing : IsShowing d h dump (suc t) r) (starts : AllowsState a.kept (settled d r t)) (acted : (p : ℕ) → IsComb (process_at d p) → a.acted p ≡ true → IsLeft d p (settled d r t)) (unknown : IsUnknown d dump a) where
  abbrev st : Closing
  st = closing_at d dump run tables sets t a

  abbrev facts : StepFacts d h dump t (settled d r t) (settled d r (suc t))
  facts = here d h dump run tables points is laws early_law t window sets are a r showing starts

  ends : AllowsState (all_run st).kept (settled d r (suc t))
  ends = (all_sound d h dump run tables points is laws early_law t window sets are a r showing starts acted unknown).allowed

  -- what is known before the step allows the settled values at its start
  before_at : (b : Bool) (c : Cell) → Allows (if b then a.kept c else join_bit (a.kept c) ((all_run st).kept c)) (settled d r t c)
  before_at true c = starts c
  before_at false c = join_left (a.kept c) ((all_run st).kept c) (settled d r t c) (starts c)

  befores : AllowsState (before_of st) (settled d r t)
  befores c = before_at (is_listed dump (suc t)) c

  -- where something differs at the ends there is a step
  step_now : (settled d r (suc t) ≡ settled d r t → ⊥) → (k : StepOf r) × (k.step.time ≡ suc t)
  step_now differ = ⊎_elim (λ same. absurd (differ same)) (λ s. (s.step, s.at)) (step_here d h r showing.is_run t)

  zero_one : Zero ≡ One → ⊥
  zero_one e = cc

  one_zero : One ≡ Zero → ⊥
  one_zero e = cc

  stands : (c : Cell) (x y : Bit) → (x ≡ y → ⊥) → (surely_same (before_of st c) (Some x) && surely_same ((all_run st).kept c) (Some y)) ≡ true → (k : StepOf r) × (k.step.time ≡ suc t) × ((Rattle.design_model.specs.Run.start_of d r k).values c ≡ x) × ((Rattle.design_model.specs.Run.end_of d r k).values c ≡ y)
  stands c x y apart e =
      let p = and_parts (surely_same (before_of st c) (Some x)) _ e in
      let before : settled d r t c ≡ x = same_equal (before_of st c) (Some x) (settled d r t c) x p.0 (befores c) refl in
      let after : settled d r (suc t) c ≡ y = same_equal ((all_run st).kept c) (Some y) (settled d r (suc t) c) y p.1 (ends c) refl in
      let k = step_now (λ same. apart (sym before ∙ ap (λ f. f c) (sym same) ∙ after)) in
      (k.0, k.1, ap (λ f. f c) (start_values d h r showing.is_run k.0 t k.1) ∙ before, ap (λ f. f c) (end_values d h r showing.is_run k.0 (suc t) k.1) ∙ after)

  if_in : (b : Bool) (n : Marking) (ns : List Marking) → In n (if b then ns else []) → (b ≡ true) × In n ns
  if_in true n ns h = (refl, h)
  if_in false n ns h = absurd h

  sure_told : (x : Point) (s : ℕ) (p q : Bool) (n : Marking) → In n (tell st x s p q) → n.doubt ≡ None → p ≡ true
  sure_told x s p q n there e = ⊎_elim (λ z. z.0) (λ z. absurd (not_both n.doubt (record { time = suc t; thing = s }) e z.2)) (told_of st x s p q n there).1
    where
      not_both : (o : Option Doubted) (y : Doubted) → o ≡ None → o ≡ Some y → ⊥
      not_both o y e f = cc

  toggle_hit : (x : Point) (s : ℕ) (c : Cell) (p q : Bit) (n : Marking) → In n (mark_toggle st x s c p q) → n.doubt ≡ None → (surely_same (before_of st c) (Some p) && surely_same ((all_run st).kept c) (Some q)) ≡ true
  toggle_hit x s c p q n there e = sure_told x s (surely_same (before_of st c) (Some p) && surely_same ((all_run st).kept c) (Some q)) (not (surely_differ (before_of st c) (Some p)) && not (surely_differ ((all_run st).kept c) (Some q))) n there e

  -- a state is reported to be hit at a listed time alone
  state_hit : (b : Bool) → is_listed dump (suc t) ≡ b → (x : Point) (s : ℕ) (bits : List Bit) (n : Marking) → In n (if b then mark_had st x s bits else (if sets.moves s then mark_reached st x s bits else [])) → n.doubt ≡ None → IsListed dump (suc t) × (signal_bits d (settled d r (suc t)) s ≡ bits)
  state_hit true e x s bits n there f =
      let p = sure_told x s (are_surely (known_bits d (all_run st).kept s) bits) (may_be (known_bits d (all_run st).kept s) bits) n there f in
      ((listed_law dump (suc t)).0 e, surely_bits (all_run st).kept (settled d r (suc t)) ends (signal_cells d s) bits p)
  state_hit false e x s bits n there f =
      absurd (both_ways false refl (sure_told x s false (may_be (known_bits d (all_run st).kept s) bits && not (are_surely (known_bits d (before_of st) s) bits)) n (if_in (sets.moves s) n (mark_reached st x s bits) there).1 f))

  -- a hit that is reported of a point on a signal is one
  pub point_hit : (x : Point) → In x points → (n : Marking) → In n (point_notes st x) → n.doubt ≡ None → IsHitAt d dump r x (suc t)
  point_hit (line_point q k at word) member n there e = absurd there
  point_hit (logic_point q k at op c) member n there e = absurd there
  point_hit (word_point m i write) member n there e = absurd there
  point_hit (toggle_point s i true) member n there e =
      let p = toggle_hit (toggle_point s i true) s (toggle_cell d s i) Zero One n (if_in (sets.moves s) n (mark_toggle st (toggle_point s i true) s (toggle_cell d s i) Zero One) there).1 e in
      inl (let k = stands (toggle_cell d s i) Zero One zero_one p in (k.0, k.1, (k.2, k.3)))
  point_hit (toggle_point s i false) member n there e =
      let p = toggle_hit (toggle_point s i false) s (toggle_cell d s i) One Zero n (if_in (sets.moves s) n (mark_toggle st (toggle_point s i false) s (toggle_cell d s i) One Zero) there).1 e in
      inl (let k = stands (toggle_cell d s i) One Zero one_zero p in (k.0, k.1, (k.2, k.3)))
  point_hit (state_point i name s state x) member n there e =
      let k = state_hit (is_listed dump (suc t)) refl (state_point i name s state x) s x.bits n there e in
      inr (k.0, k.1)
  point_hit (arc_point i name s from to' x y) member n there e =
      let inside = (if_in (sets.moves s) n (tell st (arc_point i name s from to' x y) s (are_surely (known_bits d (before_of st) s) x.bits && are_surely (known_bits d (all_run st).kept s) y.bits) (may_be (known_bits d (before_of st) s) x.bits && may_be (known_bits d (all_run st).kept s) y.bits)) there).1 in
      let both = and_parts (are_surely (known_bits d (before_of st) s) x.bits) (are_surely (known_bits d (all_run st).kept s) y.bits) (sure_told (arc_point i name s from to' x y) s _ _ n inside e) in
      let before : signal_bits d (settled d r t) s ≡ x.bits = surely_bits (before_of st) (settled d r t) befores (signal_cells d s) x.bits both.0 in
      let after : signal_bits d (settled d r (suc t)) s ≡ y.bits = surely_bits (all_run st).kept (settled d r (suc t)) ends (signal_cells d s) y.bits both.1 in
      let k = step_now (λ same. is.arcs i name s from to' x y member (sym before ∙ ap (λ f. signal_bits d f s) (sym same) ∙ after)) in
      inl (k.0, k.1, (ap (λ f. signal_bits d f s) (start_values d h r showing.is_run k.0 t k.1) ∙ before, ap (λ f. signal_bits d f s) (end_values d h r showing.is_run k.0 (suc t) k.1) ∙ after))

  -- a point on a signal that is hit at this time is reported
  moves_of : (c : Cell) → (settled d r t c ≡ settled d r (suc t) c → ⊥) → sets.moves c.thing ≡ true
  moves_of c differ = true_from_ne_false _ (λ f. differ (sym (facts.unmoved c (λ m. both_ways _ f ((are.moves c.thing).1 m)))))

  if_then : (x : Point) (b : Bool) (ns : List Marking) → b ≡ true → PointNow st x ns → PointNow st x (if b then ns else [])
  if_then x true ns e now = now
  if_then x false ns e now = absurd (both_ways false refl e)

  toggle_marked : (x : Point) (s i : ℕ) (p q : Bit) → (p ≡ q → ⊥) → settled d r t (toggle_cell d s i) ≡ p → settled d r (suc t) (toggle_cell d s i) ≡ q → PointNow st x (if sets.moves s then mark_toggle st x s (toggle_cell d s i) p q else [])
  toggle_marked x s i p q apart before after =
      if_then x (sets.moves s) (mark_toggle st x s (toggle_cell d s i) p q) (subst (λ z. sets.moves z ≡ true) (toggle_thing d s i) (moves_of (toggle_cell d s i) (λ same. apart (sym before ∙ same ∙ after))))
      (tells_of st x s (surely_same (before_of st (toggle_cell d s i)) (Some p) && surely_same ((all_run st).kept (toggle_cell d s i)) (Some q)) (not (surely_differ (before_of st (toggle_cell d s i)) (Some p)) && not (surely_differ ((all_run st).kept (toggle_cell d s i)) (Some q)))
      (and_from _ _ (may_bit (before_of st (toggle_cell d s i)) (settled d r t (toggle_cell d s i)) p (befores (toggle_cell d s i)) before) (may_bit ((all_run st).kept (toggle_cell d s i)) (settled d r (suc t) (toggle_cell d s i)) q (ends (toggle_cell d s i)) after)))

  at_start : (k : StepOf r) → k.step.time ≡ suc t → (c : Cell) → settled d r t c ≡ (Rattle.design_model.specs.Run.start_of d r k).values c
  at_start k at c = ap (λ f. f c) (sym (start_values d h r showing.is_run k t at))

  at_end : (k : StepOf r) → k.step.time ≡ suc t → (c : Cell) → settled d r (suc t) c ≡ (Rattle.design_model.specs.Run.end_of d r k).values c
  at_end k at c = ap (λ f. f c) (sym (end_values d h r showing.is_run k (suc t) at))

  -- where no cell of a signal may move its bits stay
  calm_bits : (s : ℕ) → sets.moves s ≡ false → (cs : List Cell) → ((c : Cell) → In c cs → c.thing ≡ s) → map (settled d r (suc t)) cs ≡ map (settled d r t) cs
  calm_bits s calm [] own = refl
  calm_bits s calm (c ∷ cs) own =
      Rattle.std.proofs.Common.ap₂ (λ b bs. b ∷ bs) (facts.unmoved c (λ m. both_ways _ calm (subst (λ z. sets.moves z ≡ true) (own c (inl refl)) ((are.moves c.thing).1 m)))) (calm_bits s calm cs (λ b x. own b (inr x)))

  -- a state that is had at a listed time, or that the signal comes to in the step
  state_now : (b : Bool) → is_listed dump (suc t) ≡ b → (x : Point) (s : ℕ) (bits : List Bit) → signal_bits d (settled d r (suc t)) s ≡ bits → IsListed dump (suc t) ⊎ (signal_bits d (settled d r t) s ≡ signal_bits d (settled d r (suc t)) s → ⊥) → PointNow st x (if b then mark_had st x s bits else (if sets.moves s then mark_reached st x s bits else []))
  state_now true e x s bits f why =
      tells_of st x s (are_surely (known_bits d (all_run st).kept s) bits) (may_be (known_bits d (all_run st).kept s) bits) (may_bits (all_run st).kept (settled d r (suc t)) ends (signal_cells d s) bits f)
  state_now false e x s bits f (inl on) = absurd (both_ways _ e ((listed_law dump (suc t)).1 on))
  state_now false e x s bits f (inr differ) =
      if_then x (sets.moves s) (mark_reached st x s bits) (true_from_ne_false _ (λ calm. differ (sym (calm_bits s calm (signal_cells d s) (λ c z. (in_signal d s c z).0)))))
      (tells_of st x s false (may_be (known_bits d (all_run st).kept s) bits && not (are_surely (known_bits d (before_of st) s) bits))
      (and_from _ _ (may_bits (all_run st).kept (settled d r (suc t)) ends (signal_cells d s) bits f) (not_from_false _ (false_from_ne_true _ (λ g. differ (surely_bits (before_of st) (settled d r t) befores (signal_cells d s) bits g ∙ sym f))))))

  state_marked : (i : ℕ) (name : List ℕ) (s : ℕ) (state : List ℕ) (x : Vector) → signal_bits d (settled d r (suc t)) s ≡ x.bits → IsListed dump (suc t) ⊎ (signal_bits d (settled d r t) s ≡ signal_bits d (settled d r (suc t)) s → ⊥) → PointNow st (state_point i name s state x) (point_notes st (state_point i name s state x))
  state_marked i name s state x e why = state_now (is_listed dump (suc t)) refl (state_point i name s state x) s x.bits e why

  pub point_marked : (x : Point) → In x points → IsHitAt d dump r x (suc t) → PointNow st x (point_notes st x) ⊎ ((s : Spot) × (spot_at x ≡ Some s) × ((k : StepOf r) × (k.step.time ≡ suc t) × HitIn d r k x))
  point_marked (line_point q k at word) member (inl hit) = inr (line k, refl, hit)
  point_marked (line_point q k at word) member (inr hit) = absurd hit.1
  point_marked (logic_point q k at op c) member (inl hit) = inr (node k c, refl, hit)
  point_marked (logic_point q k at op c) member (inr hit) = absurd hit.1
  point_marked (word_point m i true) member (inl hit) = inr (word_write m i, refl, hit)
  point_marked (word_point m i false) member (inl hit) = inr (word_read m i, refl, hit)
  point_marked (word_point m i write) member (inr hit) = absurd hit.1
  point_marked (toggle_point s i true) member (inl hit) =
      inl (toggle_marked (toggle_point s i true) s i Zero One zero_one (at_start hit.0 hit.1 (toggle_cell d s i) ∙ hit.2.0) (at_end hit.0 hit.1 (toggle_cell d s i) ∙ hit.2.1))
  point_marked (toggle_point s i false) member (inl hit) =
      inl (toggle_marked (toggle_point s i false) s i One Zero one_zero (at_start hit.0 hit.1 (toggle_cell d s i) ∙ hit.2.0) (at_end hit.0 hit.1 (toggle_cell d s i) ∙ hit.2.1))
  point_marked (toggle_point s i rise) member (inr hit) = absurd hit.1
  point_marked (state_point i name s state x) member (inl hit) =
      inl
      (state_marked i name s state x (ap (λ f. signal_bits d f s) (sym (end_values d h r showing.is_run hit.0 (suc t) hit.1)) ∙ hit.2.1)
      (inr (λ same. hit.2.0 (ap (λ f. signal_bits d f s) (start_values d h r showing.is_run hit.0 t hit.1) ∙ same ∙ ap (λ f. signal_bits d f s) (sym (end_values d h r showing.is_run hit.0 (suc t) hit.1))))))
  point_marked (state_point i name s state x) member (inr hit) = inl (state_marked i name s state x hit.1 (inl hit.0))
  point_marked (arc_point i name s from to' x y) member (inr hit) = absurd hit.1
  point_marked (arc_point i name s from to' x y) member (inl hit) =
      inl
      (if_then (arc_point i name s from to' x y) (sets.moves s) (tell st (arc_point i name s from to' x y) s (are_surely (known_bits d (before_of st) s) x.bits && are_surely (known_bits d (all_run st).kept s) y.bits) (may_be (known_bits d (before_of st) s) x.bits && may_be (known_bits d (all_run st).kept s) y.bits))
      (true_from_ne_false _ (λ calm. is.arcs i name s from to' x y member (sym before ∙ sym (calm_bits s calm (signal_cells d s) (λ c z. (in_signal d s c z).0)) ∙ after)))
      (tells_of st (arc_point i name s from to' x y) s (are_surely (known_bits d (before_of st) s) x.bits && are_surely (known_bits d (all_run st).kept s) y.bits) (may_be (known_bits d (before_of st) s) x.bits && may_be (known_bits d (all_run st).kept s) y.bits)
      (and_from _ _ (may_bits (before_of st) (settled d r t) befores (signal_cells d s) x.bits before) (may_bits (all_run st).kept (settled d r (suc t)) ends (signal_cells d s) y.bits after))))
    where
      before : signal_bits d (settled d r t) s ≡ x.bits
      before = ap (λ f. signal_bits d f s) (sym (start_values d h r showing.is_run hit.0 t hit.1)) ∙ hit.2.0

      after : signal_bits d (settled d r (suc t)) s ≡ y.bits
      after = ap (λ f. signal_bits d f s) (sym (end_values d h r showing.is_run hit.0 (suc t) hit.1)) ∙ hit.2.1
