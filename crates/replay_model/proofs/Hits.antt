-- What a closing step reports of the points of bodies: a hit is one in each run that shows the dump, and a point that is hit
-- in such a run at this time is reported to be hit or in doubt.
use Rattle.std.proofs.Common.{◌≡◌, inl, inr, ⊎_elim, ℕ, suc, Bool, true, false, List, [], ◌∷◌, ◌++◌, refl, sym, ap, subst, ◌∙◌, Option, Some, None, if◌then◌else◌}
use Rattle.std.specs.List.{list_any}
use Rattle.std.proofs.lemmas.Bool.{both_ways}
use Rattle.event_machine.specs.Cell.{Cell, Values}
use Rattle.event_machine.specs.Machine.{Edge as MachineEdge, IsWakeCell}
use Rattle.event_machine.specs.Habit.{Habit}
use Rattle.event_machine.specs.Laws.{EvaluatesSettled}
use Rattle.design_model.specs.four_state.declared.bit.Bit.{Bit}
use Rattle.design_model.specs.Tree.{Process, assign, clocked, comb}
use Rattle.design_model.specs.point_words.declared.node_case.NodeCase.{NodeCase}
use Rattle.design_model.specs.declared.point.Point.{Point}
use Rattle.design_model.specs.declared.point.Point.TheVariants.{Line as line_point, Logic as logic_point, Toggle as toggle_point, State as state_point, Arc as arc_point, Word as word_point}
use Rattle.design_model.specs.Design.{Design, In, IsClocked, a_signal, a_word, body_at, process_at}
use Rattle.design_model.specs.Mentions.{blocking_target}
use Rattle.design_model.specs.Execution.{Visit, at_line, at_node, execution, reads, writes_word}
use Rattle.design_model.specs.Machine.{is_level, lists_edge, machine}
use Rattle.design_model.specs.Run.{Run, StepOf, evaluations_of, settled, start_of}
use Rattle.design_model.specs.Scored.{ChangesOver, IsScored, IsScoredOf, VisitsIn}
use Rattle.design_model.specs.Shows.{BoundDump, IsShowing, IsWindow}
use Rattle.design_model.specs.MayMove.{CanWakeSome, IsCleanAt}
use Rattle.design_model.specs.Points.{HitIn, IsBlock}
use Rattle.design_model.proofs.Hits.{step_here}
use Rattle.design_model.proofs.StepLaws.{StepLaws}
use Rattle.design_model.specs.StepLaws.{CleanEvaluation, EventFacts}
use Rattle.design_model.proofs.StepFacts.{clean_step_law, event_law}
use Rattle.body_replay.specs.Contract.{Doubted, HasHitNote, Note, clean, perhaps, quiet, spot_at}
use Rattle.body_replay.specs.Replay.{Spot, Visited, line, node, spot_of, word_read, word_write}
use Rattle.body_replay.specs.Runs.{HasDoubtNote, Runs}
use Rattle.body_replay.specs.Store.{Kept}
use Rattle.replay_model.specs.Tables.{Tables}
use Rattle.replay_model.specs.Marks.{Marking, markings_by, of_process}
use Rattle.replay_model.specs.Step.{Closing, certainty, certainty_from, first_unsure, has_changed, is_still, not_assigned}
use Rattle.replay_model.specs.Laws.{IsReplayOf}

-- a note of a run as it is reported
pub told_hit : (p : ℕ) (ns : List Note) (n : Marking) → In n (markings_by p ns) → n.doubt ≡ None → (x : Spot) × (n.key ≡ of_process p x) × HasHitNote x ns
told_hit p [] n h e = absurd h
told_hit p (m ∷ ns) n (inl q) e = (m.spot, ap (λ z. z.key) (sym q), inl (refl, ap (λ z. z.doubt) q ∙ e))
told_hit p (m ∷ ns) n (inr h) e = let r = told_hit p ns n h e in (r.0, r.1, inr r.2)

pub hit_told : (p : ℕ) (ns : List Note) (x : Spot) → HasHitNote x ns → (n : Marking) × In n (markings_by p ns) × (n.key ≡ of_process p x) × (n.doubt ≡ None)
hit_told p [] x h = absurd h
hit_told p (m ∷ ns) x (inl q) = (record { key = of_process p m.spot; doubt = m.doubt }, inl refl, ap (of_process p) q.0, q.1)
hit_told p (m ∷ ns) x (inr h) = let r = hit_told p ns x h in (r.0, inr r.1, r.2, r.3)

pub told_doubt : (p : ℕ) (ns : List Note) (n : Marking) (y : Doubted) → In n (markings_by p ns) → n.doubt ≡ Some y → (x : Spot) × (n.key ≡ of_process p x) × HasDoubtNote x y ns
told_doubt p [] n y h e = absurd h
told_doubt p (m ∷ ns) n y (inl q) e = (m.spot, ap (λ z. z.key) (sym q), inl (refl, ap (λ z. z.doubt) q ∙ e))
told_doubt p (m ∷ ns) n y (inr h) e = let r = told_doubt p ns n y h e in (r.0, r.1, inr r.2)

pub doubt_told : (p : ℕ) (ns : List Note) (x : Spot) (y : Doubted) → HasDoubtNote x y ns → (n : Marking) × In n (markings_by p ns) × (n.key ≡ of_process p x) × (n.doubt ≡ Some y)
doubt_told p [] x y h = absurd h
doubt_told p (m ∷ ns) x y (inl q) = (record { key = of_process p m.spot; doubt = m.doubt }, inl refl, ap (of_process p) q.0, q.1)
doubt_told p (m ∷ ns) x y (inr h) = let r = doubt_told p ns x y h in (r.0, inr r.1, r.2, r.3)

-- what a visit counts for says which visit it is
pub visited_in : (x : Spot) (xs : List Visit) → Visited x xs → (y : Visit) × In y xs × (spot_of y ≡ Some x)
visited_in x [] h = absurd h
visited_in x (y ∷ xs) (inl e) = (y, inl refl, e)
visited_in x (y ∷ xs) (inr h) = let r = visited_in x xs h in (r.0, inr r.1, r.2)

pub in_visited : (x : Spot) (xs : List Visit) (y : Visit) → In y xs → spot_of y ≡ Some x → Visited x xs
in_visited x [] y h e = absurd h
in_visited x (z ∷ xs) y (inl q) e = inl (ap spot_of q ∙ e)
in_visited x (z ∷ xs) y (inr h) e = inr (in_visited x xs y h e)

line_visit : (n : ℕ) (y : Visit) → spot_of y ≡ Some (line n) → y ≡ at_line n
line_visit n (at_line m) e = cc
line_visit n (at_node m c) e = absurd (cc)
line_visit n (reads (a_signal s) inner) e = absurd (cc)
line_visit n (reads (a_word m i) inner) e = absurd (cc)
line_visit n (writes_word m i) e = absurd (cc)

node_visit : (n : ℕ) (k : NodeCase) (y : Visit) → spot_of y ≡ Some (node n k) → y ≡ at_node n k
node_visit n k (at_line m) e = absurd (cc)
node_visit n k (at_node m c) e = cc
node_visit n k (reads (a_signal s) inner) e = absurd (cc)
node_visit n k (reads (a_word m i) inner) e = absurd (cc)
node_visit n k (writes_word m i) e = absurd (cc)

write_visit : (m i : ℕ) (y : Visit) → spot_of y ≡ Some (word_write m i) → y ≡ writes_word m i
write_visit m i (at_line n) e = absurd (cc)
write_visit m i (at_node n c) e = absurd (cc)
write_visit m i (reads (a_signal s) inner) e = absurd (cc)
write_visit m i (reads (a_word n j) inner) e = absurd (cc)
write_visit m i (writes_word n j) e = cc

read_visit : (m i : ℕ) (y : Visit) → spot_of y ≡ Some (word_read m i) → (inner : Bool) × (y ≡ reads (a_word m i) inner)
read_visit m i (at_line n) e = absurd (cc)
read_visit m i (at_node n c) e = absurd (cc)
read_visit m i (reads (a_signal s) inner) e = absurd (cc)
read_visit m i (reads (a_word n j) inner) e = (inner, cc)
read_visit m i (writes_word n j) e = absurd (cc)

-- an execution of a block that counts and visits the point's spot hits it
module _ (d : Design) (r : Run) (k : StepOf r) (p : ℕ) (v : Values Bit) (scored : IsScored d r k p v) where
  spot_is : (a b : Spot) → Some a ≡ Some b → b ≡ a
  spot_is a b e = cc

  found : (x : Spot) → Visited x (execution d (body_at d p) v).visits → (y : Visit) × In y (execution d (body_at d p) v).visits × (spot_of y ≡ Some x)
  found x seen = visited_in x (execution d (body_at d p) v).visits seen

  pub visited_hit : (x : Point) (s : Spot) → spot_at x ≡ Some s → IsBlock d x p → Visited s (execution d (body_at d p) v).visits → HitIn d r k x
  visited_hit (line_point q n at w) s e block seen =
      let y = found (line n) (subst (λ z. Visited z (execution d (body_at d p) v).visits) (spot_is (line n) s e) seen) in
      subst (λ z. VisitsIn d r k z (at_line n)) block (v, scored, subst (λ z. In z (execution d (body_at d p) v).visits) (line_visit n y.0 y.2) y.1)
  visited_hit (logic_point q n at op c) s e block seen =
      let y = found (node n c) (subst (λ z. Visited z (execution d (body_at d p) v).visits) (spot_is (node n c) s e) seen) in
      subst (λ z. VisitsIn d r k z (at_node n c)) block (v, scored, subst (λ z. In z (execution d (body_at d p) v).visits) (node_visit n c y.0 y.2) y.1)
  visited_hit (toggle_point q i rise) s e block seen = absurd block
  visited_hit (state_point i name q state bits) s e block seen = absurd block
  visited_hit (arc_point i name q from to' old new) s e block seen = absurd block
  visited_hit (word_point m i true) s e block seen =
      let y = found (word_write m i) (subst (λ z. Visited z (execution d (body_at d p) v).visits) (spot_is (word_write m i) s e) seen) in
      (p, (v, scored, subst (λ z. In z (execution d (body_at d p) v).visits) (write_visit m i y.0 y.2) y.1))
  visited_hit (word_point m i false) s e block seen =
      let y = found (word_read m i) (subst (λ z. Visited z (execution d (body_at d p) v).visits) (spot_is (word_read m i) s e) seen) in
      let b = read_visit m i y.0 y.2 in
      (p, b.0, (v, scored, subst (λ z. In z (execution d (body_at d p) v).visits) b.1 y.1))

pub edge_clocked : (x : Process) (e : MachineEdge) (c : Cell) → lists_edge x e c ≡ true → IsClocked x
edge_clocked (assign i t v counted) e c h = absurd (both_ways false refl h)
edge_clocked (comb i wakes s) e c h = absurd (both_ways false refl h)
edge_clocked (clocked i events s) e c h = tt

pub level_settles : (x : Process) (y : ℕ) → is_level x y ≡ true → IsClocked x → ⊥
level_settles (assign i t v counted) y e h = h
level_settles (comb i wakes s) y e h = h
level_settles (clocked i events s) y e h = both_ways false refl e

-- what it is for an execution to count
clocked_scored : (x : Process) (d : Design) (r : Run) (k : StepOf r) (p : ℕ) (v : Values Bit) → IsClocked x → In v (evaluations_of d r k p) → IsScoredOf x d r k p v
clocked_scored (assign i t y c) d r k p v is h = absurd is
clocked_scored (comb i wakes s) d r k p v is h = absurd is
clocked_scored (clocked i events s) d r k p v is h = h

scored_clocked : (x : Process) (d : Design) (r : Run) (k : StepOf r) (p : ℕ) (v : Values Bit) → IsClocked x → IsScoredOf x d r k p v → In v (evaluations_of d r k p)
scored_clocked (assign i t y c) d r k p v is h = absurd is
scored_clocked (comb i wakes s) d r k p v is h = absurd is
scored_clocked (clocked i events s) d r k p v is h = h

abbrev Settles : Design → (r : Run) → StepOf r → ℕ → Values Bit → Type 0
Settles d r k p v = ((earlier : List (Values Bit)) × (evaluations_of d r k p ≡ earlier ++ v ∷ [])) × ((c : Cell) × IsWakeCell (machine d) p c × ChangesOver d r k c)

settling_scored : (x : Process) (d : Design) (r : Run) (k : StepOf r) (p : ℕ) (v : Values Bit) → (IsClocked x → ⊥) → Settles d r k p v → IsScoredOf x d r k p v
settling_scored (assign i z t c) d r k p v is h = h
settling_scored (comb i wakes s) d r k p v is h = h
settling_scored (clocked i events s) d r k p v is h = absurd (is tt)

scored_settling : (x : Process) (d : Design) (r : Run) (k : StepOf r) (p : ℕ) (v : Values Bit) → (IsClocked x → ⊥) → IsScoredOf x d r k p v → Settles d r k p v
scored_settling (assign i z t c) d r k p v is h = h
scored_settling (comb i wakes s) d r k p v is h = h
scored_settling (clocked i events s) d r k p v is h = absurd (is tt)

-- the way of a run on settled values, and why
pub data Way (st : Closing) (k : Kept) (p : ℕ) : Type 0 where
  sure : list_any (has_changed st k p) (st.tables.watched p) ≡ true → certainty st k p ≡ clean st.time → Way st k p
  unsure : (x : ℕ) → list_any (has_changed st k p) (st.tables.watched p) ≡ false → first_unsure st k p (st.tables.watched p) ≡ Some x → certainty st k p ≡ perhaps st.time x → Way st k p
  still : list_any (has_changed st k p) (st.tables.watched p) ≡ false → first_unsure st k p (st.tables.watched p) ≡ None → certainty st k p ≡ quiet → Way st k p

pub way_of : (st : Closing) (k : Kept) (p : ℕ) → Way st k p
way_of st k p = go (list_any (has_changed st k p) (st.tables.watched p)) refl (first_unsure st k p (st.tables.watched p)) refl
  where
    go : (b : Bool) → list_any (has_changed st k p) (st.tables.watched p) ≡ b → (o : Option ℕ) → first_unsure st k p (st.tables.watched p) ≡ o → Way st k p
    go true e o f = sure e (ap (λ z. if z then clean st.time else certainty_from st (first_unsure st k p (st.tables.watched p))) e)
    go false e None f = still e f (ap (λ z. if z then clean st.time else certainty_from st (first_unsure st k p (st.tables.watched p))) e ∙ ap (certainty_from st) f)
    go false e (Some x) f = unsure x e f (ap (λ z. if z then clean st.time else certainty_from st (first_unsure st k p (st.tables.watched p))) e ∙ ap (certainty_from st) f)

-- where none is unsure, each thing is still
pub all_still : (st : Closing) (k : Kept) (p : ℕ) (xs : List ℕ) → first_unsure st k p xs ≡ None → (x : ℕ) → In x xs → is_still st k p x ≡ true
all_still st k p [] e x h = absurd h
all_still st k p (y ∷ xs) e x h = go (is_still st k p y) refl e h (λ f g. all_still st k p xs f x g)
  where
    go : (b : Bool) → is_still st k p y ≡ b → (if b then first_unsure st k p xs else Some y) ≡ None → In x (y ∷ xs) → (first_unsure st k p xs ≡ None → In x xs → is_still st k p x ≡ true) → is_still st k p x ≡ true
    go true q f (inl g) rest = subst (λ z. is_still st k p z ≡ true) g q
    go true q f (inr g) rest = rest f g
    go false q f g rest = absurd (cc)

-- what a process does not assign is among its wake cells
pub in_not_assigned : (d : Design) (p : ℕ) (cs : List Cell) (c : Cell) → In c cs → blocking_target d (body_at d p) c ≡ false → In c (not_assigned d p cs)
in_not_assigned d p [] c h e = absurd h
in_not_assigned d p (b ∷ cs) c h e = go (blocking_target d (body_at d p) b) refl h (λ g. in_not_assigned d p cs c g e)
  where
    go : (x : Bool) → blocking_target d (body_at d p) b ≡ x → In c (b ∷ cs) → (In c cs → In c (not_assigned d p cs)) → In c (if x then not_assigned d p cs else b ∷ not_assigned d p cs)
    go true q (inl f) rest = absurd (both_ways _ e (subst (λ z. blocking_target d (body_at d p) z ≡ true) f q))
    go true q (inr f) rest = rest f
    go false q (inl f) rest = inl f
    go false q (inr f) rest = inr (rest f)

-- two lists that end so end in one
last_same : {A : Type 0} (xs ys : List A) (x y : A) → xs ++ x ∷ [] ≡ ys ++ y ∷ [] → x ≡ y
last_same {A} xs ys x y e = go xs ys e
  where
    last_or : A → List A → A
    last_or z [] = z
    last_or z (w ∷ ws) = last_or w ws

    at_end : (z : A) (zs : List A) (w : A) → last_or z (zs ++ w ∷ []) ≡ w
    at_end z [] w = refl
    at_end z (y ∷ zs) w = at_end y zs w

    go : (xs ys : List A) → xs ++ x ∷ [] ≡ ys ++ y ∷ [] → x ≡ y
    go xs ys e = sym (at_end x xs x) ∙ ap (last_or x) e ∙ at_end x ys y

module _ (d : Design) (h : Habit) (dump : BoundDump) (run : Runs) (tables : Tables) (points : List Point) (is : IsReplayOf d h dump run tables points) (laws : StepLaws (machine d) h) (t : ℕ) (window : IsWindow dump (suc t)) (r : Run) (showing : IsShowing d h dump (suc t) r) where
  events : (k : StepOf r) → k.step.time ≡ suc t → EventFacts d h dump r t k
  events k at = event_law d is.lawful h laws dump r t is.fits.signals showing window k at

  -- a clean block has one execution that counts
  pub clean_entry : (p : ℕ) (c : Cell) → IsCleanAt d dump (suc t) p c → (k : StepOf r) × (k.step.time ≡ suc t) × (o : CleanEvaluation d h dump t (settled d r t) (settled d r (suc t)) p c) × IsScored d r k p o.entry
  clean_entry p c is_clean =
      let k = clean_step_law d is.lawful h laws dump r t is.fits.signals showing window p c is_clean in
      let act = (events k.0 k.1).clean p c is_clean in
      (k.0, k.1, act.once, clocked_scored (process_at d p) d r k.0 p act.once.entry (edge_clocked (process_at d p) is_clean.can_wake.0.0 c is_clean.can_wake.0.1) (subst (In act.once.entry) (sym act.evaluated) (inl refl)))

  pub every_entry : (k : StepOf r) → k.step.time ≡ suc t → (p : ℕ) (c : Cell) → IsCleanAt d dump (suc t) p c → (v : Values Bit) → IsScored d r k p v → (o : CleanEvaluation d h dump t (settled d r t) (settled d r (suc t)) p c) × (v ≡ o.entry)
  every_entry k at p c is_clean v scored =
      let act = (events k at).clean p c is_clean in
      (act.once, ⊎_elim (λ e. sym e) (λ x. absurd x) (subst (In v) act.evaluated (scored_clocked (process_at d p) d r k p v (edge_clocked (process_at d p) is_clean.can_wake.0.0 c is_clean.can_wake.0.1) scored)))

  -- a Clocked that cannot wake has no entry that is scored
  pub unwoken_none : (k : StepOf r) → k.step.time ≡ suc t → (p : ℕ) → IsClocked (process_at d p) → (CanWakeSome d dump (suc t) p → ⊥) → (v : Values Bit) → IsScored d r k p v → ⊥
  unwoken_none k at p is_clocked never v scored = subst (In v) ((events k at).asleep p is_clocked never) (scored_clocked (process_at d p) d r k p v is_clocked scored)

  abbrev pub OnWakes : ℕ → Values Bit → Type 0
  OnWakes p v = (b : Cell) → IsWakeCell (machine d) p b → v b ≡ settled d r (suc t) b

  -- an Assign or Comb of which a wake cell changes has one, on settled values
  settled_at : (k : StepOf r) → k.step.time ≡ suc t → (p : ℕ) (c : Cell) → IsWakeCell (machine d) p c → (settled d r t c ≡ settled d r (suc t) c → ⊥) → EvaluatesSettled (machine d) p (start_of d r k) k.step.events
  settled_at k at p c wake differ = (events k at).woken p c wake (λ e. differ (sym e))

  pub settling_entry : (p : ℕ) → (IsClocked (process_at d p) → ⊥) → (c : Cell) → IsWakeCell (machine d) p c → (settled d r t c ≡ settled d r (suc t) c → ⊥) → (k : StepOf r) × (k.step.time ≡ suc t) × (v : Values Bit) × IsScored d r k p v × OnWakes p v
  settling_entry p settles c wake differ = ⊎_elim (λ same. absurd (differ (sym (ap (λ f. f c) same)))) (λ s. in_step s.step s.at) (step_here d h r showing.is_run t)
    where
      in_step : (k : StepOf r) → k.step.time ≡ suc t → (k : StepOf r) × (k.step.time ≡ suc t) × (v : Values Bit) × IsScored d r k p v × OnWakes p v
      in_step k at =
          let e = settled_at k at p c wake differ in
          (k, at, e.entry, settling_scored (process_at d p) d r k p e.entry settles ((e.earlier, e.evaluated), (c, wake, λ q. differ (sym (ap (λ f. f c) (events k at).start) ∙ q ∙ ap (λ f. f c) (events k at).ends))), λ b x. e.settled b x ∙ ap (λ f. f b) (events k at).ends)

  pub every_settling : (k : StepOf r) → k.step.time ≡ suc t → (p : ℕ) → (IsClocked (process_at d p) → ⊥) → (v : Values Bit) → IsScored d r k p v → OnWakes p v × ((c : Cell) × IsWakeCell (machine d) p c × (settled d r t c ≡ settled d r (suc t) c → ⊥))
  every_settling k at p settles v scored = (on_wakes, (s.1.0, s.1.1, differ))
    where
      s : Settles d r k p v
      s = scored_settling (process_at d p) d r k p v settles scored

      differ : settled d r t (scored_settling (process_at d p) d r k p v settles scored).1.0 ≡ settled d r (suc t) (scored_settling (process_at d p) d r k p v settles scored).1.0 → ⊥
      differ e =
          let c = (scored_settling (process_at d p) d r k p v settles scored).1.0 in
          (scored_settling (process_at d p) d r k p v settles scored).1.2 (ap (λ f. f c) (events k at).start ∙ e ∙ sym (ap (λ f. f c) (events k at).ends))

      on_wakes : OnWakes p v
      on_wakes b x =
          let z = scored_settling (process_at d p) d r k p v settles scored in
          let e = settled_at k at p z.1.0 z.1.1 differ in
          ap (λ f. f b) (last_same z.0.0 e.earlier v e.entry (sym z.0.1 ∙ e.evaluated)) ∙ e.settled b x ∙ ap (λ f. f b) (events k at).ends
