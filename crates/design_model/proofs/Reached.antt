-- Each point that a block reaches is hit in every run that shows the dump.
use Rattle.std.proofs.Common.{◌≡◌, inl, ⊎_elim, ℕ, zero, suc, ◌≤◌, true, false, Bool, List, [], ◌∷◌, refl, sym, ap, subst, ◌∙◌, arith, if◌then◌else◌}
use Rattle.std.proofs.lemmas.Bool.{both_ways, false_from_ne_true}
use Rattle.event_machine.specs.Cell.{Cell, Values}
use Rattle.event_machine.specs.Machine.{IsWakeCell}
use Rattle.event_machine.specs.Habit.{Habit}
use Rattle.four_state.specs.declared.bit.Bit.{Bit}
use Rattle.design_model.specs.Tree.{Stmt}
use Rattle.design_model.specs.Design.{Design, In, body_at, owner, process_at}
use Rattle.design_model.specs.Mentions.{body_assigns, body_mentions}
use Rattle.design_model.specs.Execution.{Visit, at_line, at_node, execution, execution_start, reads, writes_word}
use Rattle.design_model.specs.Reads.{Agrees, PartialMap}
use Rattle.design_model.specs.Machine.{machine}
use Rattle.design_model.specs.Run.{IsRun, Run, StepOf, settled}
use Rattle.design_model.specs.Shows.{BindsSignals, BoundDump, InWindow, IsWindow, ShowsUpTo}
use Rattle.design_model.specs.Scored.{IsScoredOf, VisitsIn}
use Rattle.design_model.specs.Points.{IsBlock, IsHit, Point, arc_point, line_point, logic_point, state_point, toggle_point, word_point}
use Rattle.design_model.specs.MayMove.{IsCleanAt}
use Rattle.design_model.specs.Open.{KnownAtEnd, HasChangedWakeBit, IsNotClocked, IsReached, IsSurelyOpen, KnownOnEntry}
use Rattle.design_model.specs.Lawful.{IsLawfulDesign}
use Rattle.design_model.specs.Laws.{ReachedLaw}
use Rattle.design_model.proofs.Agree.{AllOuter}
use Rattle.design_model.proofs.ForcedSound.{clear_at}
use Rattle.design_model.proofs.Hits.{clean_acts, clean_hits}
use Rattle.design_model.proofs.Lawful.{assigns_any}
use Rattle.design_model.proofs.Mentions.{AllReads, execute_reads}
use Rattle.design_model.proofs.OpenNodes.{logic_visited}
use Rattle.design_model.proofs.OpenPath.{line_visited}
use Rattle.design_model.proofs.OpenWords.{SeesWord, word_visited}
use Rattle.design_model.proofs.SettledHits.{settled_acts, settled_hits, settling_level}
use Rattle.design_model.proofs.Sound.{IsSeen, cells_eq, no_window, window_shown}
use Rattle.design_model.proofs.StepLaws.{StepLaws}
use Rattle.design_model.proofs.WithinMap.{execution_same}

-- some visit of the list is of the point
abbrev Sees : Point → List Visit → Type 0
Sees (line_point p n at w) vs = In (at_line n) vs
Sees (logic_point p n at op c) vs = In (at_node n c) vs
Sees (word_point m k w) vs = SeesWord m k w vs
Sees _ vs = ⊥

-- a point that is surely open from K is visited on each state that agrees with K
surely_visited : (d : Design) (K : PartialMap) (b : Stmt) (v : Values Bit) → Agrees d K v → (x : Point) → IsSurelyOpen d K b x → Sees x (execution d b v).visits
surely_visited d K b v av (line_point p n at w) sure = line_visited d K b v av p n at w sure
surely_visited d K b v av (logic_point p n at op c) sure = logic_visited d K b v av p n at op c sure
surely_visited d K b v av (word_point m k w) sure = word_visited d K b v av m k w sure
surely_visited d K b v av (toggle_point s i rise) sure = sure
surely_visited d K b v av (state_point i name s state bits) sure = sure
surely_visited d K b v av (arc_point i name s from to old new) sure = sure

sees_hit : (d : Design) (dump : BoundDump) (r : Run) (x : Point) (p : ℕ) (k : StepOf r) → InWindow dump r k → IsBlock d x p → (v : Values Bit) → IsScoredOf (process_at d p) d r k p v → Sees x (execution d (body_at d p) v).visits → IsHit d dump r x
sees_hit d dump r (line_point q n at w) p k window is_block v counts sees = inl (k, window, subst (λ z. VisitsIn d r k z (at_line n)) is_block (v, counts, sees))
sees_hit d dump r (logic_point q n at op c) p k window is_block v counts sees = inl (k, window, subst (λ z. VisitsIn d r k z (at_node n c)) is_block (v, counts, sees))
sees_hit d dump r (word_point m i true) p k window is_block v counts sees = inl (k, window, (p, (v, counts, sees)))
sees_hit d dump r (word_point m i false) p k window is_block v counts sees = inl (k, window, (p, sees.0, (v, counts, sees.1)))
sees_hit d dump r (toggle_point s i rise) p k window is_block v counts sees = absurd sees
sees_hit d dump r (state_point i name s state bits) p k window is_block v counts sees = absurd sees
sees_hit d dump r (arc_point i name s from to old new) p k window is_block v counts sees = absurd sees

-- states that agree on what a body mentions
pub body_outer : (d : Design) (b : Stmt) (u w : Values Bit) → ((c : Cell) → body_mentions c.thing b ≡ true → u c ≡ w c) → (xs : List Visit) → AllReads (λ y. body_mentions y b ≡ true) xs → AllOuter d u w xs
body_outer d b u w same [] a = tt
body_outer d b u w same (at_line n ∷ xs) a = (tt, body_outer d b u w same xs a.1)
body_outer d b u w same (at_node n c ∷ xs) a = (tt, body_outer d b u w same xs a.1)
body_outer d b u w same (writes_word m i ∷ xs) a = (tt, body_outer d b u w same xs a.1)
body_outer d b u w same (reads x true ∷ xs) a = (tt, body_outer d b u w same xs a.1)
body_outer d b u w same (reads x false ∷ xs) a = (cells_eq d u w x (λ c at. same c (subst (λ y. body_mentions y b ≡ true) (sym at) a.0)), body_outer d b u w same xs a.1)

module _ (d : Design) (lawful : IsLawfulDesign d) (h : Habit) (laws : StepLaws (machine d) h) (dump : BoundDump) (r : Run) (binds : BindsSignals d dump) (is_run : IsRun d h r) (end : ℕ) (shows : ShowsUpTo d dump r end) where
  clean_surely : (t p : ℕ) (c : Cell) (x : Point) → IsWindow dump t → t ≤ end → IsBlock d x p → IsCleanAt d dump t p c → IsSurelyOpen d (KnownOnEntry d h dump t p) (body_at d p) x → IsHit d dump r x
  clean_surely zero p c x window le is_block clean sure = absurd (no_window d lawful h dump binds r is_run end shows laws.net laws.no_wake laws.write laws.edge window)
  clean_surely (suc t) p c x window le is_block clean sure =
      let a = clean_acts d lawful h laws dump r binds is_run end shows t p c window le clean in
      sees_hit d dump r x p a.0 a.1 is_block a.2 a.3 (surely_visited d (KnownOnEntry d h dump (suc t) p) (body_at d p) a.2 a.4 x sure)

  -- the entry where the body mentions, the settled values elsewhere
  mixed : (p : ℕ) → Values Bit → Values Bit → Values Bit
  mixed p entry v c = if body_mentions c.thing (body_at d p) then entry c else v c

  mixed_entry : (p : ℕ) (entry v : Values Bit) (c : Cell) → body_mentions c.thing (body_at d p) ≡ true → mixed p entry v c ≡ entry c
  unfolding mixed
  mixed_entry p entry v c e = ap (λ b. if b then entry c else v c) e

  mixed_settled : (p : ℕ) (entry v : Values Bit) (c : Cell) → (body_mentions c.thing (body_at d p) ≡ true → entry c ≡ v c) → mixed p entry v c ≡ v c
  unfolding mixed
  mixed_settled p entry v c same = go (body_mentions c.thing (body_at d p)) refl
    where
      go : (b : Bool) → body_mentions c.thing (body_at d p) ≡ b → (if b then entry c else v c) ≡ v c
      go true e = same e
      go false e = refl

  settled_surely : (t p : ℕ) (x : Point) → IsWindow dump t → t ≤ end → IsBlock d x p → IsNotClocked d p → HasChangedWakeBit d dump t p → IsSurelyOpen d (KnownAtEnd d h dump t p) (body_at d p) x → IsHit d dump r x
  settled_surely zero p x window le is_block not_clocked changed_bit sure = absurd (no_window d lawful h dump binds r is_run end shows laws.net laws.no_wake laws.write laws.edge window)
  settled_surely (suc t) p x window le is_block not_clocked changed_bit sure =
      let a = settled_acts d lawful h laws laws.settled dump r binds is_run end shows t p window le not_clocked changed_bit in
      let v : Values Bit = mixed p a.2 (settled d r (suc t)) in
      let e = execution_same d v a.2 (body_at d p) (body_outer d (body_at d p) v a.2 (λ c m. mixed_entry p a.2 (settled d r (suc t)) c m) _ (execute_reads (λ y. body_mentions y (body_at d p) ≡ true) d (body_at d p) (λ y m. m) (execution_start v) tt)) in
      sees_hit d dump r x p a.0 a.1 is_block a.2 a.3 (subst (Sees x) e.visits (surely_visited d (KnownAtEnd d h dump (suc t) p) (body_at d p) v (agrees a.2 a.4) x sure))
    where
      now : IsSeen dump end (suc t)
      now = (window_shown d lawful h dump binds r is_run end shows laws.net laws.no_wake laws.write laws.edge t window le).1

      agrees : (entry : Values Bit) → ((b : Cell) → IsWakeCell (machine d) p b → entry b ≡ settled d r (suc t) b) → Agrees d (KnownAtEnd d h dump (suc t) p) (mixed p entry (settled d r (suc t)))
      agrees entry same y bits k =
          cells_eq d (mixed p entry (settled d r (suc t))) (settled d r (suc t)) y
          (λ c at. mixed_settled p entry (settled d r (suc t)) c
          (λ m. same c (settling_level (process_at d p) c.thing not_clocked m, false_from_ne_true _ (λ e. both_ways (body_assigns (owner y) (body_at d p)) k.0 (subst (λ q. body_assigns q (body_at d p) ≡ true) at (assigns_any d (body_at d p) c (inl e)))))))
          ∙ clear_at d lawful h laws dump r binds is_run end shows (suc t) now y bits k.1

  -- each point that a block reaches is hit
  pub reached_hit : (t p : ℕ) (x : Point) → t ≤ end → IsReached d h dump t p x → IsHit d dump r x
  reached_hit t p x le reached =
      ⊎_elim
      (λ clean. ⊎_elim (λ y. clean_hits d lawful h laws dump r binds is_run end shows t p clean.0 x y.0 reached.0 le reached.1 clean.1 y.1 y.2) (λ sure. clean_surely t p clean.0 x reached.0 le reached.1 clean.1 sure) clean.2)
      (λ calm. ⊎_elim (λ y. settled_hits d lawful h laws laws.settled dump r binds is_run end shows t p x y.0 reached.0 le reached.1 calm.0 calm.1 y.1 y.2) (λ sure. settled_surely t p x reached.0 le reached.1 calm.0 calm.1 sure) calm.2)
      reached.2

pub reached_law : (d : Design) (h : Habit) → IsLawfulDesign d → StepLaws (machine d) h → ReachedLaw d h
reached_law d h lawful laws dump r t binds showing p x reached = reached_hit d lawful h laws dump r binds showing.is_run t showing.shows t p x (omega arith) reached
