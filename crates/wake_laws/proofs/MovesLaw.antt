-- What the changed inputs reach, by tables, is what may move.
use Rattle.std.proofs.Common.{◌≡◌, inl, inr, ⊎_elim, ◌∙◌, ℕ, ◌-◌, ◌<◌, ◌≤◌, true, false, cond, ◌==◌, length, refl, sym, ap, subst, arith, lt-ltb}
use Rattle.std.specs.List.{Contains}
use Rattle.std.proofs.lemmas.Bool.{and_from, and_parts, both_ways, cases_Bool, cases_lt, eqb-true, false≢true, or_cases}
use Rattle.std.proofs.lemmas.List.{get_or_past}
use Rattle.event_machine.specs.Cell.{Cell}
use Rattle.event_machine.specs.Machine.{Edge, IsTarget, Negedge, Posedge}
use Rattle.event_machine.specs.MayMove.{MayWake, of_input, of_target as moves_target}
use Rattle.event_machine.specs.Told.{IsToldInput}
use Rattle.design_model.specs.Tree.{Process, assign, clocked, comb}
use Rattle.design_model.specs.Design.{Design, cell, no_signal, process_at, signal_at}
use Rattle.design_model.specs.Lawful.{IsLawfulDesign}
use Rattle.design_model.specs.Machine.{lists_edge, machine}
use Rattle.design_model.specs.Shows.{BoundDump}
use Rattle.design_model.specs.MayMove.{IsSingleAt, MayMoveAt, told_at}
use Rattle.design_model.proofs.AssignLaws.{has_bit}
use Rattle.design_model.proofs.TargetCells.{target_cells_law}
use Rattle.wake_laws.specs.OfDesign.{AreTablesOf}
use Rattle.early_sets.specs.Edges.{any_edges, edges_between}
use Rattle.wake_laws.specs.Laws.{AreNotes, AreSingle, MovesLaw}
use Rattle.early_sets.specs.Reached.{IsTargetBy, MayWakeBy, Reached, of_seed, of_target}
use Rattle.early_sets.specs.WakeState.{WakeState, edges_at, is_single, is_told, nothing_left, own_edges}
use Rattle.early_sets.specs.Has.{is_in}
use Rattle.early_sets.proofs.Membership.{is_in_gives}

-- an edge that a process lists is of the lowest bit
pub edge_place : (q : Process) (e : Edge) (c : Cell) → lists_edge q e c ≡ true → c.place ≡ 0
edge_place (assign i x t counted) e c h = absurd (false≢true h)
edge_place (comb i wakes s) e c h = absurd (false≢true h)
edge_place (clocked i events s) e c h = eqb-true c.place 0 (and_parts (c.place == 0) _ h).0

-- the lowest bit of a thing
pub lowest : (c : Cell) (x : ℕ) → c.thing ≡ x → c.place ≡ 0 → c ≡ cell x 0
lowest c x e z i = record { thing = e i; place = z i }

module _ (d : Design) (lawful : IsLawfulDesign d) (dump : BoundDump) (t : ℕ) (w : WakeState) (tables : AreTablesOf d w.tables) (notes : AreNotes d dump t w) where
  abbrev R : ℕ → Type 0
  R x = Reached w.tables (edges_at w) nothing_left (Contains w.noted) x

  -- an input is a signal of at least one bit
  input_below : (x : ℕ) → (signal_at d x).input ≡ true → x < length d.signals
  input_below x h = ⊎_elim (λ l. l) (λ past. absurd (both_ways _ (ap (λ s. s.input) (get_or_past d.signals x no_signal past)) h)) (cases_lt x (length d.signals))

  pub input_cell : (x : ℕ) → (signal_at d x).input ≡ true → (machine d).is_input (cell x 0) ≡ true
  input_cell x h =
      let one : 1 ≤ (signal_at d x).width = has_bit d lawful x (input_below x h) in
      and_from (signal_at d x).input _ h (lt-ltb 0 (signal_at d x).width (omega arith))

  pub input_of : (c : Cell) → (machine d).is_input c ≡ true → (signal_at d c.thing).input ≡ true
  input_of c h = (and_parts (signal_at d c.thing).input _ h).0

  -- what a process may write is no input
  pub no_input : (p : ℕ) (c : Cell) → IsTarget (machine d) p c → (signal_at d c.thing).input ≡ false
  no_input p c h = lawful.no_input p c.thing (target_cells_law d p c h)

  -- a target of a process, by the tables
  pub target_of : (p y : ℕ) → IsTargetBy w.tables nothing_left p y → (c : Cell) × (c.thing ≡ y) × IsTarget (machine d) p c
  target_of p y h =
      ⊎_elim
      (λ n. let k = (tables.nonblocking_is p y).0 n in (k.0, k.1, inr k.2))
      (λ b. let k = (tables.blocking_is p y).0 b.1 in (k.0, k.1, inl k.2))
      h.0

  pub target_by : (p : ℕ) (c : Cell) → IsTarget (machine d) p c → IsTargetBy w.tables nothing_left p c.thing
  target_by p c (inl b) = (inr (refl, (tables.blocking_is p c.thing).1 (c, refl, b)), refl)
  target_by p c (inr n) = (inl ((tables.nonblocking_is p c.thing).1 (c, refl, n)), refl)

  -- what is reached is of the design
  pub reached_below : (x : ℕ) → R x → x < w.tables.things
  reached_below x (of_seed _ c) =
      let k = (notes.noted_are x).0 c in
      let l = input_below x (subst (λ y. (signal_at d y).input ≡ true) k.1 (input_of k.0 k.2.0)) in
      omega (arith, l, tables.things_are)
  reached_below y (of_target x p _ m wakes target) =
      ⊎_elim (λ n. w.tables.nonblocking_within.below p y n) (λ b. w.tables.blocking_within.below p y b.1) target.0

  -- an input that is reached changes or may change
  pub reached_input : (x : ℕ) → R x → (signal_at d x).input ≡ true → Contains w.noted x
  reached_input x (of_seed _ c) h = c
  reached_input y (of_target x p _ m wakes target) h =
      let k = target_of p y target in
      absurd (both_ways _ (subst (λ z. (signal_at d z).input ≡ false) k.1 (no_input p k.0 k.2)) h)

  pub flags_of : (x : ℕ) → x < w.tables.things → is_told w x ≡ true → ((signal_at d x).input ≡ true) × (dump.bound x ≡ true)
  flags_of x l h = and_parts (signal_at d x).input (dump.bound x) (sym (notes.told_are x l) ∙ h)

  -- an input whose changes are reported is single in each round
  pub told_input : (x : ℕ) → x < w.tables.things → is_told w x ≡ true → IsToldInput (machine d) (told_at dump t) (cell x 0)
  told_input x l h = let b = flags_of x l h in (input_cell x b.0, b.1)

  pub input_told : (x : ℕ) → x < w.tables.things → IsToldInput (machine d) (told_at dump t) (cell x 0) → is_told w x ≡ true
  input_told x l told = notes.told_are x l ∙ and_from (signal_at d x).input (dump.bound x) (input_of (cell x 0) told.0) told.1

module _ (d : Design) (lawful : IsLawfulDesign d) (dump : BoundDump) (t : ℕ) (w : WakeState) (tables : AreTablesOf d w.tables) (notes : AreNotes d dump t w) (single : AreSingle d dump t w) where
  abbrev S : ℕ → Type 0
  S x = Reached w.tables (edges_at w) nothing_left (Contains w.noted) x

  below : (x : ℕ) → S x → x < w.tables.things
  below x m = reached_below d lawful dump t w tables notes x m

  -- the edges of a change that was reported
  own_told : (x : ℕ) → S x → is_single w x ≡ true → own_edges w x ≡ edges_between (dump.values (t - 1) (cell x 0)) (dump.values t (cell x 0))
  own_told x m h =
      ⊎_elim
      (λ told. notes.changes x (reached_input d lawful dump t w tables notes x m (flags_of d lawful dump t w tables notes x (below x m) told).0) told)
      (λ other. let k = single.candidates x (is_in_gives w.derived x other) in notes.others x k.0 k.1)
      (or_cases (is_told w x) (is_in w.derived x) h)

  -- the edges of what is reached
  changed_edges : (x : ℕ) → S x → is_single w x ≡ true → edges_at w x ≡ edges_between (dump.values (t - 1) (cell x 0)) (dump.values t (cell x 0))
  changed_edges x m h = ap (λ b. cond b (own_edges w x) any_edges) h ∙ own_told x m h

  other_edges : (x : ℕ) → is_single w x ≡ false → edges_at w x ≡ any_edges
  other_edges x h = ap (λ b. cond b (own_edges w x) any_edges) h

  pub rise_is : (x : ℕ) → S x → (edges_at w x).rise ≡ true → IsSingleAt d dump t (cell x 0) → (machine d).is_edge Posedge ((told_at dump t).old (cell x 0)) ((told_at dump t).new (cell x 0)) ≡ true
  rise_is x m r s = sym (ap (λ e. e.rise) (changed_edges x m (single.complete x m s))) ∙ r

  pub fall_is : (x : ℕ) → S x → (edges_at w x).fall ≡ true → IsSingleAt d dump t (cell x 0) → (machine d).is_edge Negedge ((told_at dump t).old (cell x 0)) ((told_at dump t).new (cell x 0)) ≡ true
  fall_is x m r s = sym (ap (λ e. e.fall) (changed_edges x m (single.complete x m s))) ∙ r

  pub is_rise : (x : ℕ) → S x → (IsSingleAt d dump t (cell x 0) → (machine d).is_edge Posedge ((told_at dump t).old (cell x 0)) ((told_at dump t).new (cell x 0)) ≡ true) → (edges_at w x).rise ≡ true
  is_rise x m f =
      ⊎_elim
      (λ h. ap (λ e. e.rise) (changed_edges x m h) ∙ f (single.sound x (below x m) h))
      (λ h. ap (λ e. e.rise) (other_edges x h))
      (cases_Bool (is_single w x))

  pub is_fall : (x : ℕ) → S x → (IsSingleAt d dump t (cell x 0) → (machine d).is_edge Negedge ((told_at dump t).old (cell x 0)) ((told_at dump t).new (cell x 0)) ≡ true) → (edges_at w x).fall ≡ true
  is_fall x m f =
      ⊎_elim
      (λ h. ap (λ e. e.fall) (changed_edges x m h) ∙ f (single.sound x (below x m) h))
      (λ h. ap (λ e. e.fall) (other_edges x h))
      (cases_Bool (is_single w x))

  -- a change of what is reached may wake the same processes
  pub wake_of : (x p : ℕ) → S x → MayWakeBy w.tables (edges_at w) x p → MayWake (machine d) (told_at dump t) (IsSingleAt d dump t) x p
  wake_of x p m (inl l) = inl ((tables.level_is x p (below x m)).0 l)
  wake_of x p m (inr (inl r)) = inr (cell x 0, refl, (Posedge, (tables.rising_is x p (below x m)).0 r.1, rise_is x m r.0))
  wake_of x p m (inr (inr f)) = inr (cell x 0, refl, (Negedge, (tables.falling_is x p (below x m)).0 f.1, fall_is x m f.0))

  by_edge : (x p : ℕ) → S x → (e : Edge) → (machine d).edge p e (cell x 0) ≡ true → (IsSingleAt d dump t (cell x 0) → (machine d).is_edge e ((told_at dump t).old (cell x 0)) ((told_at dump t).new (cell x 0)) ≡ true) → MayWakeBy w.tables (edges_at w) x p
  by_edge x p m Posedge listed f = inr (inl (is_rise x m f, (tables.rising_is x p (below x m)).1 listed))
  by_edge x p m Negedge listed f = inr (inr (is_fall x m f, (tables.falling_is x p (below x m)).1 listed))

  pub wake_by : (x p : ℕ) → S x → MayWake (machine d) (told_at dump t) (IsSingleAt d dump t) x p → MayWakeBy w.tables (edges_at w) x p
  wake_by x p m (inl l) = inl ((tables.level_is x p (below x m)).1 l)
  wake_by x p m (inr (c, is, (e, listed, f))) =
      let low : c ≡ cell x 0 = lowest c x is (edge_place (process_at d p) e c listed) in
      by_edge x p m e (subst (λ b. (machine d).edge p e b ≡ true) low listed) (subst (λ b. IsSingleAt d dump t b → (machine d).is_edge e ((told_at dump t).old b) ((told_at dump t).new b) ≡ true) low f)

  pub moves_of : (x : ℕ) → S x → MayMoveAt d dump t x
  moves_of x (of_seed _ c) = let k = (notes.noted_are x).0 c in subst (MayMoveAt d dump t) k.1 (of_input k.0 k.2)
  moves_of y (of_target x p _ m wakes target) =
      let k = target_of d lawful dump t w tables notes p y target in
      subst (MayMoveAt d dump t) k.1 (moves_target x p k.0 (moves_of x m) (wake_of x p m wakes) k.2)

  pub moves_by : (x : ℕ) → MayMoveAt d dump t x → S x
  moves_by _ (of_input c h) = of_seed c.thing ((notes.noted_are c.thing).1 (c, refl, h))
  moves_by _ (moves_target x p c m wakes target) =
      let r = moves_by x m in
      of_target x p c.thing r (wake_by x p r wakes) (target_by d lawful dump t w tables notes p c target)

pub moves_law : (d : Design) → IsLawfulDesign d → MovesLaw d
moves_law d lawful dump t w tables notes single x = (moves_of d lawful dump t w tables notes single x, moves_by d lawful dump t w tables notes single x)
