-- Toggle points that are marked one signal after the other.
use Rattle.std.proofs.Common.{◌≡◌, ◌≢◌, ◌∙◌, ◌++◌, ℕ, ◌<◌, ◌==◌, ◌&&◌, ◌||◌, Bool, true, false, if◌then◌else◌, List, [], ◌∷◌, Option, Some, None, length, refl, sym, ap, ap₂, subst, arith, eqb-true, eq-eqb}
use Rattle.std.specs.List.{list_any}
use Rattle.std.proofs.lemmas.Bool.{true≢false}
use Rattle.std.proofs.lemmas.List.{get_or-map}
use Rattle.std.proofs.lemmas.List.FromFn.{get_or-map-range_with_len, length-map-range_with_len}
use Rattle.four_state.specs.declared.bit.Bit.{Bit}
use Rattle.four_state.specs.declared.bit.Bit.TheVariants.{One, Zero}
use Rattle.mark_laws.specs.body_replay.Store.{Kept}
use Rattle.bit_changes.specs.Changes.{bit_at, may_fall, may_rise, surely_falls, surely_rises}
use Rattle.bit_changes.specs.Changes as changes
use Rattle.design_model.specs.Design.{Design, cell, signal_at, signal_cells}
use Rattle.design_model.specs.Lawful.{IsLawfulDesign}
use Rattle.design_model.specs.Points.{toggle_cell}
use Rattle.mark_laws.specs.cover_points.design_machines.state_machines.Drawn.{IsPointWith}
use Rattle.mark_laws.specs.cover_points.design_machines.state_machines.Machines.{StateMachines}
use Rattle.design_model.specs.declared.point.Point.{Point}
use Rattle.design_model.specs.declared.point.Point.TheVariants as point
use Rattle.mark_laws.specs.cover_points.Listed.{IsPointList, points_of}
use Rattle.mark_laws.specs.cover_points.Visits.{IsVisitOf, no_point, point_at, visit_of}
use Rattle.mark_laws.specs.cover_points.declared.listing.Points.{Points}
use Rattle.mark_laws.specs.cover_points.declared.visit.Visit.TheVariants.{Line, Node, Read, Toggle, Write}
use Rattle.mark_laws.proofs.cover_points.Members.{in_at}
use Rattle.point_marks.specs.declared.verdict.Verdict.{Verdict}
use Rattle.point_marks.specs.declared.verdict.Verdict.TheVariants.{Hit, Missed, Undetermined}
use Rattle.mark_laws.specs.replay_model.Step.{Closing, all_run, before_of, bit_may_be, from_bit, known_bits, mark_toggle, point_notes, surely_same, tell, to_bit}
use Rattle.mark_laws.specs.Signals.{with_notes}
use Rattle.mark_laws.specs.cover_points.MachinePoints.{IsOfMachine}
use Rattle.signal_marks.specs.Toggled.{index_at, toggled, verdict_of}
use Rattle.toggle_laws.specs.Turns.{AreMoves, FollowToggles, MarksInTurn, MarksMoved}
use Rattle.toggle_laws.proofs.Places.{IsPlaceOf, names_place, place_at}

-- ---- two definitions of the same tests

same_tests : (p q : Option Bit) → changes.surely_same p q ≡ surely_same p q
same_tests None q = refl
same_tests (Some a) None = refl
same_tests (Some a) (Some b) = refl

may_tests : (p : Option Bit) (b : Bit) → changes.bit_may_be p b ≡ bit_may_be p b
may_tests None b = refl
may_tests (Some a) b = refl

-- whether a bit surely goes, or may go, in a direction
abbrev surely_goes : Bool → Option Bit → Option Bit → Bool
surely_goes r p q = if r then surely_rises p q else surely_falls p q

abbrev may_go : Bool → Option Bit → Option Bit → Bool
may_go r p q = if r then may_rise p q else may_fall p q

surely_so : (r : Bool) (p q : Option Bit) → surely_goes r p q ≡ (surely_same p (Some (from_bit r)) && surely_same q (Some (to_bit r)))
surely_so true p q = ap₂ (λ a b. a && b) (same_tests p (Some Zero)) (same_tests q (Some One))
surely_so false p q = ap₂ (λ a b. a && b) (same_tests p (Some One)) (same_tests q (Some Zero))

may_so : (r : Bool) (p q : Option Bit) → may_go r p q ≡ (bit_may_be p (from_bit r) && bit_may_be q (to_bit r))
may_so true p q = ap₂ (λ a b. a && b) (may_tests p Zero) (may_tests q One)
may_so false p q = ap₂ (λ a b. a && b) (may_tests p One) (may_tests q Zero)

-- ---- one verdict

twice : (s time : ℕ) (sure possible : Bool) (v : Verdict) → toggled s time sure possible (toggled s time sure possible v) ≡ toggled s time sure possible v
twice s time true possible v = refl
twice s time false false v = refl
twice s time false true Hit = refl
twice s time false true Missed = refl
twice s time false true (Undetermined y) = refl

noted : (st : Closing) (x : Point) (s : ℕ) (sure possible : Bool) (v : Verdict) → with_notes (tell st x s sure possible) v ≡ toggled s st.time sure possible v
noted st x s true possible v = refl
noted st x s false true v = refl
noted st x s false false v = refl

known_at : (d : Design) (k : Kept) (s p : ℕ) → p < (signal_at d s).width → bit_at (known_bits d k s) p ≡ k (cell s p)
known_at d k s p l =
    get_or-map k (signal_cells d s) p (cell s p) None (rw (length-map-range_with_len (cell s) 0 (signal_at d s).width) l) ∙ ap k (get_or-map-range_with_len (cell s) 0 (signal_at d s).width p p (cell s p) l (omega arith))

same_signal : (s q a b : ℕ) (r u : Bool) → Some (Toggle s a r) ≡ Some (Toggle q b u) → s ≡ q
same_signal s q a b r u e = cc

-- ---- one point after the signals in turn

module _ (st : Closing) (ps : Points) where
  counted : (signals : List ℕ) (before after : List Verdict) → MarksInTurn st ps signals before after → length after ≡ length before
  counted [] before after h = ap length h
  counted (s ∷ signals) before after (middle, first, rest) = counted signals middle after rest ∙ first.count

  -- a point of another kind
  passed : (k : ℕ) → ((s i : ℕ) (r : Bool) → visit_of (point_at ps k) ≢ Some (Toggle s i r)) → (signals : List ℕ) (before after : List Verdict) → MarksInTurn st ps signals before after → verdict_of after k ≡ verdict_of before k
  passed k other [] before after h = ap (λ vs. verdict_of vs k) h
  passed k other (s ∷ signals) before after (middle, first, rest) =
      passed k other signals middle after rest ∙ first.others k (λ rise i l visit. other s (index_at (signal_at st.design s) i) rise visit.1)

  module _ (s p : ℕ) (r : Bool) (k : ℕ) (inside : p < (signal_at st.design s).width) (visit : IsVisitOf ps k (Toggle s (index_at (signal_at st.design s) p) r)) where
    -- the bit before the step and at its end
    abbrev old : Option Bit
    old = bit_at (known_bits st.design (before_of st) s) p

    abbrev new : Option Bit
    new = bit_at (known_bits st.design (all_run st).kept s) p

    abbrev marked : Verdict → Verdict
    marked v = toggled s st.time (surely_goes r old new) (may_go r old new) v

    own : (before after : List Verdict) → MarksMoved st ps s before after → verdict_of after k ≡ marked (verdict_of before k)
    own before after h = go r refl
      where
        go : (b : Bool) → r ≡ b → verdict_of after k ≡ toggled s st.time (surely_goes r old new) (may_go r old new) (verdict_of before k)
        go true e = h.rises p k inside (subst (λ u. IsVisitOf ps k (Toggle s (index_at (signal_at st.design s) p) u)) e visit) ∙ ap (λ u. toggled s st.time (surely_goes u old new) (may_go u old new) (verdict_of before k)) (sym e)
        go false e = h.falls p k inside (subst (λ u. IsVisitOf ps k (Toggle s (index_at (signal_at st.design s) p) u)) e visit) ∙ ap (λ u. toggled s st.time (surely_goes u old new) (may_go u old new) (verdict_of before k)) (sym e)

    first_turn : (q : ℕ) (before after : List Verdict) → MarksMoved st ps q before after → verdict_of after k ≡ (if q == s then marked (verdict_of before k) else verdict_of before k)
    first_turn q before after h = go (q == s) refl
      where
        go : (b : Bool) → (q == s) ≡ b → verdict_of after k ≡ (if b then marked (verdict_of before k) else verdict_of before k)
        go true e = own before after (subst (λ j. MarksMoved st ps j before after) (eqb-true q s e) h)
        go false e = h.others k (λ rise i l own_visit. true≢false (sym (eq-eqb q s (sym (same_signal s q (index_at (signal_at st.design s) p) (index_at (signal_at st.design q) i) r rise (sym visit.1 ∙ own_visit.1)))) ∙ e))

    both : (a b : Bool) (v : Verdict) → (if b then marked (if a then marked v else v) else (if a then marked v else v)) ≡ (if a || b then marked v else v)
    both true true v = twice s st.time (surely_goes r old new) (may_go r old new) v
    both true false v = refl
    both false true v = refl
    both false false v = refl

    all_turns : (signals : List ℕ) (before after : List Verdict) → MarksInTurn st ps signals before after → verdict_of after k ≡ (if list_any (λ y. y == s) signals then marked (verdict_of before k) else verdict_of before k)
    all_turns [] before after h = ap (λ vs. verdict_of vs k) h
    all_turns (q ∷ signals) before after (middle, first, rest) =
        all_turns signals middle after rest ∙ ap (λ v. if list_any (λ y. y == s) signals then marked v else v) (first_turn q before middle first) ∙ both (q == s) (list_any (λ y. y == s) signals) (verdict_of before k)

  -- what is reported of a toggle point
  toggle_noted : (s i p : ℕ) (r : Bool) (v : Verdict) → IsPlaceOf (signal_at st.design s) i p → with_notes (mark_toggle st (point.Toggle s i r) s (toggle_cell st.design s i) (from_bit r) (to_bit r)) v
      ≡ toggled s st.time (surely_goes r (bit_at (known_bits st.design (before_of st) s) p) (bit_at (known_bits st.design (all_run st).kept s) p)) (may_go r (bit_at (known_bits st.design (before_of st) s) p) (bit_at (known_bits st.design (all_run st).kept s) p)) v
  toggle_noted s i p r v h =
      let d = st.design in
      let x = point.Toggle s i r in
      let kept : Kept = before_of st in
      let last = (all_run st).kept in
      let old : kept (toggle_cell d s i) ≡ bit_at (known_bits d kept s) p = ap kept (names_place d s i p h) ∙ sym (known_at d kept s p h.inside) in
      let new : last (toggle_cell d s i) ≡ bit_at (known_bits d last s) p = ap last (names_place d s i p h) ∙ sym (known_at d last s p h.inside) in
      noted st x s _ _ v
      ∙ ap₂ (λ a b. toggled s st.time (surely_same a (Some (from_bit r)) && surely_same b (Some (to_bit r))) (bit_may_be a (from_bit r) && bit_may_be b (to_bit r)) v) old new
      ∙ ap₂ (λ a b. toggled s st.time a b v) (sym (surely_so r _ _)) (sym (may_so r _ _))

  module _ (lawful : IsLawfulDesign st.design) (signals : List ℕ) (before after : List Verdict) (moves : AreMoves st signals) (h : MarksInTurn st ps signals before after) where
    toggle_follows : (ms : StateMachines) (k s i : ℕ) (r : Bool) → k < length (points_of ps) → point_at ps k ≡ point.Toggle s i r → IsPointWith st.design ms (point.Toggle s i r) → verdict_of after k ≡ with_notes (point_notes st (point.Toggle s i r)) (verdict_of before k)
    toggle_follows ms k s i r l is at =
        let place = place_at st.design lawful s i at.0 at.1 in
        let p = place.0 in
        let visit : IsVisitOf ps k (Toggle s (index_at (signal_at st.design s) p) r) = (l, ap visit_of is ∙ ap (λ j. Some (Toggle s j r)) (sym place.1.index)) in
        all_turns s p r k place.1.inside visit signals before after h
        ∙ ap (λ b. if b then marked s p r k place.1.inside visit (verdict_of before k) else verdict_of before k) (sym (moves s at.0))
        ∙ go (st.sets.moves s) place
      where
        go : (b : Bool) (place : (p : ℕ) × IsPlaceOf (signal_at st.design s) i p)
            → (if b then toggled s st.time (surely_goes r (bit_at (known_bits st.design (before_of st) s) place.0) (bit_at (known_bits st.design (all_run st).kept s) place.0)) (may_go r (bit_at (known_bits st.design (before_of st) s) place.0) (bit_at (known_bits st.design (all_run st).kept s) place.0)) (verdict_of before k) else verdict_of before k)
            ≡ with_notes (if b then mark_toggle st (point.Toggle s i r) s (toggle_cell st.design s i) (from_bit r) (to_bit r) else []) (verdict_of before k)
        go true place = sym (toggle_noted s i place.0 r (verdict_of before k) place.1)
        go false place = refl

    follows : (ms : StateMachines) (k : ℕ) (x : Point) → k < length (points_of ps) → point_at ps k ≡ x → IsPointWith st.design ms x → (IsOfMachine x → ⊥) → verdict_of after k ≡ with_notes (point_notes st x) (verdict_of before k)
    follows ms k (point.Line p n at w) l is of plain = passed k (λ s i r e. (let no : Some (Line p n) ≡ Some (Toggle s i r) = ap visit_of (sym is) ∙ e in cc)) signals before after h
    follows ms k (point.Logic p n at op c) l is of plain = passed k (λ s i r e. (let no : Some (Node p n c) ≡ Some (Toggle s i r) = ap visit_of (sym is) ∙ e in cc)) signals before after h
    follows ms k (point.Toggle s i r) l is of plain = toggle_follows ms k s i r l is of
    follows ms k (point.State i name s state x) l is of plain = absurd (plain tt)
    follows ms k (point.Arc i name s from to x y) l is of plain = absurd (plain tt)
    follows ms k (point.Word m i true) l is of plain = passed k (λ s j r e. (let no : Some (Write m i) ≡ Some (Toggle s j r) = ap visit_of (sym is) ∙ e in cc)) signals before after h
    follows ms k (point.Word m i false) l is of plain = passed k (λ s j r e. (let no : Some (Read m i) ≡ Some (Toggle s j r) = ap visit_of (sym is) ∙ e in cc)) signals before after h

    -- a state or an arc has no visit
    unvisited : (x : Point) → IsOfMachine x → visit_of x ≡ None
    unvisited (point.Line p n at w) is = absurd is
    unvisited (point.Logic p n at op c) is = absurd is
    unvisited (point.Toggle s i r) is = absurd is
    unvisited (point.State i name s state x) is = refl
    unvisited (point.Arc i name s from to x y) is = refl
    unvisited (point.Word m i write) is = absurd is

    pub all_follow : (ms : StateMachines) → IsPointList st.design ms ps → FollowToggles st ps before after
    all_follow ms list = record {
      count = counted signals before after h;
      each = λ k l no. follows ms k (point_at ps k) l refl ((list.members (point_at ps k)).0 (in_at (points_of ps) k no_point l)) no;
      machines = λ k l is. passed k (λ s i r e. (let none : None ≡ Some (Toggle s i r) = sym (unvisited (point_at ps k) is) ∙ e in cc)) signals before after h;
    }

  -- one signal more
  pub one_more : (signals : List ℕ) (s : ℕ) (before middle after : List Verdict) → MarksInTurn st ps signals before middle → MarksMoved st ps s middle after → MarksInTurn st ps (signals ++ s ∷ []) before after
  one_more [] s before middle after h last = (after, subst (λ vs. MarksMoved st ps s vs after) h last, refl)
  one_more (q ∷ signals) s before middle after (next, first, rest) last = (next, first, one_more signals s next middle after rest last)
