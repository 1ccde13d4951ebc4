-- The verdicts of states and arcs after a step.
use Rattle.std.proofs.Common.{◌≡◌, ◌∙◌, ◌<◌, ◌++◌, ◌||◌, ◌&&◌, not, ℕ, Bool, true, false, Option, Some, None, List, [], ◌∷◌, length, map, inl, inr, refl, sym, ap, ap₂, subst}
use Rattle.std.specs.List.{range_with_len}
use Rattle.std.specs.Prelude.{if◌then◌else◌}
use Rattle.mark_laws.specs.replay_model.design_model.event_machine.Cell.{Cell}
use Rattle.mark_laws.specs.Marked.{AreVerdicts, verdict_at}
use Rattle.mark_laws.specs.Numbered.{verdict_view}
use Rattle.mark_laws.specs.Signals.{FollowNotes, with_notes}
use Rattle.mark_laws.specs.cover_points.Listed.{points_of}
use Rattle.mark_laws.specs.cover_points.MachinePoints.{IsOfMachine, machine_of, machine_view, state_value}
use Rattle.mark_laws.specs.cover_points.Visits.{IsMachinePointAt, IsVisitOf, point_at}
use Rattle.mark_laws.specs.cover_points.design_machines.Machines.{machine_at}
use Rattle.mark_laws.specs.cover_points.design_machines.declared.machine.Machine.{Machine}
use Rattle.mark_laws.specs.cover_points.declared.listing.Points.{Points}
use Rattle.mark_laws.specs.cover_points.declared.machine_point.MachinePoint.{MachinePoint}
use Rattle.mark_laws.specs.cover_points.declared.machine_point.MachinePoint.TheVariants.{Arc, State}
use Rattle.mark_laws.specs.cover_points.declared.visit.Visit.{Visit}
use Rattle.mark_laws.specs.replay_model.Marks.{IsHitMarked, IsUnmarked, IsVerdict, Marking}
use Rattle.mark_laws.specs.replay_model.Step.{Closing, all_run, are_surely, before_of, known_bits, mark_had, mark_reached, may_be, point_notes, tell}
use Rattle.mark_laws.specs.replay_model.body_replay.Store.{Kept}
use Rattle.mark_laws.specs.replay_model.design_model.Design.{Design, cell, signal_at}
use Rattle.mark_laws.specs.replay_model.four_state.Vector.{Vector}
use Rattle.mark_laws.specs.replay_model.four_state.declared.bit.Bit.{Bit}
use Rattle.mark_laws.specs.replay_model.design_model.declared.point.Point.{Point}
use Rattle.mark_laws.specs.replay_model.design_model.declared.point.Point.TheVariants as point
use Rattle.replay_steps.specs.Settling.{IsStillAt}
use Rattle.point_marks.specs.declared.verdict.Verdict.{Verdict}
use Rattle.point_marks.specs.declared.verdict.Verdict.TheVariants as marks
use Rattle.signal_marks.specs.Toggled.{toggled}
use Rattle.toggle_laws.specs.Turns.{FollowToggles}
use Rattle.machine_marks.specs.Marked.{chances_in, chances_of, marked_if}
use Rattle.machine_laws.specs.Followed.{FollowLaw, MarksMachines, SeenLaw, is_due, step_chances, with_machine}
use Rattle.machine_laws.specs.Told.{AreTold, IsTold, IsToldOf}
use Rattle.machine_laws.proofs.Places.{machine_point_at, of_machine_at, unvisited, view_at}
use Rattle.machine_laws.proofs.Told.{told_before}

-- what is reported of a point, as its verdict is changed
toggled_told : (st : Closing) (x : Point) (s : ℕ) (sure possible : Bool) (v : Verdict) → toggled s st.time sure possible v ≡ with_notes (tell st x s sure possible) v
toggled_told st x s true possible v = refl
toggled_told st x s false true v = refl
toggled_told st x s false false v = refl

-- the bits of a signal that may not move are known as before
same_cells : (s : ℕ) (ns : List ℕ) (k q : Kept) → ((c : Cell) → c.thing ≡ s → k c ≡ q c) → map k (map (cell s) ns) ≡ map q (map (cell s) ns)
same_cells s [] k q same = refl
same_cells s (n ∷ ns) k q same = ap₂ (λ a b. a ∷ b) (same (cell s n) refl) (same_cells s ns k q same)

module _ (st : Closing) (still : IsStillAt st (all_run st)) where
  still_bits : (s : ℕ) → st.sets.moves s ≡ false → known_bits st.design (all_run st).kept s ≡ known_bits st.design st.start.kept s
  still_bits s rests = same_cells s (range_with_len 0 (signal_at st.design s).width) (all_run st).kept st.start.kept (λ c e. still.kept c (ap st.sets.moves e ∙ rests))

no_hit : (d : Design) (x : Point) (ns : List Marking) → IsUnmarked d x ns → IsHitMarked d x ns → ⊥
no_hit d x [] h hit = hit
no_hit d x (m ∷ ns) h (inl hit) = h.0 hit.0
no_hit d x (m ∷ ns) h (inr hit) = no_hit d x ns h.1 hit

module _ (st : Closing) (x : Point) (ns : List Marking) where
  -- what was reported before is not reported anew
  sure_stays : (s : ℕ) (possible : Bool) (v : Verdict) → IsVerdict st.design x ns (verdict_view v) → IsHitMarked st.design x ns → v ≡ with_notes (tell st x s true possible) v
  sure_stays s possible marks.Hit is hit = refl
  sure_stays s possible (marks.Undetermined y) is hit = absurd (is.0 hit)
  sure_stays s possible marks.Missed is hit = absurd (no_hit st.design x ns is hit)

  may_stay : (s : ℕ) (v : Verdict) → IsVerdict st.design x ns (verdict_view v) → (IsUnmarked st.design x ns → ⊥) → v ≡ with_notes (tell st x s false true) v
  may_stay s marks.Hit is some = refl
  may_stay s (marks.Undetermined y) is some = refl
  may_stay s marks.Missed is some = absurd (some is)

  told_stays : (s : ℕ) (sure possible : Bool) (v : Verdict) → IsVerdict st.design x ns (verdict_view v) → IsTold st.design x ns sure possible → v ≡ with_notes (tell st x s sure possible) v
  told_stays s true possible v is told = sure_stays s possible v is (told.hit refl)
  told_stays s false true v is told = may_stay s v is (told.some refl)
  told_stays s false false v is told = refl

if_moves : (st : Closing) (x : Point) (s : ℕ) (sure possible : Bool) (v : Verdict) (b : Bool) → (if (b || false) then toggled s st.time sure possible v else v) ≡ with_notes (if b then tell st x s sure possible else []) v
if_moves st x s sure possible v true = toggled_told st x s sure possible v
if_moves st x s sure possible v false = refl

module _ (st : Closing) (ps : Points) (told : Bool) (before middle after : List Verdict) (verdicts : AreVerdicts st.design ps (all_run st).notes before) (still : IsStillAt st (all_run st))
    (more : List Marking) (noted : (all_run st).notes ≡ st.start.notes ++ more) (are_told : told ≡ true → st.listed ≡ true → AreTold st.design ps st.start) (hidden_told : st.listed ≡ false → told ≡ true)
    (toggles : FollowToggles st ps before middle) (machines : MarksMachines st ps told middle after) where
  state_follows : (k m j : ℕ) (x : Machine) → k < length (points_of ps) → IsMachinePointAt ps k (State m j) → x ≡ machine_at ps.machines.items m → (v : Verdict) → v ≡ verdict_at before k
      → with_machine st x told (State m j) v ≡ with_notes (point_notes st (machine_view ps.machines.items (State m j))) v
  state_follows k m j x l at is v e = by_listed st.listed refl
    where
      y : Point
      y = machine_view ps.machines.items (State m j)

      sure : Bool
      sure = are_surely (known_bits st.design (all_run st).kept (machine_at ps.machines.items m).signal) (state_value ps.machines.items m j).bits

      possible : Bool
      possible = may_be (known_bits st.design (all_run st).kept (machine_at ps.machines.items m).signal) (state_value ps.machines.items m j).bits

      -- at a time that the dump does not list it may be come to
      reached : Bool
      reached = possible && not (are_surely (known_bits st.design (before_of st) (machine_at ps.machines.items m).signal) (state_value ps.machines.items m j).bits)

      marked : (b c : Bool) → st.listed ≡ b → is_due st x told (State m j) ≡ c
          → with_machine st x told (State m j) v ≡ marked_if c (machine_at ps.machines.items m).signal st.time (chances_in b (machine_at ps.machines.items m).values (known_bits st.design (before_of st) (machine_at ps.machines.items m).signal) (known_bits st.design (all_run st).kept (machine_at ps.machines.items m).signal) (State m j)) v
      marked b c listed due =
          ap (λ d. marked_if d x.signal st.time (step_chances st x (State m j)) v) due
          ∙ ap (λ h. marked_if c x.signal st.time (chances_in h x.values (known_bits st.design (before_of st) x.signal) (known_bits st.design (all_run st).kept x.signal) (State m j)) v) listed
          ∙ ap (λ (z : Machine). marked_if c z.signal st.time (chances_in b z.values (known_bits st.design (before_of st) z.signal) (known_bits st.design (all_run st).kept z.signal) (State m j)) v) is

      notes_are : (b : Bool) → st.listed ≡ b
          → point_notes st y ≡ (if b then mark_had st y (machine_at ps.machines.items m).signal (state_value ps.machines.items m j).bits
          else (if st.sets.moves (machine_at ps.machines.items m).signal then mark_reached st y (machine_at ps.machines.items m).signal (state_value ps.machines.items m j).bits else []))
      notes_are b listed = ap (λ h. if h then mark_had st y (machine_at ps.machines.items m).signal (state_value ps.machines.items m j).bits
          else (if st.sets.moves (machine_at ps.machines.items m).signal then mark_reached st y (machine_at ps.machines.items m).signal (state_value ps.machines.items m j).bits else [])) listed

      told_here : told ≡ true → st.listed ≡ true → st.sets.moves x.signal ≡ false → IsTold st.design y (all_run st).notes sure possible
      told_here t listed rests =
          let start : IsToldOf st.design st.start y = subst (λ z. IsToldOf st.design st.start z) (view_at ps k (State m j) at) (are_told t listed k l) in
          let bits = still_bits st still (machine_at ps.machines.items m).signal (sym (ap (λ (z : Machine). st.sets.moves z.signal) is) ∙ rests) in
          let now : IsTold st.design y st.start.notes sure possible = subst (λ bs. IsTold st.design y st.start.notes (are_surely bs (state_value ps.machines.items m j).bits) (may_be bs (state_value ps.machines.items m j).bits)) (sym bits) start in
          subst (λ (ns : List Marking). IsTold st.design y ns sure possible) (sym noted) (told_before st.design y st.start.notes more sure possible now)

      verdict_here : IsVerdict st.design y (all_run st).notes (verdict_view v)
      verdict_here = subst (λ w. IsVerdict st.design y (all_run st).notes (verdict_view w)) (sym e) (subst (λ z. IsVerdict st.design z (all_run st).notes (verdict_view (verdict_at before k))) (view_at ps k (State m j) at) (verdicts.each k l))

      go : st.listed ≡ true → (b t : Bool) → st.sets.moves x.signal ≡ b → told ≡ t → with_machine st x told (State m j) v ≡ with_notes (tell st y (machine_at ps.machines.items m).signal sure possible) v
      go listed true t moves is_told = marked true true listed (ap (λ c. c || not told) moves) ∙ toggled_told st y (machine_at ps.machines.items m).signal sure possible v
      go listed false false moves is_told = marked true true listed (ap₂ (λ c t. c || not t) moves is_told) ∙ toggled_told st y (machine_at ps.machines.items m).signal sure possible v
      go listed false true moves is_told = marked true false listed (ap₂ (λ c t. c || not t) moves is_told) ∙ told_stays st y (all_run st).notes (machine_at ps.machines.items m).signal sure possible v verdict_here (told_here is_told listed moves)

      go_hidden : st.listed ≡ false → with_machine st x told (State m j) v ≡ with_notes (if st.sets.moves (machine_at ps.machines.items m).signal then tell st y (machine_at ps.machines.items m).signal false reached else []) v
      go_hidden listed =
          let due : is_due st x told (State m j) ≡ (st.sets.moves (machine_at ps.machines.items m).signal || false) = ap₂ (λ (z : Machine) t. st.sets.moves z.signal || not t) is (hidden_told listed) in
          marked false (st.sets.moves (machine_at ps.machines.items m).signal || false) listed due ∙ if_moves st y (machine_at ps.machines.items m).signal false reached v (st.sets.moves (machine_at ps.machines.items m).signal)

      by_listed : (b : Bool) → st.listed ≡ b → with_machine st x told (State m j) v ≡ with_notes (point_notes st y) v
      by_listed true listed = go listed (st.sets.moves x.signal) told refl refl ∙ ap (λ ns. with_notes ns v) (sym (notes_are true listed))
      by_listed false listed = go_hidden listed ∙ ap (λ ns. with_notes ns v) (sym (notes_are false listed))

  arc_in : (b : Bool) (vs : List Vector) (old now : List (Option Bit)) (m i j : ℕ) → chances_in b vs old now (Arc m i j) ≡ chances_of vs old now (Arc m i j)
  arc_in true vs old now m i j = refl
  arc_in false vs old now m i j = refl

  machine_follows : (k : ℕ) (p : MachinePoint) → k < length (points_of ps) → IsMachinePointAt ps k p → with_machine st (machine_at ps.machines.items (machine_of p)) told p (verdict_at before k) ≡ with_notes (point_notes st (machine_view ps.machines.items p)) (verdict_at before k)
  machine_follows k (State m j) l at = state_follows k m j (machine_at ps.machines.items m) l at refl (verdict_at before k) refl
  machine_follows k (Arc m i j) l at =
      ap (λ c. marked_if (st.sets.moves (machine_at ps.machines.items m).signal || false) (machine_at ps.machines.items m).signal st.time c (verdict_at before k))
      (arc_in st.listed (machine_at ps.machines.items m).values (known_bits st.design (before_of st) (machine_at ps.machines.items m).signal) (known_bits st.design (all_run st).kept (machine_at ps.machines.items m).signal) m i j)
      ∙ if_moves st (machine_view ps.machines.items (Arc m i j)) (machine_at ps.machines.items m).signal _ _ (verdict_at before k) (st.sets.moves (machine_at ps.machines.items m).signal)

  machine_each : (k : ℕ) (p : MachinePoint) → k < length (points_of ps) → IsMachinePointAt ps k p → verdict_at after k ≡ with_notes (point_notes st (point_at ps k)) (verdict_at before k)
  machine_each k p l at =
      machines.each k p at ∙ ap (with_machine st (machine_at ps.machines.items (machine_of p)) told p) (toggles.machines k l (of_machine_at ps k p at))
      ∙ machine_follows k p l at ∙ ap (λ x. with_notes (point_notes st x) (verdict_at before k)) (sym (view_at ps k p at))

  other_each : (k : ℕ) → k < length (points_of ps) → (IsOfMachine (point_at ps k) → ⊥) → verdict_at after k ≡ with_notes (point_notes st (point_at ps k)) (verdict_at before k)
  other_each k l plain = machines.others k (λ p at. plain (of_machine_at ps k p at)) ∙ toggles.each k l plain

  of_machine : (k : ℕ) → k < length (points_of ps) → IsOfMachine (point_at ps k) → verdict_at after k ≡ with_notes (point_notes st (point_at ps k)) (verdict_at before k)
  of_machine k l is = let p = machine_point_at ps k l is in machine_each k p.0 l p.1

  each_follows : (k : ℕ) (x : Point) → k < length (points_of ps) → point_at ps k ≡ x → verdict_at after k ≡ with_notes (point_notes st (point_at ps k)) (verdict_at before k)
  each_follows k (point.Line p n at w) l e = other_each k l (subst (λ (x : Point). IsOfMachine x → ⊥) (sym e) (λ h. h))
  each_follows k (point.Logic p n at op c) l e = other_each k l (subst (λ (x : Point). IsOfMachine x → ⊥) (sym e) (λ h. h))
  each_follows k (point.Toggle s i r) l e = other_each k l (subst (λ (x : Point). IsOfMachine x → ⊥) (sym e) (λ h. h))
  each_follows k (point.State i name s state x) l e = of_machine k l (subst (λ (x : Point). IsOfMachine x) (sym e) tt)
  each_follows k (point.Arc i name s from to x y) l e = of_machine k l (subst (λ (x : Point). IsOfMachine x) (sym e) tt)
  each_follows k (point.Word m i write) l e = other_each k l (subst (λ (x : Point). IsOfMachine x → ⊥) (sym e) (λ h. h))

  pub all_follow : FollowNotes st ps before after
  all_follow = record { count = machines.count ∙ toggles.count; each = λ k l. each_follows k (point_at ps k) l refl }

pub follows : FollowLaw
follows st ms ps told before middle after lawful list once verdicts still more are_told hidden_told toggles machines = all_follow st ps told before middle after verdicts still more.0 more.1 are_told hidden_told toggles machines

-- the toggles that are seen stay so
pub stay_seen : SeenLaw
stay_seen st ps masks told before after seen machines s =
    let x = seen s in
    record {
      rises = λ i k l set v. same k _ v ∙ x.rises i k l set v;
      falls = λ i k l set v. same k _ v ∙ x.falls i k l set v;
      may_rise = λ i k l set v e. x.may_rise i k l set v (sym (same k _ v) ∙ e);
      may_fall = λ i k l set v e. x.may_fall i k l set v (sym (same k _ v) ∙ e);
    }
  where
    same : (k : ℕ) (v : Visit) → IsVisitOf ps k v → verdict_at after k ≡ verdict_at before k
    same k v visit = machines.others k (λ p at. let no : None ≡ Some v = sym (unvisited (point_at ps k) (of_machine_at ps k p at)) ∙ visit.1 in cc)
