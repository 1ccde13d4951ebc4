-- Of a design of inputs, a table that is sound and reasoned is exact.
use Rattle.std.proofs.Common.{◌≡◌, ◌↔◌, ℕ, ◌<◌, ◌&&◌, Bool, true, false, nat_lt, inl, inr, [], length, get_or, refl, sym, ap, subst, ◌∙◌, arith}
use Rattle.std.proofs.lemmas.Bool.{false≢true, lt-ltb}
use Rattle.std.proofs.lemmas.Bool.Decides.{nat_tests}
use Rattle.std.proofs.lemmas.List.{get_or-map, length-map}
use Rattle.coverage_db.specs.declared.db.Db.{Db}
use Rattle.coverage_db.specs.declared.db.DbPoint.{DbPoint}
use Rattle.coverage_db.specs.declared.verdict.DbVerdict.{DbVerdict}
use Rattle.coverage_db.specs.declared.verdict.DbVerdict.TheVariants.{Hit, Missed, Undetermined}
use Rattle.design_model.proofs.AssignLaws.{has_bit}
use Rattle.design_model.proofs.Definite.{bound_point_law}
use Rattle.design_model.proofs.Toggles.{toggle_law}
use Rattle.design_model.specs.Design.{Design, In, cell, is_memory, no_signal, signal_at}
use Rattle.design_model.specs.Lawful.{IsLawfulDesign}
use Rattle.design_model.specs.Numbered.{counted_terms, line_at, lines_of}
use Rattle.design_model.specs.Points.{IsHit, toggle_cell}
use Rattle.verdict_laws.specs.table_laws.point_table.cover_points.design_machines.state_machines.Drawn.{IsPointWith}
use Rattle.verdict_laws.specs.table_laws.point_table.cover_points.design_machines.state_machines.Machines.{no_machines}
use Rattle.design_model.specs.Run.{Run}
use Rattle.design_model.specs.Shows.{AreStretches, BindsSignals, BoundDump, IsContradicted, IsDumpOf}
use Rattle.design_model.specs.declared.point.Point.{Point}
use Rattle.design_model.specs.declared.point.Point.TheVariants.{Line as line_point, Logic as logic_point, Toggle as toggle_point, State as state_point, Arc as arc_point, Word as word_point}
use Rattle.event_machine.specs.Habit.{Free}
use Rattle.verdict_laws.specs.Reasoned.{IsReasoned, IsReasonedVerdict}
use Rattle.verdict_laws.specs.Sound.{IsShownBy, IsSound, Says}
use Rattle.verdict_laws.specs.table_laws.Rows.{ListsPoints}
use Rattle.input_laws.specs.Exact.{Decides, IsExact, IsExactVerdict}
use Rattle.input_laws.specs.Inputs.{HasInputsAlone}
use Rattle.input_laws.specs.Toggled.{TogglesOver}
use Rattle.input_laws.proofs.Moves.{no_process_at}
use Rattle.input_laws.proofs.SomeRun.{run_shown}
use Rattle.input_laws.proofs.Toggled.{at_from_over, over_from_at}

-- a design without memories has no memory of any number
no_memory : (d : Design) → d.memories ≡ [] → (m : ℕ) → is_memory d m ≡ false
no_memory d none m = rw none (grind (arith, nat_tests))

module _ (d : Design) (inputs : HasInputsAlone d) (dump : BoundDump) where
  pub some_shown : BindsSignals d dump → AreStretches dump.stretches → (r : Run) × IsShownBy d Free dump r
  some_shown signals order = let some = run_shown d inputs dump signals order in (some.0, record { is_run = some.1; shows = some.2 })

  pub never_contradicted : BindsSignals d dump → AreStretches dump.stretches → (t : ℕ) → IsContradicted d Free dump t → ⊥
  never_contradicted signals order t refuted =
      let some = run_shown d inputs dump signals order in
      refuted some.0 (record { is_run = some.1; shows = record { starts = some.2.starts; shows = λ u shown before. some.2.shows u shown } })

module _ (d : Design) (lawful : IsLawfulDesign d) (inputs : HasInputsAlone d) (dump : BoundDump) (is : IsDumpOf d dump) where
  input_bound : (s : ℕ) → s < length d.signals → dump.bound s ≡ true
  input_bound s within = is.inputs (cell s 0) (ap (λ b. b && nat_lt 0 (signal_at d s).width) (inputs.signals s no_signal within) ∙ lt-ltb 0 (signal_at d s).width (has_bit d lawful s within))

  -- a run that shows the dump hits the toggle point exactly where the dump toggles its bit
  hit_is : (r : Run) → IsShownBy d Free dump r → (s i : ℕ) (rise : Bool) → s < length d.signals → IsHit d dump r (toggle_point s i rise) ↔ TogglesOver dump (toggle_cell d s i) rise
  hit_is r shown s i rise within =
      let law = toggle_law d Free dump r s i rise shown.is_run shown.shows (input_bound s within) (has_bit d lawful s within) in
      (λ hit. let at = law.0 hit in over_from_at d dump is (toggle_cell d s i) rise at.0 at.1 at.2, λ over. law.1 (at_from_over d dump is (toggle_cell d s i) rise over))

  decides : (r : Run) → IsShownBy d Free dump r → (s i : ℕ) (rise : Bool) (verdict : DbVerdict) → s < length d.signals → Says verdict (IsHit d dump r (toggle_point s i rise)) → IsReasonedVerdict d Free dump (toggle_point s i rise) verdict → Decides verdict (TogglesOver dump (toggle_cell d s i) rise)
  decides r shown s i rise Hit within says reasoned = (hit_is r shown s i rise within).0 says
  decides r shown s i rise Missed within says reasoned = λ over. says ((hit_is r shown s i rise within).1 over)
  decides r shown s i rise (Undetermined time path) within says reasoned =
      bound_point_law d Free dump (toggle_point s i rise) s refl within (input_bound s within) time reasoned.0.thing reasoned.0.in_doubt

  exact_point : (r : Run) → IsShownBy d Free dump r → (x : Point) (verdict : DbVerdict) → IsPointWith d no_machines x → Says verdict (IsHit d dump r x) → IsReasonedVerdict d Free dump x verdict → IsExactVerdict d dump x verdict
  exact_point r shown (line_point p n at w) verdict is_point says reasoned = absurd (subst (λ q. In (line_at n at w) (lines_of q)) (no_process_at d inputs.processes p) is_point)
  exact_point r shown (logic_point p n at op c) verdict is_point says reasoned = absurd (subst (λ q. In is_point.0 (counted_terms q)) (no_process_at d inputs.processes p) is_point.1)
  exact_point r shown (toggle_point s i rise) verdict is_point says reasoned = decides r shown s i rise verdict is_point.0 says reasoned
  exact_point r shown (state_point i name s state x) verdict (inl is_point) says reasoned = absurd is_point.1
  exact_point r shown (state_point i name s state x) verdict (inr is_point) says reasoned = absurd is_point.1
  exact_point r shown (arc_point i name s from to x y) verdict (inl is_point) says reasoned = absurd is_point.1
  exact_point r shown (arc_point i name s from to x y) verdict (inr is_point) says reasoned = absurd is_point.1
  exact_point r shown (word_point m i write) verdict is_point says reasoned = absurd (false≢true (sym (no_memory d inputs.memories m) ∙ is_point.0))

  pub exact_table : (db : Db) → ListsPoints d no_machines db → IsSound d Free dump no_machines db → IsReasoned d Free dump no_machines db → IsExact d dump db
  exact_table db listed sound reasoned k default within =
      let some = some_shown d inputs dump is.signals is.rising in
      let row : DbPoint = get_or db.points k default in
      let there = get_or-map (λ (p : DbPoint). p.address) db.points k default row.address within in
      let named = (listed row.address).0 (k, omega (arith, within, length-map db.points (λ (p : DbPoint). p.address)), there) in
      record {
        point = named.0;
        is_point = named.1;
        named = named.2;
        exact = λ x is_point names. exact_point some.0 some.1 x row.verdict is_point (sound k default within x is_point names some.0 some.1) (reasoned k default within x is_point names).reason;
      }
