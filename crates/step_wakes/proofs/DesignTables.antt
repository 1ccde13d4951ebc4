-- The rows of a design are tables of its signals, memories and processes.
use Rattle.std.proofs.Common.{◌≡◌, ◌↔◌, ◌∙◌, inl, inr, ⊎_elim, ℕ, ◌+◌, ◌<◌, ◌≤◌, Bool, true, false, ◌&&◌, ◌==◌, ◌^◌, List, [], length, get_or, map, refl, sym, ap, subst, arith}
use Rattle.std.specs.Prelude.{nat_lt}
use Rattle.std.specs.List.{All, Contains, list_all}
use Rattle.std.proofs.lemmas.Bool.{and_parts, both_ways, cases_Bool, cases_lt, ltb-true}
use Rattle.std.proofs.lemmas.List.{get_or-map, get_or_past, length-map}
use Rattle.std.proofs.lemmas.List.Folds.{list_all_at}
use Rattle.four_state.specs.declared.edge.Edge.{Edge}
use Rattle.event_machine.specs.Machine.{Edge as MachineEdge, Negedge, Posedge}
use Rattle.design_model.specs.Design.{Design, body, body_at, cell, no_process, process_at, signal_at}
use Rattle.design_model.specs.Lawful.{IsLawfulDesign}
use Rattle.design_model.specs.Machine.{events_of, is_level, lists_edge, machine}
use Rattle.design_model.specs.Shape.{is_body}
use Rattle.design_model.specs.Tree.{Process}
use Rattle.design_model.specs.View.{design_view, process_view}
use Rattle.design_model.specs.declared.design.Design.{Design as CodeDesign}
use Rattle.design_model.specs.declared.tree.Process.{Process as CodeProcess}
use Rattle.design_targets.specs.Written.{IsShapedProcess, written}
use Rattle.design_targets.proofs.Targets.{blocking_law, nonblocking_law, within_law}
use Rattle.design_wakes.specs.Tables.{IsEdgeTable, IsLevelTable}
use Rattle.design_wakes.proofs.Tables.{names_row}
use Rattle.early_sets.specs.index_sets.Rows.{row_at}
use Rattle.replay_sets.specs.wake_laws.OfDesign.{AreTablesOf, HasCell}
use Rattle.wake_tables.specs.Table.{IsEventTable, IsTable}
use Rattle.wake_tables.specs.declared.tables.WakeTables.{WakeTables}

-- a row that is not there is empty
no_row : {T : Type 0} (rows : List (List T)) (k : ℕ) (x : T) → length rows ≤ k → Contains (row_at rows k) x → ⊥
no_row rows k x past c = let m = subst (λ r. Contains r x) (get_or_past rows k [] past) c in omega (arith, m.1)

-- the processes of a row by a test that holds of no process that is not there
rows_below : (test : Process → ℕ → Bool) → ((x : ℕ) → test no_process x ≡ false) → (ps : List CodeProcess) (count : ℕ) (rows : List (List ℕ)) → length rows ≡ count → ((x p : ℕ) → x < count → Contains (row_at rows x) p ↔ (test (get_or (map process_view ps) p no_process) x ≡ true)) → (k x : ℕ) → Contains (row_at rows k) x → x < length ps
rows_below test none ps count rows counted has k x c =
    ⊎_elim
    (λ l. ⊎_elim
    (λ m. m)
    (λ past. absurd (both_ways (test no_process k) (none k) (subst (λ p. test p k ≡ true) (get_or_past (map process_view ps) x no_process (omega (arith, past, length-map ps process_view))) ((has k x l).0 c))))
    (cases_lt x (length ps)))
    (λ past. absurd (no_row rows k x (omega (arith, past, counted)) c))
    (cases_lt k count)

pub level_within : (ps : List CodeProcess) (count : ℕ) (rows : List (List ℕ)) → IsLevelTable (map process_view ps) count rows → IsTable rows count (length ps)
level_within ps count rows t = record { count_is = t.count_is; below = rows_below is_level (λ x. refl) ps count rows t.count_is t.has }

pub edge_within : (e : MachineEdge) (ps : List CodeProcess) (count : ℕ) (rows : List (List ℕ)) → IsEdgeTable e (map process_view ps) count rows → IsTable rows count (length ps)
edge_within e ps count rows t = record { count_is = t.count_is; below = rows_below (λ p x. lists_edge p e (cell x 0)) (λ x. refl) ps count rows t.count_is t.has }

module _ (x : CodeDesign) (lawful : IsLawfulDesign (design_view x)) where
  abbrev d : Design
  d = design_view x

  -- each process of the design has its shapes
  pub shaped : All (λ process. IsShapedProcess (process_view process)) x.processes
  shaped k p l = (d, subst (λ q. is_body d (body q) ≡ true) (names_at k p l) (lawful.bodies k))
    where
      names_at : (k : ℕ) (p : CodeProcess) → k < length x.processes → process_at d k ≡ process_view (get_or x.processes k p)
      names_at k p l = get_or-map process_view x.processes k p no_process l

  pub few : length x.processes ≤ 2 ^ 32
  few = omega (arith, lawful.few_processes, length-map x.processes process_view)

  -- what a process may write by assignments of a kind
  target_row : (b : Bool) (rows : List (List ℕ)) → rows ≡ map (λ process. written b (body (process_view process))) x.processes → (p : ℕ) → row_at rows p ≡ written b (body_at d p)
  target_row b rows is p = ap (λ r. row_at r p) is ∙ names_row (λ process. written b (body process)) x.processes p refl

  pub target_within : (b : Bool) (rows : List (List ℕ)) → rows ≡ map (λ process. written b (body (process_view process))) x.processes → IsTable rows (length x.processes) (length x.signals + length x.memories)
  target_within b rows is =
      record {
        count_is = ap length is ∙ length-map x.processes (λ process. written b (body (process_view process)));
        below = λ k y c. within_law d lawful b k y (subst (λ r. Contains r y) (target_row b rows is k) c);
      }

  pub blocking_is : (rows : List (List ℕ)) → rows ≡ map (λ process. written true (body (process_view process))) x.processes → (p y : ℕ) → Contains (row_at rows p) y ↔ HasCell ((machine d).blocking p) y
  blocking_is rows is p y =
      let both = blocking_law d lawful p y in
      let row = target_row true rows is p in
      (λ c. both.0 (subst (λ r. Contains r y) row c), λ k. subst (λ r. Contains r y) (sym row) (both.1 k))

  pub nonblocking_is : (rows : List (List ℕ)) → rows ≡ map (λ process. written false (body (process_view process))) x.processes → (p y : ℕ) → Contains (row_at rows p) y ↔ HasCell ((machine d).nonblocking p) y
  nonblocking_is rows is p y =
      let both = nonblocking_law d lawful p y in
      let row = target_row false rows is p in
      (λ c. both.0 (subst (λ r. Contains r y) row c), λ k. subst (λ r. Contains r y) (sym row) (both.1 k))

  event_row : (rows : List (List (Edge × ℕ))) → rows ≡ map (λ process. events_of (process_view process)) x.processes → (p : ℕ) → row_at rows p ≡ events_of (process_at d p)
  event_row rows is p = ap (λ r. row_at r p) is ∙ names_row events_of x.processes p refl

  -- an edge of a signal of one bit
  abbrev event_test : Edge × ℕ → Bool
  event_test f = nat_lt f.1 (length d.signals) && ((signal_at d f.1).width == 1)

  -- an edge of a list is of a signal of the design
  event_below : (p : ℕ) (e : Edge × ℕ) → Contains (events_of (process_at d p)) e → e.1 < length x.signals
  event_below p e c = ltb-true e.1 (length x.signals) (and_parts (nat_lt e.1 (length x.signals)) _ (all_at c)).0
    where
      all_at : Contains (events_of (process_at d p)) e → event_test e ≡ true
      all_at c =
          ⊎_elim
          (λ h. h)
          (λ h. absurd (both_ways _ (list_all_at event_test (events_of (process_at d p)) c.0 e c.1 (ap event_test c.2 ∙ h)) (lawful.events p)))
          (cases_Bool (event_test e))

  pub event_within : (rows : List (List (Edge × ℕ))) → rows ≡ map (λ process. events_of (process_view process)) x.processes → IsEventTable rows (length x.processes) (length x.signals + length x.memories)
  event_within rows is =
      record {
        count_is = ap length is ∙ length-map x.processes (λ process. events_of (process_view process));
        below = λ k e c. let l = event_below k e (subst (λ r. Contains r e) (event_row rows is k) c) in omega (arith, l);
      }

  -- the same, for lists and numbers that are those of the design
  pub targets_table : (b : Bool) (rows : List (List ℕ)) (ps : List CodeProcess) (n : ℕ) → ps ≡ x.processes → n ≡ length x.signals + length x.memories → rows ≡ map (λ process. written b (body (process_view process))) ps → IsTable rows (length ps) n
  targets_table b rows ps n e m is =
      subst (λ z. IsTable rows (length z) n) (sym e)
      (subst (λ k. IsTable rows (length x.processes) k) (sym m) (target_within b rows (is ∙ ap (map (λ process. written b (body (process_view process)))) e)))

  pub events_table : (rows : List (List (Edge × ℕ))) (ps : List CodeProcess) (n : ℕ) → ps ≡ x.processes → n ≡ length x.signals + length x.memories → rows ≡ map (λ process. events_of (process_view process)) ps → IsEventTable rows (length ps) n
  events_table rows ps n e m is =
      subst (λ z. IsEventTable rows (length z) n) (sym e)
      (subst (λ k. IsEventTable rows (length x.processes) k) (sym m) (event_within rows (is ∙ ap (map (λ process. events_of (process_view process))) e)))

  -- the tables are those of the design
  pub tables_are : (t : WakeTables) → t.things ≡ length x.signals + length x.memories → t.processes ≡ length x.processes → IsLevelTable (map process_view x.processes) t.things t.level → IsEdgeTable Posedge (map process_view x.processes) t.things t.rising → IsEdgeTable Negedge (map process_view x.processes) t.things t.falling → t.blocking ≡ map (λ process. written true (body (process_view process))) x.processes → t.nonblocking ≡ map (λ process. written false (body (process_view process))) x.processes → t.events ≡ map (λ process. events_of (process_view process)) x.processes → AreTablesOf d t
  tables_are t things processes level rising falling blocking nonblocking events =
      record {
        things_are = things;
        processes_are = processes ∙ sym (length-map x.processes process_view);
        level_is = level.has;
        rising_is = rising.has;
        falling_is = falling.has;
        blocking_is = blocking_is t.blocking blocking;
        nonblocking_is = nonblocking_is t.nonblocking nonblocking;
        events_are = event_row t.events events;
      }
