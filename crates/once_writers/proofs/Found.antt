-- The writers that are found are those of the design.
use Rattle.std.proofs.Common.{◌≡◌, ◌∙◌, inl, inr, ⊎_elim, eq-eqb, ℕ, ◌+◌, ◌<◌, ◌≤◌, Bool, true, false, not, cond, ◌==◌, ◌&&◌, List, [], ◌∷◌, length, map, Option, Some, None, refl, sym, ap, subst, arith}
use Rattle.std.specs.List.{All, Contains, filter, list_any}
use Rattle.std.proofs.lemmas.Bool.{and_from, and_parts, both_ways, cases_lt, eqb-true, false≢true, ne_eqb, or_cases, or_left, or_right}
use Rattle.std.proofs.lemmas.List.{get_or-map, get_or_past, length-map, nil_from_length}
use Rattle.std.proofs.lemmas.List.Elements.{Contains-append_cases, Contains-append_left, Contains-append_right}
use Rattle.std.proofs.lemmas.Option.{none-some}
use Rattle.event_machine.specs.Cell.{Cell}
use Rattle.event_machine.specs.Machine.{Edge as MachineEdge, IsLawful, IsTarget, Negedge, Posedge}
use Rattle.design_model.specs.Design.{Design, body, body_at, cell, no_process, process_at}
use Rattle.design_model.specs.Lawful.{IsLawfulDesign}
use Rattle.design_model.specs.Machine.{is_event_signal, is_level, lists_edge, machine}
use Rattle.design_model.specs.Mentions.{blocking_target, nonblocking_target}
use Rattle.design_model.specs.Once.{names_once}
use Rattle.design_model.specs.Shape.{is_body}
use Rattle.design_model.specs.Tree.{Process, assign, clocked, comb}
use Rattle.design_model.specs.View.{design_view, process_view}
use Rattle.design_model.specs.declared.design.Design.{Design as CodeDesign}
use Rattle.design_model.proofs.Assigns.{machine_lawful}
use Rattle.design_targets.specs.Written.{IsShapedProcess, written}
use Rattle.design_targets.proofs.Targets.{blocking_law, nonblocking_law, within_law}
use Rattle.design_wakes.specs.Tables.{IsEdgeTable}
use Rattle.design_wakes.specs.Transpose.{IsTranspose}
use Rattle.design_wakes.proofs.Tables.{names_row}
use Rattle.index_sets.specs.Rows.{row_at}
use Rattle.process_names.specs.Names.{level_names}
use Rattle.process_names.proofs.NamesLaw.{level_is}
use Rattle.wake_laws.specs.OfDesign.{IsOnceWriter}
use Rattle.once_writers.specs.Lists.{first_of, is_clocked, is_listed, marked_targets, once_written}
use Rattle.once_writers.specs.Writers.{AreOnceWriters, flag_at, writer_at}
use Rattle.once_writers.proofs.Picked.{first_in, flagged, has_first, passed, passes}

no_item : (x : ℕ) → Contains [] x → ⊥
no_item x c = omega (arith, c.1)

-- a row with an item is not empty, and one that is not empty has an item
has_items : (xs : List ℕ) (p : ℕ) → Contains xs p → not (length xs == 0) ≡ true
has_items [] p c = absurd (no_item p c)
has_items (x ∷ xs) p c = ap not (ne_eqb (length (x ∷ xs)) 0 (λ e. omega (arith, e)))

some_item : (xs : List ℕ) → not (length xs == 0) ≡ true → (p : ℕ) × Contains xs p
some_item [] h = absurd (false≢true h)
some_item (x ∷ xs) h = (x, (0, omega arith, refl))

-- an edge that is listed is one of the lowest bit
lowest : (p : Process) (e : MachineEdge) (c : Cell) → lists_edge p e c ≡ true → (c ≡ cell c.thing 0) × (lists_edge p e (cell c.thing 0) ≡ true)
lowest (assign i x t counted) e c h = absurd (false≢true h)
lowest (comb i wakes s) e c h = absurd (false≢true h)
lowest (clocked i events s) e c h = let parts = and_parts (c.place == 0) _ h in (ap (λ k. cell c.thing k) (eqb-true c.place 0 parts.0), parts.1)

-- no level wakes the process exactly where its list of names is empty
clocked_is : (p : Process) → is_clocked p ≡ true → (y : ℕ) → is_level p y ≡ false
clocked_is p h y = sym (level_is y p) ∙ ap (list_any (λ z. z == y)) (nil_from_length (level_names p) (eqb-true (length (level_names p)) 0 h))

clocked_from : (p : Process) → ((y : ℕ) → is_level p y ≡ false) → is_clocked p ≡ true
clocked_from p none = go (level_names p) refl
  where
    go : (xs : List ℕ) → level_names p ≡ xs → (length (level_names p) == 0) ≡ true
    go [] e = ap (λ xs. length xs == 0) e
    go (x ∷ xs) e = absurd (both_ways (is_level p x) (none x) (sym (level_is x p) ∙ ap (list_any (λ z. z == x)) e ∙ or_left (x == x) _ (eq-eqb x x refl)))

module _ (x : CodeDesign) (lawful : IsLawfulDesign (design_view x)) (n : ℕ) (things : n ≡ length x.signals + length x.memories) where
  abbrev d : Design
  d = design_view x

  -- each process of the design has its shapes
  pub shaped : All (λ process. IsShapedProcess (process_view process)) x.processes
  shaped k p l = (d, subst (λ q. is_body d (body q) ≡ true) (get_or-map process_view x.processes k p no_process l) (lawful.bodies k))

  m : IsLawful (machine d)
  m = machine_lawful d lawful

  -- a cell of a signal of which an edge is listed is its lowest bit
  one_bit : (y q : ℕ) (c : Cell) → is_event_signal d y ≡ true → c.thing ≡ y → IsTarget (machine d) q c → c ≡ cell y 0
  one_bit y q c event is target =
      let listed = (m.event_signals y).0 event in
      let low = lowest (process_at d listed.0) listed.1 listed.2 listed.4 in
      m.target_has_one_bit listed.0 q listed.1 listed.2 c listed.4 target (is ∙ sym listed.3) ∙ low.0 ∙ ap (λ z. cell z 0) listed.3

  -- what may be written, by its lowest bit
  target_in : (b : Bool) (p y : ℕ) → Contains (written b (body_at d p)) y → is_event_signal d y ≡ true → IsTarget (machine d) p (cell y 0)
  target_in true p y c event = let s = (blocking_law d lawful p y).0 c in subst (IsTarget (machine d) p) (one_bit y p s.0 event s.1 (inl s.2)) (inl s.2)
  target_in false p y c event = let s = (nonblocking_law d lawful p y).0 c in subst (IsTarget (machine d) p) (one_bit y p s.0 event s.1 (inr s.2)) (inr s.2)

  listed_target : (p y : ℕ) → IsTarget (machine d) p (cell y 0) → (b : Bool) × Contains (written b (body_at d p)) y
  listed_target p y (inl h) = (true, (blocking_law d lawful p y).1 (cell y 0, refl, h))
  listed_target p y (inr h) = (false, (nonblocking_law d lawful p y).1 (cell y 0, refl, h))

  -- a process with a target is one of the design
  pub process_within : (p y : ℕ) → IsTarget (machine d) p (cell y 0) → p < length x.processes
  process_within p y t = ⊎_elim (λ l. l) (λ past. absurd (none (get_or_past (map process_view x.processes) p no_process (omega (arith, past, length-map x.processes process_view))))) (cases_lt p (length x.processes))
    where
      none : process_at d p ≡ no_process → ⊥
      none e = ⊎_elim (λ h. false≢true (subst (λ q. blocking_target d (body q) (cell y 0) ≡ true) e h)) (λ h. false≢true (subst (λ q. nonblocking_target d (body q) (cell y 0) ≡ true) e h)) t

  below : (p y : ℕ) → IsTarget (machine d) p (cell y 0) → y < n
  below p y t = let c = listed_target p y t in let l = within_law d lawful c.0 p y c.1 in omega (arith, l, things)

  pub writers_within : (bound : List Bool) (writers : List (Option ℕ)) → AreOnceWriters d (flag_at bound) writers → (y p : ℕ) → writer_at writers y ≡ Some p → p < length x.processes
  writers_within bound writers are y p e = process_within p y ((are y p).0 e).writes

  -- the tables of edges have the event signals
  module _ (rising falling : List (List ℕ)) (rise : IsEdgeTable Posedge (map process_view x.processes) n rising) (fall : IsEdgeTable Negedge (map process_view x.processes) n falling) where
    event_from : (e : MachineEdge) (rows : List (List ℕ)) → IsEdgeTable e (map process_view x.processes) n rows → (y : ℕ) → y < n → not (length (row_at rows y) == 0) ≡ true → is_event_signal d y ≡ true
    event_from e rows table y l h = let c = some_item (row_at rows y) h in (m.event_signals y).1 (c.0, e, cell y 0, refl, (table.has y c.0 l).0 c.1)

    pub listed_event : (y : ℕ) → y < n → is_listed rising falling y ≡ true → is_event_signal d y ≡ true
    listed_event y l h = ⊎_elim (event_from Posedge rising rise y l) (event_from Negedge falling fall y l) (or_cases (not (length (row_at rising y) == 0)) _ h)

    pub event_listed : (y : ℕ) → y < n → is_event_signal d y ≡ true → is_listed rising falling y ≡ true
    event_listed y l h =
        let listed = (m.event_signals y).0 h in
        let low = lowest (process_at d listed.0) listed.1 listed.2 listed.4 in
        go listed.1 listed.0 (subst (λ z. lists_edge (process_at d listed.0) listed.1 (cell z 0) ≡ true) listed.3 low.1)
      where
        go : (e : MachineEdge) (q : ℕ) → lists_edge (process_at d q) e (cell y 0) ≡ true → is_listed rising falling y ≡ true
        go Posedge q k = or_left (not (length (row_at rising y) == 0)) _ (has_items (row_at rising y) q ((rise.has y q l).1 k))
        go Negedge q k = or_right (not (length (row_at rising y) == 0)) _ (has_items (row_at falling y) q ((fall.has y q l).1 k))

    -- the lists have the signals that are written once
    module _ (bound wanted : List Bool) (counted : length wanted ≡ n) (flags : (y : ℕ) → y < n → flag_at wanted y ≡ (flag_at bound y && is_listed rising falling y)) where
      inside : (y : ℕ) → flag_at wanted y ≡ true → y < n
      inside y h = let l = flagged wanted y h in omega (arith, l, counted)

      in_marked : (p y : ℕ) → Contains (marked_targets wanted (process_at d p)) y → (flag_at wanted y ≡ true) × ((b : Bool) × Contains (written b (body_at d p)) y)
      in_marked p y c =
          ⊎_elim
          (λ k. let q = passed (flag_at wanted) y (written true (body_at d p)) k in (q.0, (true, q.1)))
          (λ k. let q = passed (flag_at wanted) y (written false (body_at d p)) k in (q.0, (false, q.1)))
          (Contains-append_cases (filter (flag_at wanted) (written true (body_at d p))) (filter (flag_at wanted) (written false (body_at d p))) y c)

      to_marked : (b : Bool) (p y : ℕ) → flag_at wanted y ≡ true → Contains (written b (body_at d p)) y → Contains (marked_targets wanted (process_at d p)) y
      to_marked true p y h c = Contains-append_left (filter (flag_at wanted) (written true (body_at d p))) (filter (flag_at wanted) (written false (body_at d p))) y (passes (flag_at wanted) y (written true (body_at d p)) h c)
      to_marked false p y h c = Contains-append_right (filter (flag_at wanted) (written true (body_at d p))) (filter (flag_at wanted) (written false (body_at d p))) y (passes (flag_at wanted) y (written false (body_at d p)) h c)

      pub once_from : (p y : ℕ) → Contains (once_written wanted (process_at d p)) y → IsOnceWriter d (flag_at bound) y p
      once_from p y c = go (is_clocked (process_at d p)) refl c
        where
          go : (t : Bool) → is_clocked (process_at d p) ≡ t → Contains (cond t (filter (names_once (body_at d p)) (marked_targets wanted (process_at d p))) []) y → IsOnceWriter d (flag_at bound) y p
          go false e k = absurd (no_item y k)
          go true e k =
              let once = passed (names_once (body_at d p)) y (marked_targets wanted (process_at d p)) k in
              let marked = in_marked p y once.1 in
              let l = inside y marked.0 in
              let parts = and_parts (flag_at bound y) _ (sym (flags y l) ∙ marked.0) in
              let event = listed_event y l parts.1 in
              record { is_bound = parts.0; is_event = event; clocked = clocked_is (process_at d p) e; writes = target_in marked.1.0 p y marked.1.1 event; once = once.0 }

      pub once_to : (p y : ℕ) → IsOnceWriter d (flag_at bound) y p → Contains (once_written wanted (process_at d p)) y
      once_to p y o =
          let l = below p y o.writes in
          let wants : flag_at wanted y ≡ true = flags y l ∙ and_from (flag_at bound y) _ o.is_bound (event_listed y l o.is_event) in
          let c = listed_target p y o.writes in
          subst (λ t. Contains (cond t (filter (names_once (body_at d p)) (marked_targets wanted (process_at d p))) []) y) (sym (clocked_from (process_at d p) o.clocked))
          (passes (names_once (body_at d p)) y (marked_targets wanted (process_at d p)) o.once (to_marked c.0 p y wants c.1))

      -- the first of each row of the lists turned round is the writer
      pub writers_are : (lists rows : List (List ℕ)) → lists ≡ map (λ process. once_written wanted (process_view process)) x.processes → IsTranspose lists n rows → AreOnceWriters d (flag_at bound) (map first_of rows)
      writers_are lists rows is turned y p = (found, kept)
        where
          row : (q : ℕ) → row_at lists q ≡ once_written wanted (process_at d q)
          row q = ap (λ ls. row_at ls q) is ∙ names_row (once_written wanted) x.processes q refl

          at : y < n → writer_at (map first_of rows) y ≡ first_of (row_at rows y)
          at l = get_or-map first_of rows y [] None (omega (arith, l, turned.count_is))

          in_row : (q : ℕ) → y < n → Contains (row_at rows y) q → IsOnceWriter d (flag_at bound) y q
          in_row q l c = once_from q y (subst (λ ls. Contains ls y) (row q) ((turned.has y q l).0 c))

          past : n ≤ y → writer_at (map first_of rows) y ≡ None
          past h = get_or_past (map first_of rows) y None (omega (arith, h, turned.count_is, length-map rows first_of))

          found : writer_at (map first_of rows) y ≡ Some p → IsOnceWriter d (flag_at bound) y p
          found e = ⊎_elim (λ l. in_row p l (first_in (row_at rows y) p (sym (at l) ∙ e))) (λ h. absurd (none-some p (sym (past h) ∙ e))) (cases_lt y n)

          kept : IsOnceWriter d (flag_at bound) y p → writer_at (map first_of rows) y ≡ Some p
          kept o =
              let l = below p y o.writes in
              let first = has_first (row_at rows y) p ((turned.has y p l).1 (subst (λ ls. Contains ls y) (sym (row p)) (once_to p y o))) in
              let other = in_row first.0 l (first_in (row_at rows y) first.0 first.1) in
              at l ∙ first.1 ∙ ap Some (m.one_writer first.0 p (cell y 0) other.writes o.writes)
