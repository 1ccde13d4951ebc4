-- From the lists of processes to tables.
use Rattle.std.proofs.Common.{◌≡◌, ◌↔◌, ◌∙◌, ℕ, ◌+◌, ◌<◌, Bool, true, false, cond, ◌==◌, ◌&&◌, ◌||◌, List, [], ◌∷◌, ◌++◌, length, get_or, map, take, refl, sym, ap, subst}
use Rattle.std.specs.List.{Contains, list_any}
use Rattle.std.proofs.Math.ListN.{get_or-map}
use Rattle.std.proofs.lemmas.List.{map-append, take_more}
use Rattle.std.proofs.lemmas.Simd.{map-map}
use Rattle.four_state.specs.declared.edge.Edge.{Edge}
use Rattle.design_model.specs.event_machine.Machine.{Edge as MachineEdge}
use Rattle.design_model.specs.Design.{cell, no_process}
use Rattle.design_model.specs.Machine.{is_level, lists_edge, same_edge}
use Rattle.design_model.specs.Tree.{Process, assign, clocked, comb}
use Rattle.design_model.specs.View.{process_view}
use Rattle.design_model.specs.declared.tree.Process.{Process as CodeProcess}
use Rattle.early_sets.proofs.Membership.{is_in_from, is_in_gives}
use Rattle.index_sets.specs.Rows.{row_at}
use Rattle.process_names.specs.Names.{level_names}
use Rattle.process_names.proofs.NamesLaw.{level_is}
use Rattle.design_wakes.specs.Tables.{IsEdgeTable, IsLevelTable, edge_names, edges_named}
use Rattle.design_wakes.specs.Transpose.{IsTranspose}

-- one list more
pub lists_grow : {V W T : Type 0} (f : V → List T) (g : W → List T) (lists : List V) (ws : List W) (i : ℕ) (found : V) (w : W) → i < length ws → w ≡ get_or ws i w → f found ≡ g w → map f lists ≡ map g (take i ws) → map f (lists ++ found ∷ []) ≡ map g (take (i + 1) ws)
lists_grow f g lists ws i found w l e is so =
    map-append f lists (found ∷ []) ∙ ap (λ ls. ls ++ f found ∷ []) so ∙ ap (λ r. map g (take i ws) ++ r ∷ []) is ∙ sym (map-append g (take i ws) (w ∷ [])) ∙ ap (λ y. map g (take i ws ++ y ∷ [])) e ∙ ap (map g) (sym (take_more ws i w l))

-- the names of the process with a number
pub names_row : {T : Type 0} (names : Process → List T) (ps : List CodeProcess) (p : ℕ) → names no_process ≡ [] → row_at (map (λ q. names (process_view q)) ps) p ≡ names (get_or (map process_view ps) p no_process)
names_row names ps p none =
    ap (λ ls. get_or ls p []) (sym (map-map names process_view ps)) ∙ ap (λ d. get_or (map names (map process_view ps)) p d) (sym none) ∙ get_or-map names (map process_view ps) p no_process

-- the names turned round are those of a test
table_of : (names : Process → List ℕ) (test : Process → ℕ → Bool) (ps : List CodeProcess) (count : ℕ) (rows : List (List ℕ)) → names no_process ≡ [] → ((p : Process) (x : ℕ) → list_any (λ y. y == x) (names p) ≡ test p x) → IsTranspose (map (λ q. names (process_view q)) ps) count rows → (x p : ℕ) → x < count → Contains (row_at rows x) p ↔ (test (get_or (map process_view ps) p no_process) x ≡ true)
table_of names test ps count rows none is t x p l =
    let process = get_or (map process_view ps) p no_process in
    let row : row_at (map (λ q. names (process_view q)) ps) p ≡ names process = names_row names ps p none in
    let both = t.has x p l in (
      λ c. let m : Contains (names process) x = subst (λ r. Contains r x) row (both.0 c) in sym (is process x) ∙ is_in_from (names process) x m.0 m.1 m.2,
      λ e. both.1 (subst (λ r. Contains r x) (sym row) (is_in_gives (names process) x (is process x ∙ e))),
    )

pub level_table : (ps : List CodeProcess) (count : ℕ) (rows : List (List ℕ)) → IsTranspose (map (λ q. level_names (process_view q)) ps) count rows → IsLevelTable (map process_view ps) count rows
level_table ps count rows t = record { count_is = t.count_is; has = table_of level_names is_level ps count rows refl (λ p x. level_is x p) t }

-- a signal whose edge is listed
edge_step : (b : Bool) (s x : ℕ) (names : List ℕ) (rest : Bool) → list_any (λ y. y == x) names ≡ rest → list_any (λ y. y == x) (cond b (s ∷ names) names) ≡ ((b && (s == x)) || rest)
edge_step true s x names rest h = ap (λ c. (s == x) || c) h
edge_step false s x names rest h = h

edges_are : (e : MachineEdge) (x : ℕ) (fs : List (Edge × ℕ)) → list_any (λ y. y == x) (edges_named e fs) ≡ list_any (λ f. same_edge f.0 e && (f.1 == x)) fs
edges_are e x [] = refl
edges_are e x (f ∷ fs) = edge_step (same_edge f.0 e) f.1 x (edges_named e fs) _ (edges_are e x fs)

edge_is : (e : MachineEdge) (p : Process) (x : ℕ) → list_any (λ y. y == x) (edge_names e p) ≡ lists_edge p e (cell x 0)
edge_is e (assign i y t counted) x = refl
edge_is e (comb i wakes s) x = refl
edge_is e (clocked i events s) x = edges_are e x events

pub edge_table : (e : MachineEdge) (ps : List CodeProcess) (count : ℕ) (rows : List (List ℕ)) → IsTranspose (map (λ q. edge_names e (process_view q)) ps) count rows → IsEdgeTable e (map process_view ps) count rows
edge_table e ps count rows t = record { count_is = t.count_is; has = table_of (edge_names e) (λ p x. lists_edge p e (cell x 0)) ps count rows refl (edge_is e) t }
