-- The event signals of a design's machine are those of which some Clocked lists an edge.
use Rattle.std.proofs.Common.{◌≡◌, ⊎_elim, ℕ, zero, suc, Bool, true, false, ◌&&◌, ◌==◌, List, [], ◌∷◌, refl, sym, subst, ◌∙◌, ◌↔◌}
use Rattle.std.proofs.lemmas.Bool.{and_from, and_parts, or_cases, or_left, or_right, false≢true}
use Rattle.std.specs.List.{list_any}
use Rattle.std.specs.Prelude.{slice_index_or}
use Rattle.event_machine.specs.Machine.{Edge as MachineEdge}
use Rattle.event_machine.specs.Cell.{Cell}
use Rattle.event_machine.specs.Machine.{Negedge, Posedge}
use Rattle.four_state.specs.declared.edge.Edge.{Edge}
use Rattle.four_state.specs.declared.edge.Edge.TheVariants.{Neg, Pos}
use Rattle.design_model.specs.Tree.{Process, assign, clocked, comb}
use Rattle.design_model.specs.Design.{Design, cell, no_process, process_at}
use Rattle.design_model.specs.Machine.{events_of, is_event_signal, lists_edge, machine, same_edge}

-- some element of a list passes a test exactly where one by its index does
list_any-index : {A : Type 0} (test : A → Bool) (none : A) (xs : List A) → list_any test xs ≡ true → (k : ℕ) × (test (slice_index_or xs k none) ≡ true)
list_any-index test none [] some = absurd (false≢true some)
list_any-index test none (x ∷ xs) some =
    ⊎_elim
    (λ here. (0, here))
    (λ later. let found = list_any-index test none xs later in (suc found.0, found.1))
    (or_cases (test x) (list_any test xs) some)

index-list_any : {A : Type 0} (test : A → Bool) (none : A) (xs : List A) (k : ℕ) → test none ≡ false → test (slice_index_or xs k none) ≡ true → list_any test xs ≡ true
index-list_any test none [] k fails passes = absurd (false≢true (sym fails ∙ passes))
index-list_any test none (x ∷ xs) zero fails passes = or_left (test x) (list_any test xs) passes
index-list_any test none (x ∷ xs) (suc k) fails passes = or_right (test x) (list_any test xs) (index-list_any test none xs k fails passes)

abbrev edge_of : Edge → MachineEdge
edge_of Pos = Posedge
edge_of Neg = Negedge

same_edge_of : (e : Edge) → same_edge e (edge_of e) ≡ true
same_edge_of Pos = refl
same_edge_of Neg = refl

-- an event signal of a list is listed with an edge
listed_edge : (events : List (Edge × ℕ)) (x : ℕ) → list_any (λ f. f.1 == x) events ≡ true → (e : MachineEdge) × (list_any (λ f. same_edge f.0 e && (f.1 == x)) events ≡ true)
listed_edge [] x some = absurd (false≢true some)
listed_edge (f ∷ fs) x some =
    ⊎_elim
    (λ here. (edge_of f.0, or_left (same_edge f.0 (edge_of f.0) && (f.1 == x)) _ (and_from (same_edge f.0 (edge_of f.0)) (f.1 == x) (same_edge_of f.0) here)))
    (λ later. let found = listed_edge fs x later in (found.0, or_right (same_edge f.0 found.0 && (f.1 == x)) _ found.1))
    (or_cases (f.1 == x) (list_any (λ f. f.1 == x) fs) some)

edge_listed : (events : List (Edge × ℕ)) (x : ℕ) (e : MachineEdge) → list_any (λ f. same_edge f.0 e && (f.1 == x)) events ≡ true → list_any (λ f. f.1 == x) events ≡ true
edge_listed [] x e some = absurd (false≢true some)
edge_listed (f ∷ fs) x e some =
    ⊎_elim
    (λ here. or_left (f.1 == x) _ (and_parts (same_edge f.0 e) (f.1 == x) here).1)
    (λ later. or_right (f.1 == x) _ (edge_listed fs x e later))
    (or_cases (same_edge f.0 e && (f.1 == x)) (list_any (λ f. same_edge f.0 e && (f.1 == x)) fs) some)

process_lists : (p : Process) (x : ℕ) → list_any (λ f. f.1 == x) (events_of p) ≡ true → (e : MachineEdge) × (lists_edge p e (cell x 0) ≡ true)
process_lists (assign i y t counted) x some = absurd (false≢true some)
process_lists (comb i wakes s) x some = absurd (false≢true some)
process_lists (clocked i events s) x some = listed_edge events x some

process_listed : (p : Process) (e : MachineEdge) (c : Cell) → lists_edge p e c ≡ true → list_any (λ f. f.1 == c.thing) (events_of p) ≡ true
process_listed (assign i y t counted) e c lists = absurd (false≢true lists)
process_listed (comb i wakes s) e c lists = absurd (false≢true lists)
process_listed (clocked i events s) e c lists = edge_listed events c.thing e (and_parts (c.place == 0) _ lists).1

pub event_signals : (d : Design) (x : ℕ) → ((machine d).is_event_signal x ≡ true) ↔ ((p : ℕ) × (e : MachineEdge) × (c : Cell) × (c.thing ≡ x) × ((machine d).edge p e c ≡ true))
event_signals d x = (listed, is_listed)
  where
    listed : is_event_signal d x ≡ true → (p : ℕ) × (e : MachineEdge) × (c : Cell) × (c.thing ≡ x) × ((machine d).edge p e c ≡ true)
    listed some =
        let at = list_any-index (λ q. list_any (λ f. f.1 == x) (events_of q)) no_process d.processes some in
        let by = process_lists (process_at d at.0) x at.1 in
        (at.0, by.0, cell x 0, refl, by.1)

    is_listed : ((p : ℕ) × (e : MachineEdge) × (c : Cell) × (c.thing ≡ x) × ((machine d).edge p e c ≡ true)) → is_event_signal d x ≡ true
    is_listed (p, e, c, at, lists) =
        index-list_any (λ q. list_any (λ f. f.1 == x) (events_of q)) no_process d.processes p refl
        (subst (λ y. list_any (λ f. f.1 == y) (events_of (process_at d p)) ≡ true) at (process_listed (process_at d p) e c lists))
