-- The woken ones of the Clocked processes are all that can wake.
use Rattle.std.proofs.Common.{◌≡◌, inl, inr, ⊎_elim, ◌∙◌, ◌==◌, ℕ, zero, suc, ◌<◌, Bool, true, List, [], ◌∷◌, length, Some, refl, sym, ap, subst, arith, eq-eqb}
use Rattle.std.specs.List.{Contains, filter}
use Rattle.std.proofs.lemmas.Bool.{and_parts, cases_lt, or_left, or_right}
use Rattle.std.proofs.lemmas.List.{get_or_past}
use Rattle.event_machine.specs.Machine.{Negedge, Posedge}
use Rattle.four_state.specs.declared.edge.Edge.{Edge}
use Rattle.four_state.specs.declared.edge.Edge.TheVariants.{Neg, Pos}
use Rattle.design_model.specs.Design.{Design, In, IsClocked, no_process, process_at}
use Rattle.design_model.specs.Lawful.{IsLawfulDesign}
use Rattle.design_model.specs.Machine.{events_of}
use Rattle.design_model.specs.Tree.{Process, assign, clocked, comb}
use Rattle.wake_list.specs.Members.{has}
use Rattle.clocked_marks.specs.chosen_runs.chosen_early.early_sets.Edges.{may_be}
use Rattle.clocked_marks.specs.chosen_runs.chosen_early.early_sets.Has.{is_in}
use Rattle.clocked_marks.specs.chosen_runs.chosen_early.early_sets.Reached.{MayWakeBy}
use Rattle.clocked_marks.specs.chosen_runs.chosen_early.early_sets.Rounds.{HasMoves}
use Rattle.clocked_marks.specs.chosen_runs.chosen_early.early_sets.WakeState.{WakeState, can_wake_by, edges_at, first_signal, waker_of}
use Rattle.replay_sets.proofs.wake_laws.EdgeLists.{first_gives, listed_of}
use Rattle.replay_sets.proofs.wake_laws.early_sets.Membership.{is_in_gives}
use Rattle.replay_sets.specs.replay_model.Tables.{AreTables, Tables}
use Rattle.replay_sets.specs.wake_laws.OfDesign.{AreTablesOf}
use Rattle.step_clocked.specs.Laws.{ListedLaw}
use Rattle.step_clocked.proofs.Members.{filter_in}
use Rattle.step_clocked.proofs.Sets.{waker_below}

-- a number of the list passes the test of it
has_contains : (p : ℕ) (xs : List ℕ) → Contains xs p → has p xs ≡ true
has_contains p [] (k, l, e) = absurd (omega (arith, l))
has_contains p (x ∷ xs) (zero, l, e) = or_left (p == x) (has p xs) (eq-eqb p x (sym e))
has_contains p (x ∷ xs) (suc k, l, e) = or_right (p == x) (has p xs) (has_contains p xs (k, omega (arith, l), e))

-- only a Clocked has a list of edges
edged : (q : Process) (e : Edge × ℕ) → In e (events_of q) → IsClocked q
edged (assign i x t counted) e h = absurd h
edged (comb i wakes s) e h = absurd h
edged (clocked i events s) e h = tt

module _ (d : Design) (bound : ℕ → Bool) (tables : Tables) (w : WakeState) (lawful : IsLawfulDesign d) (tabled : AreTables d bound tables) (of : AreTablesOf d w.tables) (found : HasMoves w) where
  clocked_below : (p : ℕ) → IsClocked (process_at d p) → p < length d.processes
  clocked_below p is = ⊎_elim (λ less. less) (λ most. absurd (subst IsClocked (get_or_past d.processes p no_process most) is)) (cases_lt p (length d.processes))

  module _ (p s : ℕ) (h : waker_of w p ≡ Some s) where
    -- by this edge of its list
    by : (e : Edge × ℕ) × In e (events_of (process_at d p)) × (can_wake_by w e ≡ true) × (e.1 ≡ s)
    by = first_gives (can_wake_by w) (events_of (process_at d p)) s (ap (first_signal (can_wake_by w)) (sym (of.events_are p)) ∙ h)

    inside : by.0.1 < w.tables.things
    inside = let low = waker_below d lawful w of p s h in let all = of.things_are in let same = by.3 in omega (arith, low, all, same)

    wakes : (e : Edge) (x : ℕ) → In (e, x) (events_of (process_at d p)) → x < w.tables.things → may_be (edges_at w x) e ≡ true → MayWakeBy w.tables (edges_at w) x p
    wakes Pos x i l may = inr (inl (may, (of.rising_is x p l).1 (listed_of (process_at d p) (Pos, x) Posedge i refl)))
    wakes Neg x i l may = inr (inr (may, (of.falling_is x p l).1 (listed_of (process_at d p) (Neg, x) Negedge i refl)))

    woken : Contains w.woken p
    woken =
        let parts = and_parts (is_in w.moves by.0.1) (may_be (edges_at w by.0.1) by.0.0) by.2 in
        (found.woken p).1 (by.0.1, (found.moves by.0.1).0 (is_in_gives w.moves by.0.1 parts.0), wakes by.0.0 by.0.1 by.1 inside parts.1)

    pub listed : In p (filter (λ q. has q w.woken) tables.clocked)
    listed =
        let is = edged (process_at d p) by.0 by.1 in
        filter_in (λ q. has q w.woken) p tables.clocked ((tabled.clocked p).1 (clocked_below p is, is)) (has_contains p w.woken woken)

pub all_listed : ListedLaw
all_listed d bound tables w lawful tabled of found p s h = listed d bound tables w lawful tabled of found p s h
