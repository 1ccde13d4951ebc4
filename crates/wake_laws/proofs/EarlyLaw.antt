-- What is early for a clean block, by tables, is the set of the definitions.
use Rattle.std.proofs.Common.{◌≡◌, inl, inr, ⊎_elim, ◌∙◌, ℕ, ◌<◌, Bool, true, false, cond, List, [], ◌∷◌, Some, refl, sym, ap, subst, arith}
use Rattle.std.specs.List.{Contains}
use Rattle.std.proofs.lemmas.Bool.{cases_Bool, false≢true, ne_eqb, not_from_false, not-true, or_cases, or_left, or_right, both_ways, eq-eqb}
use Rattle.event_machine.specs.Early.{of_blocking, of_input, of_nonblocking, of_trigger}
use Rattle.event_machine.specs.Habit.{is_free_input}
use Rattle.event_machine.proofs.Rounds.{single_told}
use Rattle.event_machine.specs.Machine.{Edge as MachineEdge, Negedge, Posedge}
use Rattle.design_model.specs.Design.{Design, cell, process_at}
use Rattle.design_model.specs.Lawful.{IsLawfulDesign}
use Rattle.design_model.specs.Machine.{machine}
use Rattle.design_model.specs.Shows.{BoundDump}
use Rattle.design_model.specs.Early.{IsEarlyAt}
use Rattle.design_model.specs.MayMove.{IsCleanAt, told_at}
use Rattle.design_model.proofs.Assigns.{machine_lawful}
use Rattle.early_sets.specs.index_sets.Rows.{row_at}
use Rattle.wake_laws.specs.OfDesign.{AreTablesOf}
use Rattle.early_sets.specs.declared.habit.Habit.{Habit}
use Rattle.early_sets.specs.declared.habit.Habit.TheVariants.{Free, Late}
use Rattle.early_sets.specs.Early.{IsEarlyBy, early_rule, habit_for, has_items, is_event_signal, is_free}
use Rattle.wake_laws.specs.Laws.{AreNotes, AreSingle, EarlyLaw, habit_of}
use Rattle.early_sets.specs.Reached.{IsTargetBy, MayWakeBy, Reached, is_apart, of_seed, of_target}
use Rattle.early_sets.specs.WakeState.{WakeState, edges_at, is_told, nothing_left}
use Rattle.wake_laws.proofs.MovesLaw.{edge_place, input_told, lowest, moves_by, reached_below, told_input, wake_by, wake_of}

has_items_from : (xs : List ℕ) (x : ℕ) → Contains xs x → has_items xs ≡ true
has_items_from [] x c = absurd (omega (arith, c.1))
has_items_from (y ∷ xs) x c = refl

has_items_gives : (xs : List ℕ) → has_items xs ≡ true → (x : ℕ) × Contains xs x
has_items_gives [] h = absurd (false≢true h)
has_items_gives (y ∷ xs) h = (y, (0, omega arith, refl))

-- a number is not that one
pub apart_from : (a b : ℕ) → (b ≡ a → ⊥) → is_apart (Some a) b ≡ true
apart_from a b ne = not_from_false _ (ne_eqb b a ne)

pub apart_gives : (a b : ℕ) → is_apart (Some a) b ≡ true → b ≡ a → ⊥
apart_gives a b h e = both_ways _ (not-true _ h) (eq-eqb b a e)

module _ (d : Design) (lawful : IsLawfulDesign d) (dump : BoundDump) (t : ℕ) (w : WakeState) (tables : AreTablesOf d w.tables) (notes : AreNotes d dump t w) (single : AreSingle d dump t w) where
  abbrev R : ℕ → Type 0
  R x = Reached w.tables (edges_at w) nothing_left (Contains w.noted) x

  -- an event signal by the tables is one of the design
  event_of : (x : ℕ) → x < w.tables.things → is_event_signal w.tables x ≡ true → (machine d).is_event_signal x ≡ true
  event_of x l h =
      ((machine_lawful d lawful).event_signals x).1
      (⊎_elim
      (λ r. let p = has_items_gives (row_at w.tables.rising x) r in (p.0, Posedge, cell x 0, refl, (tables.rising_is x p.0 l).0 p.1))
      (λ f. let p = has_items_gives (row_at w.tables.falling x) f in (p.0, Negedge, cell x 0, refl, (tables.falling_is x p.0 l).0 p.1))
      (or_cases (has_items (row_at w.tables.rising x)) _ h))

  by_edge : (x p : ℕ) → x < w.tables.things → (e : MachineEdge) → (machine d).edge p e (cell x 0) ≡ true → is_event_signal w.tables x ≡ true
  by_edge x p l Posedge h = or_left (has_items (row_at w.tables.rising x)) _ (has_items_from (row_at w.tables.rising x) p ((tables.rising_is x p l).1 h))
  by_edge x p l Negedge h = or_right (has_items (row_at w.tables.rising x)) _ (has_items_from (row_at w.tables.falling x) p ((tables.falling_is x p l).1 h))

  event_by : (x : ℕ) → x < w.tables.things → (machine d).is_event_signal x ≡ true → is_event_signal w.tables x ≡ true
  event_by x l h =
      let k = ((machine_lawful d lawful).event_signals x).0 h in
      let low : k.2 ≡ cell x 0 = lowest k.2 x k.3 (edge_place (process_at d k.0) k.1 k.2 k.4) in
      by_edge x k.0 l k.1 (subst (λ c. (machine d).edge k.0 k.1 c ≡ true) low k.4)

  free_of : (h : Habit) (x : ℕ) → x < w.tables.things → is_free w.tables h x ≡ true → is_free_input (machine d) (habit_of h) x ≡ true
  free_of Free x l f = refl
  free_of Late x l f = event_of x l f

  free_by : (h : Habit) (x : ℕ) → x < w.tables.things → is_free_input (machine d) (habit_of h) x ≡ true → is_free w.tables h x ≡ true
  free_by Free x l f = refl
  free_by Late x l f = event_by x l f

  noted_below : (x : ℕ) → Contains w.noted x → x < w.tables.things
  noted_below x c = reached_below d lawful dump t w tables notes x (of_seed x c)

  -- with a clean block and its trigger
  module _ (h : Habit) (b s : ℕ) (clean : IsCleanAt d dump t b (cell s 0)) where
    abbrev E : ℕ → Type 0
    E x = IsEarlyBy w h b s x

    trigger_moves : R s
    trigger_moves = moves_by d lawful dump t w tables notes single s clean.can_wake.1

    -- an input that is a trigger is one whose changes are reported, so that the habit counts
    trigger_told : (machine d).is_input (cell s 0) ≡ true → is_told w s ≡ true
    trigger_told input = input_told d lawful dump t w tables notes s (reached_below d lawful dump t w tables notes s trigger_moves) (input, (single_told (machine d) (told_at dump t) (dump.round t) (cell s 0) clean.is_single).0)

    habit_is : (b : Bool) → is_told w s ≡ b → habit_for w h s ≡ cond b h Free
    habit_is b e = ap (λ c. cond c h Free) e

    free_for : (x : ℕ) → x < w.tables.things → ((machine d).is_input (cell s 0) ≡ true → is_free_input (machine d) (habit_of h) x ≡ true) → is_free w.tables (habit_for w h s) x ≡ true
    free_for x l free =
        ⊎_elim
        (λ told. subst (λ k. is_free w.tables k x ≡ true) (sym (habit_is true told)) (free_by h x l (free (told_input d lawful dump t w tables notes s (reached_below d lawful dump t w tables notes s trigger_moves) told).0)))
        (λ other. subst (λ k. is_free w.tables k x ≡ true) (sym (habit_is false other)) refl)
        (cases_Bool (is_told w s))

    -- what is early moves
    target_moves : (x p y : ℕ) → R x → MayWakeBy w.tables (edges_at w) x p → IsTargetBy w.tables (early_rule b s) p y → R y
    target_moves x p y m wakes target = of_target x p y m wakes (⊎_elim (λ n. inl n) (λ k. inr (refl, k.1)) target.0, refl)

    early_moves : (x : ℕ) → E x → R x
    early_moves x (of_seed _ (inl c, apart)) = of_seed x c.0
    early_moves x (of_seed _ (inr k, apart)) = of_target s k.0 x trigger_moves k.1 (inr (refl, k.3), refl)
    early_moves y (of_target x p _ m wakes target) = target_moves x p y (early_moves x m) wakes target

    to_early : (x y : ℕ) → x ≡ y → IsEarlyAt d (habit_of h) dump t b (cell s 0) x → IsEarlyAt d (habit_of h) dump t b (cell s 0) y
    to_early x y e = subst (IsEarlyAt d (habit_of h) dump t b (cell s 0)) e

    apart_at : (x y : ℕ) → y ≡ x → is_apart (Some s) x ≡ true → y ≡ s → ⊥
    apart_at x y e apart same = apart_gives s x apart (sym e ∙ same)

    early_of : (x : ℕ) → E x → IsEarlyAt d (habit_of h) dump t b (cell s 0) x
    early_of x (of_seed _ (inl c, apart)) =
        let k = (notes.noted_are x).0 c.0 in
        let free : (machine d).is_input (cell s 0) ≡ true → is_free_input (machine d) (habit_of h) x ≡ true = λ i. free_of h x (noted_below x c.0) (subst (λ y. is_free w.tables y x ≡ true) (habit_is true (trigger_told i)) c.1) in
        to_early k.0.thing x k.1 (of_input k.0 k.2 (λ i. subst (λ y. is_free_input (machine d) (habit_of h) y ≡ true) (sym k.1) (free i)) (apart_at x k.0.thing k.1 apart))
    early_of x (of_seed _ (inr q, apart)) =
        let k = (tables.blocking_is q.0 x).0 q.3 in
        to_early k.0.thing x k.1 (of_trigger q.0 k.0 (wake_of d lawful dump t w tables notes single s q.0 trigger_moves q.1) (apart_gives b q.0 q.2) k.2 (apart_at x k.0.thing k.1 apart))
    early_of y (of_target x p _ m wakes (inl n, apart)) =
        let k = (tables.nonblocking_is p y).0 n in
        to_early k.0.thing y k.1 (of_nonblocking x p k.0 (early_of x m) (wake_of d lawful dump t w tables notes single x p (early_moves x m) wakes) k.2 (apart_at y k.0.thing k.1 apart))
    early_of y (of_target x p _ m wakes (inr q, apart)) =
        let k = (tables.blocking_is p y).0 q.1 in
        to_early k.0.thing y k.1 (of_blocking x p k.0 (early_of x m) (wake_of d lawful dump t w tables notes single x p (early_moves x m) wakes) (apart_gives b p q.0) k.2 (apart_at y k.0.thing k.1 apart))

    early_by : (x : ℕ) → IsEarlyAt d (habit_of h) dump t b (cell s 0) x → E x
    early_by _ (of_input c moving free apart) =
        let noted = (notes.noted_are c.thing).1 (c, refl, moving) in
        of_seed c.thing (inl (noted, free_for c.thing (noted_below c.thing noted) free), apart_from s c.thing apart)
    early_by _ (of_trigger p c wakes other target apart) =
        of_seed c.thing (inr (p, wake_by d lawful dump t w tables notes single s p trigger_moves wakes, apart_from b p other, (tables.blocking_is p c.thing).1 (c, refl, target)), apart_from s c.thing apart)
    early_by _ (of_blocking x p c m wakes other target apart) =
        let e = early_by x m in
        of_target x p c.thing e (wake_by d lawful dump t w tables notes single x p (early_moves x e) wakes) (inr (apart_from b p other, (tables.blocking_is p c.thing).1 (c, refl, target)), apart_from s c.thing apart)
    early_by _ (of_nonblocking x p c m wakes target apart) =
        let e = early_by x m in
        of_target x p c.thing e (wake_by d lawful dump t w tables notes single x p (early_moves x e) wakes) (inl ((tables.nonblocking_is p c.thing).1 (c, refl, target)), apart_from s c.thing apart)

pub early_law : (d : Design) → IsLawfulDesign d → EarlyLaw d
early_law d lawful dump t w tables notes single h p s clean x = (early_of d lawful dump t w tables notes single h p s clean x, early_by d lawful dump t w tables notes single h p s clean x)
