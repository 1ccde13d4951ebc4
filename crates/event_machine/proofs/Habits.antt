-- The habit event by event, and in the words of its definition.
use Rattle.std.specs.Prelude.{⊤}
use Rattle.std.proofs.Common.{◌≡◌, ◌⊎◌, inl, inr, ⊎_elim, true, false, true≢false, List, [], ◌∷◌, ◌++◌, refl, sym, ap, subst, ◌∙◌, append_assoc}
use Rattle.std.proofs.lemmas.Bool.{cases_Bool}
use Rattle.event_machine.specs.Cell.{Cell, Write, WritesCell}
use Rattle.event_machine.specs.Machine.{Machine}
use Rattle.event_machine.specs.State.{IsQuiet, State}
use Rattle.event_machine.specs.Event.{Activate, Apply, Evaluate, Event, Move, end_state, state_after}
use Rattle.event_machine.specs.Habit.{Habit, IsByHabit, NoWakingMoves, is_free_input}
use Rattle.event_machine.specs.Laws.{FreeHabitLaw, LateHabitLaw, NoWakingMoveLaw}
use Rattle.event_machine.proofs.Acts.{end_state-append}

-- the event is no Move, or one of free inputs alone
abbrev pub MovesFreeInputs : {V : Type 0} → Machine V → Habit → Event V → Type 0
MovesFreeInputs m h (Move ws) = (c : Cell) → WritesCell ws c → is_free_input m h c.thing ≡ true
MovesFreeInputs m h (Evaluate p) = ⊤
MovesFreeInputs m h Activate = ⊤
MovesFreeInputs m h Apply = ⊤

-- the habit event by event: free inputs alone move until a quiet moment after which no waking Move comes
pub data WaitsForQuiet {V : Type 0} (m : Machine V) (h : Habit) : State V → List (Event V) → Type 0 where
  ended : {s : State V} → WaitsForQuiet m h s []
  quiet : {s : State V} {es : List (Event V)} → IsQuiet s → NoWakingMoves m s es → WaitsForQuiet m h s es
  waits : {s : State V} {e : Event V} {es : List (Event V)} → MovesFreeInputs m h e → WaitsForQuiet m h (state_after m s e) es → WaitsForQuiet m h s (e ∷ es)

module _ {V : Type 0} (m : Machine V) where
  pub free_habit_law : FreeHabitLaw m
  free_habit_law s es before ws after is c has held = absurd (true≢false held)

  pub no_waking_move_law : NoWakingMoveLaw m
  no_waking_move_law h s es calm none before ws after is c has held =
      record { until = []; since = before; splits = refl; quiet = calm; no_waking_moves = subst (NoWakingMoves m s) is none }

  no_waking_moves_later : (since later : List (Event V)) (s : State V) → NoWakingMoves m s (since ++ later) → NoWakingMoves m (end_state m s since) later
  no_waking_moves_later [] later s none = none
  no_waking_moves_later (e ∷ since) later s none = no_waking_moves_later since later (state_after m s e) none.1

  pub late_habit_law : LateHabitLaw m
  late_habit_law s before ws after habit c has held =
      let q = habit before ws after refl c has held in
      subst
      (λ (x : State V). NoWakingMoves m x (Move ws ∷ after))
      (sym (end_state-append m q.until q.since s) ∙ ap (end_state m s) (sym q.splits))
      (no_waking_moves_later q.since (Move ws ∷ after) (end_state m s q.until) q.no_waking_moves)

  module _ (h : Habit) where
    AllFree : List (Event V) → Type 0
    AllFree [] = ⊤
    AllFree (e ∷ es) = MovesFreeInputs m h e × AllFree es

    -- some write is to an input that is not free
    Held : List (Write V) → Type 0
    Held ws = (c : Cell) × WritesCell ws c × (is_free_input m h c.thing ≡ false)

    held_or_free : (ws : List (Write V)) → Held ws ⊎ ((c : Cell) → WritesCell ws c → is_free_input m h c.thing ≡ true)
    unfolding Held
    held_or_free [] = inr (λ c none. absurd none)
    held_or_free (w ∷ ws) = go (cases_Bool (is_free_input m h w.cell.thing)) (held_or_free ws)
      where
        go : (is_free_input m h w.cell.thing ≡ true) ⊎ (is_free_input m h w.cell.thing ≡ false) → Held ws ⊎ ((c : Cell) → WritesCell ws c → is_free_input m h c.thing ≡ true) → Held (w ∷ ws) ⊎ ((c : Cell) → WritesCell (w ∷ ws) c → is_free_input m h c.thing ≡ true)
        go (inr held) others = inl (w.cell, inl refl, held)
        go (inl free) (inl held) = inl (held.0, inr held.1, held.2)
        go (inl free) (inr all) = inr (λ c has. ⊎_elim (λ is. subst (λ (d : Cell). is_free_input m h d.thing ≡ true) is free) (all c) has)

    FirstHeld : List (Event V) → Type 0
    FirstHeld es = (before : List (Event V)) × (ws : List (Write V)) × (after : List (Event V)) × (es ≡ before ++ Move ws ∷ after) × AllFree before × Held ws

    longer : (e : Event V) (es : List (Event V)) → MovesFreeInputs m h e → FirstHeld es ⊎ AllFree es → FirstHeld (e ∷ es) ⊎ AllFree (e ∷ es)
    unfolding FirstHeld AllFree
    longer e es free (inl found) = inl (e ∷ found.0, found.1, found.2, ap (λ (l : List (Event V)). e ∷ l) found.3, (free, found.4), found.5)
    longer e es free (inr all) = inr (free, all)

    first_held : (es : List (Event V)) → FirstHeld es ⊎ AllFree es
    unfolding FirstHeld AllFree
    first_held [] = inr tt
    first_held (Move ws ∷ es) =
        ⊎_elim (λ held. inl ([], ws, es, refl, tt, held)) (λ free. longer (Move ws) es free (first_held es)) (held_or_free ws)
    first_held (Evaluate p ∷ es) = longer (Evaluate p) es tt (first_held es)
    first_held (Activate ∷ es) = longer Activate es tt (first_held es)
    first_held (Apply ∷ es) = longer Apply es tt (first_held es)

    waits_all : (begin others : List (Event V)) (s : State V) → AllFree begin → WaitsForQuiet m h (end_state m s begin) others → WaitsForQuiet m h s (begin ++ others)
    unfolding AllFree
    waits_all [] others s free habit = habit
    waits_all (e ∷ begin) others s free habit = WaitsForQuiet.waits free.0 (waits_all begin others (state_after m s e) free.1 habit)

    AllFree-front : (begin others : List (Event V)) → AllFree (begin ++ others) → AllFree begin
    unfolding AllFree
    AllFree-front [] others free = tt
    AllFree-front (e ∷ begin) others free = (free.0, AllFree-front begin others free.1)

    all_waits : (es : List (Event V)) (s : State V) → AllFree es → WaitsForQuiet m h s es
    unfolding AllFree
    all_waits [] s free = WaitsForQuiet.ended
    all_waits (e ∷ es) s free = WaitsForQuiet.waits free.0 (all_waits es (state_after m s e) free.1)

    -- events by the habit keep it event by event
    pub waits_for_quiet : (es : List (Event V)) (s : State V) → IsByHabit m h s es → WaitsForQuiet m h s es
    unfolding FirstHeld Held
    waits_for_quiet es s habit = ⊎_elim from_held (all_waits es s) (first_held es)
      where
        from_held : FirstHeld es → WaitsForQuiet m h s es
        from_held at =
            let q = habit at.0 at.1 at.2 at.3 at.5.0 at.5.1 at.5.2 in
            let splits : q.until ++ (q.since ++ Move at.1 ∷ at.2) ≡ es =
            sym (append_assoc q.until q.since (Move at.1 ∷ at.2)) ∙ ap (λ (l : List (Event V)). l ++ Move at.1 ∷ at.2) (sym q.splits) ∙ sym at.3 in
            subst
            (WaitsForQuiet m h s)
            splits
            (waits_all q.until (q.since ++ Move at.1 ∷ at.2) s (AllFree-front q.until q.since (subst AllFree q.splits at.4)) (WaitsForQuiet.quiet q.quiet q.no_waking_moves))

    -- and where each Move is of free inputs, events are by the habit
    pub free_by_habit : (es : List (Event V)) (s : State V) → ((before : List (Event V)) (ws : List (Write V)) (after : List (Event V)) → es ≡ before ++ Move ws ∷ after → (c : Cell) → WritesCell ws c → is_free_input m h c.thing ≡ true) → IsByHabit m h s es
    free_by_habit es s free before ws after is c has held = absurd (true≢false (sym (free before ws after is c has) ∙ held))
