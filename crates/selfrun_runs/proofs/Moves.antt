-- The environment moves cells to any values.
use Rattle.std.proofs.Common.{◌≡◌, inl, inr, ⊎_elim, Bool, true, false, List, [], ◌∷◌, refl, sym, ap, subst, ◌∙◌, if◌then◌else◌}
use Rattle.std.proofs.lemmas.Bool.{false≢true}
use Rattle.event_machine.specs.Cell.{Cell, Values, Write, WritesCell, put, put_all}
use Rattle.event_machine.specs.Machine.{Machine}
use Rattle.event_machine.specs.Event.{CanMove, Event, Move, mark}
use Rattle.event_machine.proofs.Writes.{cases_cell, put_other, put_same, same_cell_not}
use Rattle.four_state.specs.Vector.{same_bit}
use Rattle.four_state.specs.declared.bit.Bit.{Bit}
use Rattle.design_model.specs.Design.{In}
use Rattle.design_model.proofs.Lawful.{same_bit_is, same_bit_self}

mark_other : (moved : Cell → Bool) (w : Write Bit) (c : Cell) → (w.cell ≡ c → ⊥) → mark moved w c ≡ moved c
unfolding mark
mark_other moved w c apart = rw (same_cell_not w.cell c apart)

bits_differ : (x y : Bit) → same_bit x y ≡ false → x ≡ y → ⊥
bits_differ x y differ same = false≢true (sym differ ∙ ap (same_bit x) (sym same) ∙ same_bit_self x)

-- the writes that take these cells to their new values, where those differ
abbrev pub moves : Values Bit → Values Bit → List Cell → List (Write Bit)
moves from to [] = []
moves from to (c ∷ cs) = if same_bit (from c) (to c) then moves from to cs else record { cell = c; value = to c } ∷ moves (put from (record { cell = c; value = to c })) to cs

-- a cell that has its new value keeps it
put_keeps : (from to : Values Bit) (c b : Cell) → from b ≡ to b → put from (record { cell = c; value = to c }) b ≡ to b
put_keeps from to c b same = ⊎_elim (λ here. put_same from (record { cell = c; value = to c }) b here ∙ ap to here) (λ apart. put_other from (record { cell = c; value = to c }) b apart ∙ same) (cases_cell c b)

moves_keep : (cs : List Cell) (from to : Values Bit) (b : Cell) → from b ≡ to b → put_all from (moves from to cs) b ≡ to b
moves_keep [] from to b same = same
moves_keep (c ∷ cs) from to b same = go (same_bit (from c) (to c)) (moves_keep cs from to b same) (moves_keep cs (put from (record { cell = c; value = to c })) to b (put_keeps from to c b same))
  where
    go : (x : Bool) → put_all from (moves from to cs) b ≡ to b → put_all (put from (record { cell = c; value = to c })) (moves (put from (record { cell = c; value = to c })) to cs) b ≡ to b → put_all from (if x then moves from to cs else record { cell = c; value = to c } ∷ moves (put from (record { cell = c; value = to c })) to cs) b ≡ to b
    go true here there = here
    go false here there = there

-- each of the cells gets its new value
pub moves_reach : (cs : List Cell) (from to : Values Bit) (b : Cell) → In b cs → put_all from (moves from to cs) b ≡ to b
moves_reach [] from to b h = absurd h
moves_reach (c ∷ cs) from to b (inl here) = go (same_bit (from c) (to c)) refl
  where
    go : (x : Bool) → same_bit (from c) (to c) ≡ x → put_all from (if x then moves from to cs else record { cell = c; value = to c } ∷ moves (put from (record { cell = c; value = to c })) to cs) b ≡ to b
    go true is = moves_keep cs from to b (subst (λ y. from y ≡ to y) here (same_bit_is (from c) (to c) is))
    go false is = moves_keep cs (put from (record { cell = c; value = to c })) to b (put_same from (record { cell = c; value = to c }) b here ∙ ap to here)
moves_reach (c ∷ cs) from to b (inr there) = go (same_bit (from c) (to c)) (moves_reach cs from to b there) (moves_reach cs (put from (record { cell = c; value = to c })) to b there)
  where
    go : (x : Bool) → put_all from (moves from to cs) b ≡ to b → put_all (put from (record { cell = c; value = to c })) (moves (put from (record { cell = c; value = to c })) to cs) b ≡ to b → put_all from (if x then moves from to cs else record { cell = c; value = to c } ∷ moves (put from (record { cell = c; value = to c })) to cs) b ≡ to b
    go true here there = here
    go false here there = there

-- only these cells are written
pub moves_in : (cs : List Cell) (from to : Values Bit) (b : Cell) → WritesCell (moves from to cs) b → In b cs
moves_in [] from to b = λ w. absurd w
moves_in (c ∷ cs) from to b = go (same_bit (from c) (to c)) (moves_in cs from to b) (moves_in cs (put from (record { cell = c; value = to c })) to b)
  where
    go : (x : Bool) → (WritesCell (moves from to cs) b → In b cs) → (WritesCell (moves (put from (record { cell = c; value = to c })) to cs) b → In b cs) → WritesCell (if x then moves from to cs else record { cell = c; value = to c } ∷ moves (put from (record { cell = c; value = to c })) to cs) b → In b (c ∷ cs)
    go true here there w = inr (here w)
    go false here there (inl e) = inl e
    go false here there (inr w) = inr (there w)

-- the environment may make these writes in one Move, where a cell that has moved has its new value
pub can_move : (m : Machine Bit) (cs : List Cell) (moved : Cell → Bool) (from to : Values Bit) → ((b : Cell) → In b cs → m.is_input b ≡ true) → ((b : Cell) → moved b ≡ true → from b ≡ to b) → CanMove m moved from (moves from to cs)
can_move m [] moved from to inputs done = tt
can_move m (c ∷ cs) moved from to inputs done =
    go (same_bit (from c) (to c)) refl (can_move m cs moved from to (λ b h. inputs b (inr h)) done) (can_move m cs (mark moved (record { cell = c; value = to c })) (put from (record { cell = c; value = to c })) to (λ b h. inputs b (inr h)) done_then)
  where
    done_then : (b : Cell) → mark moved (record { cell = c; value = to c }) b ≡ true → put from (record { cell = c; value = to c }) b ≡ to b
    done_then b marked = ⊎_elim (λ here. put_same from (record { cell = c; value = to c }) b here ∙ ap to here) (λ apart. put_other from (record { cell = c; value = to c }) b apart ∙ done b (sym (mark_other moved (record { cell = c; value = to c }) b apart) ∙ marked)) (cases_cell c b)

    unmoved : (from c ≡ to c → ⊥) → (x : Bool) → moved c ≡ x → moved c ≡ false
    unmoved differ true is = absurd (differ (done c is))
    unmoved differ false is = is

    go : (x : Bool) → same_bit (from c) (to c) ≡ x → CanMove m moved from (moves from to cs) → CanMove m (mark moved (record { cell = c; value = to c })) (put from (record { cell = c; value = to c })) (moves (put from (record { cell = c; value = to c })) to cs) → CanMove m moved from (if x then moves from to cs else record { cell = c; value = to c } ∷ moves (put from (record { cell = c; value = to c })) to cs)
    go true is here there = here
    go false is here there = (inputs c (inl refl), unmoved (bits_differ (from c) (to c) is) (moved c) refl, bits_differ (from c) (to c) is, there)

-- the events of a step that makes these writes
abbrev pub events_of : List (Write Bit) → List (Event Bit)
events_of [] = []
events_of (w ∷ ws) = Move (w ∷ ws) ∷ []
