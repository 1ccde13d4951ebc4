-- Which writes wake the block: a rise of the clock, and nothing else.
use Rattle.std.proofs.Common.{◌≡◌, ◌≢◌, ◌⊎◌, inl, inr, ⊎_elim, ℕ, zero, suc, Bool, true, false, ◌==◌, ◌&&◌, ◌||◌, List, [], ◌∷◌, refl, sym, ap, ◌∙◌, if◌then◌else◌}
use Rattle.std.proofs.lemmas.Bool.{and_left, and_parts, and_right, both_ways, eqb-true, false_from_ne_true, false≢true, or_cases, or_from}
use Rattle.event_machine.specs.Cell.{Cell, Values, Write, WritesCell, put}
use Rattle.event_machine.specs.Machine.{Edge as MachineEdge, Negedge, Posedge, is_sensitive, wakes}
use Rattle.event_machine.proofs.Writes.{cases_cell}
use Rattle.four_state.specs.Edges.{falls, rises}
use Rattle.four_state.specs.Vector.{same_bit}
use Rattle.four_state.specs.declared.bit.Bit.{Bit}
use Rattle.four_state.specs.declared.bit.Bit.TheVariants.{One, X, Z, Zero}
use Rattle.design_model.specs.Design.{cell}
use Rattle.design_model.specs.Machine.{machine}
use Rattle.selfrun_design.specs.Selfrun.{selfrun}
use Rattle.selfrun_runs.proofs.Moves.{moves}

-- the only edge that a process lists is the rise of the clock
pub edge_clk : (e : MachineEdge) (x k : ℕ) → (machine selfrun).edge 0 e (cell x k) ≡ true → (e ≡ Posedge) × (cell x k ≡ cell 0 0)
edge_clk Posedge x k h =
    let p = and_parts (k == 0) _ h in
    (refl, λ i. record { thing = ⊎_elim (λ e. sym (eqb-true 0 x e)) (λ e. absurd (false≢true e)) (or_cases (0 == x) false p.1) i; place = eqb-true k 0 p.0 i })
edge_clk Negedge x k h = absurd (both_ways _ refl (and_parts (k == 0) false h).1)

no_rise : (c : Cell) → (c ≡ cell 0 0 → ⊥) → (machine selfrun).edge 0 Posedge c ≡ false
no_rise c apart = false_from_ne_true ((machine selfrun).edge 0 Posedge c) (λ h. apart (edge_clk Posedge c.thing c.place h).1)

no_fall : (c : Cell) → (machine selfrun).edge 0 Negedge c ≡ false
no_fall c = and_right (c.place == 0) false refl

pub rises_zero : (x : Bit) → rises x Zero ≡ false
rises_zero Zero = refl
rises_zero One = refl
rises_zero X = refl
rises_zero Z = refl

-- a write that is not to the clock, or sets it to 0
abbrev pub IsQuietWrite : Write Bit → Type 0
IsQuietWrite w = (w.cell ≡ cell 0 0 → ⊥) ⊎ (w.value ≡ Zero)

abbrev pub AreQuiet : List (Write Bit) → Type 0
AreQuiet [] = Unit {0}
AreQuiet (w ∷ ws) = IsQuietWrite w × AreQuiet ws

pub other_insensitive : (p : ℕ) (c : Cell) (x y : Bit) → is_sensitive (machine selfrun) (suc p) c x y ≡ false
unfolding is_sensitive
other_insensitive p c x y = refl

insensitive : (p : ℕ) (c : Cell) (x y : Bit) → (c ≡ cell 0 0 → ⊥) ⊎ (y ≡ Zero) → is_sensitive (machine selfrun) p c x y ≡ false
unfolding is_sensitive
insensitive zero c x y quiet =
    or_from ((machine selfrun).edge 0 Posedge c && rises x y) ((machine selfrun).edge 0 Negedge c && falls x y)
    (⊎_elim (λ apart. and_left ((machine selfrun).edge 0 Posedge c) (rises x y) (no_rise c apart)) (λ low. and_right ((machine selfrun).edge 0 Posedge c) (rises x y) (ap (rises x) low ∙ rises_zero x)) quiet)
    (and_left ((machine selfrun).edge 0 Negedge c) (falls x y) (no_fall c))
insensitive (suc p) c x y quiet = other_insensitive p c x y

pub no_wakes : (p : ℕ) (v : Values Bit) (ws : List (Write Bit)) → AreQuiet ws → wakes (machine selfrun) p v ws ≡ false
no_wakes p v [] quiet = refl
no_wakes p v (w ∷ ws) quiet = or_from (is_sensitive (machine selfrun) p w.cell (v w.cell) w.value) (wakes (machine selfrun) p (put v w) ws) (insensitive p w.cell (v w.cell) w.value quiet.0) (no_wakes p (put v w) ws quiet.1)

-- writes that are not to the clock are quiet
pub quiet_others : (ws : List (Write Bit)) → ((c : Cell) → WritesCell ws c → c.thing ≢ 0) → AreQuiet ws
quiet_others [] others = tt
quiet_others (w ∷ ws) others = (inl (λ e. others w.cell (inl refl) (ap (λ (x : Cell). x.thing) e)), quiet_others ws (λ c m. others c (inr m)))

-- so are moves that take the clock to 0
pub quiet_moves : (cs : List Cell) (from to : Values Bit) → to (cell 0 0) ≡ Zero → AreQuiet (moves from to cs)
quiet_moves [] from to low = tt
quiet_moves (c ∷ cs) from to low = go (same_bit (from c) (to c)) (quiet_moves cs from to low) (quiet_moves cs (put from (record { cell = c; value = to c })) to low)
  where
    first : IsQuietWrite (record { cell = c; value = to c })
    first = ⊎_elim (λ here. inr (ap to here ∙ low)) (λ apart. inl apart) (cases_cell c (cell 0 0))

    go : (x : Bool) → AreQuiet (moves from to cs) → AreQuiet (moves (put from (record { cell = c; value = to c })) to cs) → AreQuiet (if x then moves from to cs else record { cell = c; value = to c } ∷ moves (put from (record { cell = c; value = to c })) to cs)
    go true here there = here
    go false here there = (first, there)

-- the rise of the clock
abbrev pub rise : Write Bit
rise = record { cell = cell 0 0; value = One }

pub woken_by_rise : (v : Values Bit) → v (cell 0 0) ≡ Zero → wakes (machine selfrun) 0 v (rise ∷ []) ≡ true
unfolding is_sensitive
woken_by_rise v low = ap (λ b. is_sensitive (machine selfrun) 0 (cell 0 0) b One || false) low
