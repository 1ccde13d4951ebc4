-- Whatever a dump says of the inputs of a design without processes, some run shows it.
use Rattle.std.proofs.Common.{◌≡◌, ⊎_elim, inl, inr, ℕ, zero, suc, ◌+◌, ◌<◌, ◌≤◌, ◌&&◌, true, nat_lt, List, [], ◌∷◌, map, refl, sym, ap, subst, ◌∙◌, arith}
use Rattle.std.proofs.lemmas.Bool.{lt-ltb}
use Rattle.std.specs.List.{range_with_len}
use Rattle.event_machine.specs.Cell.{Cell, Values}
use Rattle.event_machine.specs.Habit.{Free}
use Rattle.four_state.specs.declared.bit.Bit.{Bit}
use Rattle.design_model.specs.Design.{Design, In, cell, no_signal, signal_at, signal_bits}
use Rattle.design_model.specs.Machine.{machine}
use Rattle.design_model.specs.Run.{IsRun, Run, settled}
use Rattle.design_model.specs.Shows.{AreRising, AreStretches, BindsSignals, BoundDump, InSome, IsShownOf, Shows, StartsAt, last_time}
use Rattle.shown_dumps.proofs.Order.{InOrder, before_all, in_order, some_cases, some_cons}
use Rattle.shown_dumps.proofs.Times.{later as later_than}
use Rattle.input_laws.specs.Inputs.{HasInputsAlone}
use Rattle.input_laws.proofs.Runs.{some_run}

-- the first time of all stretches, 0 where there is no time
abbrev begin_of : List (List ℕ) → ℕ
begin_of [] = 0
begin_of ([] ∷ tss) = begin_of tss
begin_of ((t ∷ ts) ∷ tss) = t

-- a time that no last one of a stretch is after
abbrev bound_of : List (List ℕ) → ℕ
bound_of [] = 0
bound_of ([] ∷ tss) = bound_of tss
bound_of ((t ∷ ts) ∷ tss) = last_time t ts + bound_of tss

starts_there : (tss : List (List ℕ)) → StartsAt tss (begin_of tss)
starts_there [] = tt
starts_there ([] ∷ tss) = starts_there tss
starts_there ((t ∷ ts) ∷ tss) = refl

-- a shown time is not before the first of its stretch
shown_first : (tss : List (List ℕ)) (t : ℕ) → InSome (λ ts. IsShownOf ts t) tss → (u : ℕ) × InSome (In u) tss × (u ≤ t)
shown_first [] t shown = absurd shown
shown_first (ts ∷ tss) t shown = ⊎_elim (here ts) (later (shown_first tss t)) (some_cases (λ us. IsShownOf us t) ts tss shown)
  where
    here : (us : List ℕ) → IsShownOf us t → (u : ℕ) × InSome (In u) (us ∷ tss) × (u ≤ t)
    here [] s = absurd s
    here (u ∷ us) s = (u, some_cons (In u) (u ∷ us) tss (inl (inl refl)), s.0)

    later : (InSome (λ us. IsShownOf us t) tss → (u : ℕ) × InSome (In u) tss × (u ≤ t)) → InSome (λ us. IsShownOf us t) tss → (u : ℕ) × InSome (In u) (ts ∷ tss) × (u ≤ t)
    later rest s = let first = rest s in (first.0, some_cons (In first.0) ts tss (inr first.1), first.2)

-- no listed time is before the first of all
begin_before : (tss : List (List ℕ)) → InOrder tss → (u : ℕ) → InSome (In u) tss → begin_of tss ≤ u
begin_before [] order u listed = absurd listed
begin_before ([] ∷ tss) order u listed = ⊎_elim (λ none. absurd none) (begin_before tss order.2 u) (some_cases (In u) [] tss listed)
begin_before ((t ∷ ts) ∷ tss) order u listed =
    ⊎_elim (first order.0) (λ later. before_all (t ∷ ts) tss t u order.1 (inl refl) later) (some_cases (In u) (t ∷ ts) tss listed)
  where
    first : AreRising (t ∷ ts) → In u (t ∷ ts) → t ≤ u
    first up (inl same) = omega (arith, same)
    first up (inr there) = let less = later_than t ts u up there in omega (arith, less)

shown_bound : (tss : List (List ℕ)) (t : ℕ) → InSome (λ ts. IsShownOf ts t) tss → t ≤ bound_of tss
shown_bound [] t shown = absurd shown
shown_bound (ts ∷ tss) t shown = ⊎_elim (here ts) (λ s. later ts (shown_bound tss t s)) (some_cases (λ us. IsShownOf us t) ts tss shown)
  where
    here : (us : List ℕ) → IsShownOf us t → t ≤ bound_of (us ∷ tss)
    here [] s = absurd s
    here (u ∷ us) s = omega (arith, s.1)

    later : (us : List ℕ) → t ≤ bound_of tss → t ≤ bound_of (us ∷ tss)
    later [] l = l
    later (u ∷ us) l = omega (arith, l)

-- a shown time is from the first of all on, and not after that bound
shown_within : (tss : List (List ℕ)) (t : ℕ) → AreStretches tss → InSome (λ ts. IsShownOf ts t) tss → (begin_of tss ≤ t) × (t ≤ begin_of tss + bound_of tss)
shown_within tss t order shown =
    let first = shown_first tss t shown in
    let from = begin_before tss (in_order tss order) first.0 first.1 in
    let until = shown_bound tss t shown in
    (omega (arith, from, first.2), omega (arith, until))

-- the same bits at each place are the same list of bits
bits_from : (v w : Values Bit) (s n k : ℕ) → ((j : ℕ) → j < n + k → v (cell s j) ≡ w (cell s j)) → map v (map (cell s) (range_with_len n k)) ≡ map w (map (cell s) (range_with_len n k))
bits_from v w s n zero same = refl
bits_from v w s n (suc k) same =
    let here = same n (omega arith) in
    let rest = bits_from v w s (n + 1) k (λ j less. same j (omega (arith, less))) in
    ap (λ b. b ∷ map v (map (cell s) (range_with_len (n + 1) k))) here ∙ ap (λ bs. w (cell s n) ∷ bs) rest

same_bits : (d : Design) (v w : Values Bit) (s : ℕ) → (signal_at d s).input ≡ true → ((c : Cell) → (machine d).is_input c ≡ true → v c ≡ w c) → signal_bits d v s ≡ signal_bits d w s
same_bits d v w s input same =
    bits_from v w s 0 (signal_at d s).width (λ j less. same (cell s j) (ap (λ b. b && nat_lt j (signal_at d s).width) input ∙ lt-ltb j (signal_at d s).width (omega (arith, less))))

-- some run of a design of inputs shows the dump
pub run_shown : (d : Design) → HasInputsAlone d → (dump : BoundDump) → BindsSignals d dump → AreStretches dump.stretches → (r : Run) × IsRun d Free r × Shows d dump r
run_shown d inputs dump signals order =
    let some = some_run d inputs.processes dump.values (begin_of dump.stretches) (bound_of dump.stretches) in (
      some.run,
      some.is_run,
      record {
        starts = subst (StartsAt dump.stretches) (sym some.begins) (starts_there dump.stretches);
        shows = λ t shown s bound.
            let within = shown_within dump.stretches t order shown in
            same_bits d (settled d some.run t) (dump.values t) s (inputs.signals s no_signal (signals s bound)) (some.takes t within.0 within.1);
      },
    )
