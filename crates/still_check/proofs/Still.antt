-- What the Clocked have left of signals, where the dump agrees with it and where it does not.
use Rattle.std.proofs.Common.{◌≡◌, ◌⊎◌, inl, inr, ℕ, ◌+◌, ◌<◌, ◌==◌, Bool, true, false, ◌&&◌, ◌||◌, not, List, [], ◌∷◌, Some, refl, sym, ap, ap₂, subst, ◌∙◌, arith}
use Rattle.std.specs.Prelude.{nat_lt}
use Rattle.std.specs.List.{All}
use Rattle.std.proofs.lemmas.Bool.{and_from, and_parts, both_ways, eq-eqb, eqb-true, false_from_ne_true, false≢true}
use Rattle.std.proofs.lemmas.Bool.Decides.{nat_tests}
use Rattle.std.proofs.lemmas.List.Elements.{All-head, All-tail}
use Rattle.event_machine.specs.Cell.{Cell}
use Rattle.design_model.specs.Design.{In, IsClocked, body_at, cell, process_at, signal_at, signal_bits}
use Rattle.design_model.specs.Mentions.{body_assigns}
use Rattle.design_model.proofs.Lawful.{same_bit_self}
use Rattle.step_values.specs.body_calls.Own.{is_in}
use Rattle.dump_check.specs.declared.order.Difference.{Difference}
use Rattle.known_state.specs.Partly.{allows_bit, allows_bits}
use Rattle.step_values.specs.replay_model.Step.{Closing, all_run, clocked_run, contradicts, is_dumped, known_bits, surely_differ}
use Rattle.step_values.specs.Starts.{left_by_clocked}
use Rattle.step_values.proofs.replay_model.Bits.{in_any, in_halves}
use Rattle.step_values.proofs.replay_model.Targets.{is_target-from, one_assigner, target_assigns}
use Rattle.clocked_laws.specs.Clocked.{IsInputOrWritten}
use Rattle.clocked_laws.specs.Laws.{IsClockedCell}
use Rattle.clocked_laws.proofs.Firm.{clocked_contradicts, still_made}
use Rattle.clocked_laws.proofs.Kept.{clocked_still}
use Rattle.still_check.specs.Laws.{AgreesLaw, AreOverwritten, InputsStay, IsLawfulStep, MovedLaw, StaysLaw}
use Rattle.still_check.specs.Stays.{Agrees, IsDifferent, Stays}
use Rattle.still_check.proofs.Bits.{allowed, allowed_same, allows_own, differ_of, differs, exact}

-- a number that is listed has what each of the list has
listed : (P : ℕ → Type 0) (ss : List ℕ) (s : ℕ) → All P ss → is_in ss s ≡ true → P s
listed P [] s all h = absurd (false≢true h)
listed P (x ∷ ss) s all h = go (x == s) refl h (listed P ss s (All-tail P x ss all))
  where
    go : (t : Bool) → (x == s) ≡ t → (t || is_in ss s) ≡ true → (is_in ss s ≡ true → P s) → P s
    go true e k later = subst P (eqb-true x s e) (All-head P x ss all)
    go false e k later = later k

-- of a signal that agrees each bit is allowed
agreed : (st : Closing) (c : Cell) → is_dumped st.design st.bound c ≡ true → Agrees st c.thing → allows_bit (left_by_clocked st c) (st.new c) ≡ true
agreed st c has agree =
    let parts = and_parts (st.bound c.thing) (nat_lt c.place (signal_at st.design c.thing).width) has in
    let inside : c.place < (signal_at st.design c.thing).width = let l = parts.1 in grind (arith, nat_tests, l) in
    let start : 0 + c.place ≡ c.place = omega arith in
    let fits = allowed (left_by_clocked st) st.new (cell c.thing) 0 (signal_at st.design c.thing).width agree c.place inside in
    subst (λ i. allows_bit (left_by_clocked st (cell c.thing i)) (st.new (cell c.thing i)) ≡ true) start fits

-- of a signal that differs some bit is not
differing : (st : Closing) (found : Difference) → st.bound found.signal ≡ true → IsDifferent st found
    → (k : ℕ) × (is_dumped st.design st.bound (cell found.signal k) ≡ true) × (allows_bit (left_by_clocked st (cell found.signal k)) (st.new (cell found.signal k)) ≡ false)
differing st found bound is =
    let s = found.signal in
    let apart : allows_bits (known_bits st.design (left_by_clocked st) s) (signal_bits st.design st.new s) ≡ false = ap₂ allows_bits (sym is.known) (sym is.dumped) ∙ is.differ in
    let bit = differs (left_by_clocked st) st.new (cell s) 0 (signal_at st.design s).width apart in
    let inside : nat_lt (0 + bit.0) (signal_at st.design s).width ≡ true = let l = bit.1 in grind (arith, nat_tests, l) in
    (0 + bit.0, and_from (st.bound s) _ bound inside, bit.2)

-- what may not move is left as it was
left_still : (st : Closing) → IsLawfulStep st → (c : Cell) → st.sets.moves c.thing ≡ false → left_by_clocked st c ≡ st.start.kept c
left_still st is c still = let left = clocked_still st is.runs is.clocked c still in left.queue (clocked_run st).kept ∙ left.kept

pub stays : StaysLaw
stays st changed is known unchanged all c has still = go (is_in changed c.thing) refl
  where
    go : (t : Bool) → is_in changed c.thing ≡ t → st.start.kept c ≡ Some (st.new c)
    go false e = unchanged c has e
    go true e =
        let fits = agreed st c has (listed (Stays st) changed c.thing all e still) in
        exact (st.start.kept c) (st.new c) (known c has) (subst (λ o. allows_bit o (st.new c) ≡ true) (left_still st is c still) fits)

-- ---- what a Clocked assigns

module _ (st : Closing) (overwritten : List ℕ) (is : IsLawfulStep st) (over : AreOverwritten st overwritten) (c : Cell) (mine : IsClockedCell st.design c) (bound : st.bound c.thing ≡ true) where
  -- what may move of it is overwritten
  overwrites : IsInputOrWritten st c.thing → is_in overwritten c.thing ≡ true
  overwrites (inl input) = absurd (both_ways _ (is.lawful.no_input mine.0 c.thing mine.2) input)
  overwrites (inr (inl (p, d, same, at, touched, target))) =
      let assigns = subst (λ x. body_assigns x (body_at st.design p) ≡ true) same (target_assigns st.design is.lawful p d (inl target)) in
      let one = one_assigner st.design is.lawful mine.0 p c.thing mine.1 mine.2 assigns in
      absurd (((is.tabled.others p).0 (in_halves p st.tables.order st.tables.last at)).1 (subst (λ z. IsClocked (process_at st.design z)) (sym one) mine.1))
  overwrites (inr (inr (p, d, same, at, running, target))) =
      let assigns = subst (λ x. body_assigns x (body_at st.design p) ≡ true) same (target_assigns st.design is.lawful p d (is_target-from st.design p d target)) in
      in_any (λ y. y == c.thing) overwritten c.thing (over.all c.thing p bound at running assigns) (eq-eqb c.thing c.thing refl)

pub agrees : AgreesLaw
agrees st overwritten is dump over all c mine = clocked_contradicts st is.lawful is.tabled c mine ∙ go (is_dumped st.design st.bound c) refl
  where
    same : is_dumped st.design st.bound c ≡ true → (t : Bool) → is_in overwritten c.thing ≡ t → (m : Bool) → st.sets.moves c.thing ≡ m
        → surely_differ (left_by_clocked st c) (Some (st.new c)) ≡ false
    same has true e m f = allowed_same (left_by_clocked st c) (st.new c) (agreed st c has (listed (Agrees st) overwritten c.thing all e))
    same has false e false f = ap (λ o. surely_differ o (Some (st.new c))) (left_still st is c f ∙ dump c has f) ∙ ap not (same_bit_self (st.new c))
    same has false e true f = absurd (both_ways _ e (overwrites st overwritten is over c mine (and_parts (st.bound c.thing) _ has).0 (is.moved c.thing f)))

    go : (b : Bool) → is_dumped st.design st.bound c ≡ b → (b && surely_differ (left_by_clocked st c) (Some (st.new c))) ≡ false
    go false e = refl
    go true e = same e (is_in overwritten c.thing) refl (st.sets.moves c.thing) refl

-- ---- what contradicts the step

-- a bit of what may not move
still_differs : (st : Closing) → IsLawfulStep st → InputsStay st → (c : Cell) → is_dumped st.design st.bound c ≡ true → st.sets.moves c.thing ≡ false
    → allows_bit (left_by_clocked st c) (st.new c) ≡ false → contradicts st c ≡ true
still_differs st is inputs c has still apart =
    let left = left_still st is c still in
    let other : (signal_at st.design c.thing).input ≡ false = false_from_ne_true _ (λ i. both_ways _ apart (allows_own (left_by_clocked st c) (st.new c) (left ∙ inputs c i has still))) in
    let made : (all_run st).made c ≡ left_by_clocked st c = still_made st is.runs is.clocked is.settling c still ∙ sym left in
    let differ : surely_differ ((all_run st).made c) (Some (st.new c)) ≡ true = ap (λ o. surely_differ o (Some (st.new c))) made ∙ differ_of (left_by_clocked st c) (st.new c) apart in
    and_from (is_dumped st.design st.bound c) _ has (and_from (not (signal_at st.design c.thing).input) _ (ap not other) differ)

pub moved : MovedLaw
moved st changed overwritten found is inputs over bound m =
    let bit = differing st found bound m.different in
    let c = cell found.signal bit.0 in
    (c, refl, go c refl bit.1 bit.2 m.which)
  where
    go : (c : Cell) → c.thing ≡ found.signal → is_dumped st.design st.bound c ≡ true → allows_bit (left_by_clocked st c) (st.new c) ≡ false
        → (In found.signal changed × (st.sets.moves found.signal ≡ false)) ⊎ In found.signal overwritten → contradicts st c ≡ true
    go c same has apart (inl still) = still_differs st is inputs c has (subst (λ x. st.sets.moves x ≡ false) (sym same) still.1) apart
    go c same has apart (inr i) =
        let mine = subst (λ x. (p : ℕ) × IsClocked (process_at st.design p) × (body_assigns x (body_at st.design p) ≡ true)) (sym same) (over.only found.signal i).1 in
        clocked_contradicts st is.lawful is.tabled c mine ∙ and_from (is_dumped st.design st.bound c) _ has (differ_of (left_by_clocked st c) (st.new c) apart)
