-- What the Clocked assign is made by them alone.
use Rattle.std.proofs.Common.{◌≡◌, ◌++◌, ◌&&◌, not, ℕ, Bool, true, false, List, [], ◌∷◌, Some, None, inl, inr, refl, sym, ap, subst, ◌∙◌}
use Rattle.std.specs.Prelude.{if◌then◌else◌}
use Rattle.std.proofs.lemmas.Bool.{and_parts, both_ways, false_from_ne_true}
use Rattle.event_machine.specs.Cell.{Cell}
use Rattle.replay_steps.specs.replay_model.design_model.Design.{Design, In, IsClocked, body_at, process_at, signal_at}
use Rattle.replay_steps.specs.replay_model.design_model.Lawful.{IsLawfulDesign}
use Rattle.replay_steps.specs.replay_model.design_model.Mentions.{blocking_target}
use Rattle.replay_steps.specs.replay_model.body_replay.Replay.{flush}
use Rattle.replay_steps.specs.replay_model.Step.{Closing, Working, after_settling, all_run, certainty, clocked_run, is_dumped, is_loose, is_touched, plain_store, run_all_settling, run_settling, settle_start, settled_kept, surely_differ, updated}
use Rattle.replay_steps.specs.replay_model.Tables.{AreTables}
use Rattle.replay_steps.proofs.replay_model.Bits.{any_in, in_halves, in_left, in_right}
use Rattle.replay_steps.proofs.replay_model.Clocked.{at_false}
use Rattle.replay_steps.proofs.replay_model.Targets.{one_assigner, target_assigns}
use Rattle.clocked_laws.specs.Laws.{ClockedAllKeptLaw, ClockedAllMadeLaw, ClockedContradictsLaw, ClockedFirmLaw, ClockedStartLaw, ClockedStillMadeLaw, IsClockedCell}
use Rattle.clocked_laws.proofs.Kept.{clocked_made, still_firm, still_unwritten}

-- ---- a cell that no Assign or Comb drives

module _ (st : Closing) (c : Cell) where
  -- the process does not drive it where it runs
  abbrev NotDriven : ℕ → Type 0
  NotDriven p = is_touched st p ≡ true → blocking_target st.design (body_at st.design p) c ≡ false

  one_made : (ordered : Bool) (p : ℕ) (w : Working) → NotDriven p → (run_settling st ordered p w).made c ≡ w.made c
  one_made ordered p w away = go (is_touched st p) refl
    where
      go : (b : Bool) → is_touched st p ≡ b
          → (if b then after_settling st ordered p (certainty st w.kept p) (st.run p (plain_store (settled_kept st.design p w.kept)) (certainty st w.kept p)) w else w).made c ≡ w.made c
      go true e = at_false (λ z. z ≡ w.made c) (blocking_target st.design (body_at st.design p) c) _ (w.made c) (away e) refl
      go false e = refl

  one_kept : (ordered : Bool) (p : ℕ) (w : Working) → NotDriven p → (run_settling st ordered p w).kept c ≡ w.kept c
  one_kept ordered p w away = go (is_touched st p) refl
    where
      go : (b : Bool) → is_touched st p ≡ b
          → (if b then after_settling st ordered p (certainty st w.kept p) (st.run p (plain_store (settled_kept st.design p w.kept)) (certainty st w.kept p)) w else w).kept c ≡ w.kept c
      go true e =
          at_false (λ z. z ≡ w.kept c) (blocking_target st.design (body_at st.design p) c && not (is_dumped st.design st.bound c)) _ (w.kept c)
          (ap (λ v. v && not (is_dumped st.design st.bound c)) (away e)) refl
      go false e = refl

  some_made : (ordered : Bool) (ps : List ℕ) (w : Working) → ((p : ℕ) → In p ps → NotDriven p) → (run_all_settling st ordered ps w).made c ≡ w.made c
  some_made ordered [] w away = refl
  some_made ordered (p ∷ ps) w away = some_made ordered ps (run_settling st ordered p w) (λ q i. away q (inr i)) ∙ one_made ordered p w (away p (inl refl))

  some_kept : (ordered : Bool) (ps : List ℕ) (w : Working) → ((p : ℕ) → In p ps → NotDriven p) → (run_all_settling st ordered ps w).kept c ≡ w.kept c
  some_kept ordered [] w away = refl
  some_kept ordered (p ∷ ps) w away = some_kept ordered ps (run_settling st ordered p w) (λ q i. away q (inr i)) ∙ one_kept ordered p w (away p (inl refl))

  module _ (away : (p : ℕ) → In p (st.tables.order ++ st.tables.last) → NotDriven p) where
    abbrev start : Working
    start = settle_start st (clocked_run st)

    abbrev middle : Working
    middle = run_all_settling st true st.tables.order (settle_start st (clocked_run st))

    pub made_start : (all_run st).made c ≡ (settle_start st (clocked_run st)).made c
    made_start =
        some_made false st.tables.last middle (λ p i. away p (in_right p st.tables.order st.tables.last i))
        ∙ some_made true st.tables.order start (λ p i. away p (in_left p st.tables.order st.tables.last i))

    pub kept_start : (all_run st).kept c ≡ (settle_start st (clocked_run st)).kept c
    kept_start =
        some_kept false st.tables.last middle (λ p i. away p (in_right p st.tables.order st.tables.last i))
        ∙ some_kept true st.tables.order start (λ p i. away p (in_left p st.tables.order st.tables.last i))

-- ---- a cell of what a Clocked assigns

module _ (st : Closing) (lawful : IsLawfulDesign st.design) (tabled : AreTables st.design st.bound st.tables) (c : Cell) (mine : IsClockedCell st.design c) where
  not_driven : (p : ℕ) → In p (st.tables.order ++ st.tables.last) → blocking_target st.design (body_at st.design p) c ≡ false
  not_driven p i = false_from_ne_true _ (λ e.
      let same = one_assigner st.design lawful mine.0 p c.thing mine.1 mine.2 (target_assigns st.design lawful p c (inl e)) in
      ((tabled.others p).0 (in_halves p st.tables.order st.tables.last i)).1 (subst (λ z. IsClocked (process_at st.design z)) (sym same) mine.1))

  firm : is_loose st c ≡ false
  firm = false_from_ne_true _ (λ e.
      let q = any_in (λ p. is_touched st p && blocking_target st.design (body_at st.design p) c) (st.tables.order ++ st.tables.last) e in
      both_ways _ (not_driven q.0 q.1) (and_parts (is_touched st q.0) _ q.2).1)

  made_by : (w : Working) → updated st w c ≡ flush w.kept w.queue c
  made_by w = at_false (λ z. z ≡ flush w.kept w.queue c) (is_loose st c) None _ firm refl

pub clocked_firm : ClockedFirmLaw
clocked_firm st lawful tabled c mine = firm st lawful tabled c mine

pub clocked_start : ClockedStartLaw
clocked_start st lawful tabled c mine w = made_by st lawful tabled c mine w

pub clocked_all_made : ClockedAllMadeLaw
clocked_all_made st lawful tabled c mine = made_start st c (λ p i e. not_driven st lawful tabled c mine p i) ∙ made_by st lawful tabled c mine (clocked_run st)

pub clocked_all_kept : ClockedAllKeptLaw
clocked_all_kept st lawful tabled c mine =
    kept_start st c (λ p i e. not_driven st lawful tabled c mine p i)
    ∙ ap (λ z. if is_dumped st.design st.bound c then Some (st.new c) else z) (made_by st lawful tabled c mine (clocked_run st))

-- an input is not assigned
no_input : (d : Design) → IsLawfulDesign d → (c : Cell) → IsClockedCell d c → (signal_at d c.thing).input ≡ false
no_input d lawful c mine = lawful.no_input mine.0 c.thing mine.2

pub clocked_contradicts : ClockedContradictsLaw
clocked_contradicts st lawful tabled c mine =
    ap (λ b. is_dumped st.design st.bound c && (not b && surely_differ ((all_run st).made c) (Some (st.new c)))) (no_input st.design lawful c mine)
    ∙ ap (λ z. is_dumped st.design st.bound c && surely_differ z (Some (st.new c))) (clocked_all_made st lawful tabled c mine)

-- ---- what may not move

pub still_made : ClockedStillMadeLaw
still_made st runs clocked moving c still =
    made_start st c (λ p i touched. false_from_ne_true _ (λ e. both_ways _ still (moving p c touched e)))
    ∙ clocked_made st runs c (still_unwritten st clocked c still) (still_firm st moving c still)
