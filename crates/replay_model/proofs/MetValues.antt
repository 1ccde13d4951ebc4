-- An execution on values that agree with the settled ones on the wake cells of a process visits what one does that the store allows.
use Rattle.std.proofs.Common.{◌≡◌, ⊎_elim, ℕ, true, false, ◌&&◌, refl, sym, subst, None, if◌then◌else◌}
use Rattle.std.proofs.lemmas.Bool.{and_cases, both_ways, cases_Bool, false_from_ne_true}
use Rattle.event_machine.specs.Cell.{Cell, Values}
use Rattle.event_machine.specs.Machine.{IsWakeCell}
use Rattle.design_model.specs.four_state.declared.bit.Bit.{Bit}
use Rattle.design_model.specs.Design.{Design, IsClocked, body_at, process_at}
use Rattle.design_model.specs.Mentions.{blocking_target, body_assigns, body_mentions}
use Rattle.design_model.specs.Execution.{execution}
use Rattle.design_model.specs.Machine.{machine}
use Rattle.body_replay.specs.KnownBits.{Allows}
use Rattle.body_replay.specs.Store.{AllowsState, Kept}
use Rattle.replay_model.specs.Step.{is_comb, settled_kept}
use Rattle.replay_model.proofs.AskedLaws.{AskedLaws}
use Rattle.replay_model.proofs.Clocked.{at_false, at_true}
use Rattle.replay_model.proofs.Settling.{level_mentioned}
use Rattle.replay_model.proofs.Settling as settling
use Rattle.replay_model.proofs.Targets.{blocks_assigns, blocks_from}

module _ (d : Design) (asked : AskedLaws d) (w : Values Bit) where
  abbrev Mixed : ℕ → Values Bit → Values Bit
  Mixed p v c = if blocking_target d (body_at d p) c then v c else w c

  -- an execution on values that agree with the settled ones on the wake cells, and one that the store allows
  pub settled_allowed : (p : ℕ) → (IsClocked (process_at d p) → ⊥) → (k : Kept) → AllowsState k w → (v : Values Bit) → ((b : Cell) → IsWakeCell (machine d) p b → v b ≡ w b) → (x : Values Bit) × AllowsState (settled_kept d p k) x × ((execution d (body_at d p) x).visits ≡ (execution d (body_at d p) v).visits)
  settled_allowed p settles k ok v wakes = ⊎_elim of_comb of_assign (cases_Bool (is_comb (process_at d p)))
    where
      of_assign : is_comb (process_at d p) ≡ false → (x : Values Bit) × AllowsState (settled_kept d p k) x × ((execution d (body_at d p) x).visits ≡ (execution d (body_at d p) v).visits)
      of_assign e = (w, λ c. subst (λ z. Allows (if z && body_assigns c.thing (body_at d p) then None else k c) (w c)) (sym e) (ok c), asked.assign_visits p (settling.assign_if (process_at d p) settles e) w v (λ c wake. sym (wakes c wake)))

      of_comb : is_comb (process_at d p) ≡ true → (x : Values Bit) × AllowsState (settled_kept d p k) x × ((execution d (body_at d p) x).visits ≡ (execution d (body_at d p) v).visits)
      of_comb e = (Mixed p v, reads, settling.same_visits d (body_at d p) (Mixed p v) v agree)
        where
          reads : AllowsState (settled_kept d p k) (Mixed p v)
          reads c =
              ⊎_elim (λ own. at_true (λ z. Allows z (Mixed p v c)) _ _ _ own tt)
              (λ other. at_false (λ z. Allows z (Mixed p v c)) _ _ _ other (at_false (Allows (k c)) _ _ _ (not_own other) (ok c))) (cases_Bool (is_comb (process_at d p) && body_assigns c.thing (body_at d p)))
            where
              not_own : (is_comb (process_at d p) && body_assigns c.thing (body_at d p)) ≡ false → blocking_target d (body_at d p) c ≡ false
              not_own f = false_from_ne_true _ (λ b. ⊎_elim (λ x. both_ways _ x e) (λ x. both_ways _ x (blocks_assigns c.thing (body_at d p) (blocks_from d p c b))) (and_cases (is_comb (process_at d p)) _ f))

          agree : (b : Cell) → body_mentions b.thing (body_at d p) ≡ true → Mixed p v b ≡ v b
          agree b m = ⊎_elim own other (cases_Bool (blocking_target d (body_at d p) b))
            where
              own : blocking_target d (body_at d p) b ≡ true → (if blocking_target d (body_at d p) b then v b else w b) ≡ v b
              own f = at_true (λ z. z ≡ v b) (blocking_target d (body_at d p) b) (v b) (w b) f refl

              other : blocking_target d (body_at d p) b ≡ false → (if blocking_target d (body_at d p) b then v b else w b) ≡ v b
              other f = at_false (λ z. z ≡ v b) (blocking_target d (body_at d p) b) (v b) (w b) f (sym (wakes b (level_mentioned (process_at d p) b.thing settles m, f)))
