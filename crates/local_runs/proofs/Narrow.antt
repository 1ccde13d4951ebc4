-- What is hidden of a thing that a body neither mentions nor assigns makes no difference to its run.
use Rattle.std.proofs.Common.{◌≡◌, ℕ, Bool, true, false, ◌&&◌, if◌then◌else◌, None, refl, sym, ap, ◌∙◌}
use Rattle.std.proofs.Math.Path.{fun_ext}
use Rattle.std.proofs.lemmas.Bool.{false_from_ne_true, false≢true, or_left, or_right}
use Rattle.design_model.specs.event_machine.Cell.{Cell}
use Rattle.design_model.specs.Design.{Design}
use Rattle.design_model.specs.Mentions.{body_assigns, body_mentions}
use Rattle.design_model.specs.Tree.{Stmt}
use Rattle.body_replay.specs.Contract.{Certainty, clean, notes_of, outcome, perhaps, quiet, shown_of, strong_outcome, weak}
use Rattle.body_replay.specs.Replay.{State, clean_run, started}
use Rattle.body_replay.specs.Runs.{StoreView, own_store, seen_of}
use Rattle.body_replay.proofs.Frames.{frame}
use Rattle.local_runs.specs.Narrowed.{Covers, NarrowLaw, narrowed}
use Rattle.local_runs.proofs.Locals.{ap₃}
use Rattle.local_runs.proofs.LocalRuns.{Alike, run_alike}

module _ (d : Design) (s : Stmt) (v : StoreView) (m : ℕ → Bool) (covers : Covers m s) where
  abbrev less : StoreView
  less = narrowed m v

  -- what is read of what passes the test
  same_seen : (c : Cell) → m c.thing ≡ true → seen_of less c ≡ seen_of v c
  same_seen c e = ap (λ b. if b && v.hidden c.thing then v.shown c else v.kept c) e

  abbrev after : StoreView → State
  after w = clean_run d s (shown_of (own_store w))

  alike : Alike d m (after less) (after v)
  alike =
      run_alike d m s (λ x e. covers x (or_left (body_mentions x s) (body_assigns x s) e)) None (started (shown_of (own_store less))) (started (shown_of (own_store v)))
      (record { things = λ x e. record { kept = λ c at. same_seen c (ap m at ∙ e); blame = refl; wrote = refl }; first = refl; queue = refl; marks = refl })

  kept_at : (c : Cell) (b : Bool) → m c.thing ≡ b → (strong_outcome d s (own_store less) quiet).kept c ≡ (strong_outcome d s (own_store v) quiet).kept c
  kept_at c true e =
      ap (λ b. if b && v.hidden c.thing then v.kept c else (after less).kept c) e
      ∙ ap (λ z. if v.hidden c.thing then v.kept c else z) ((alike.things c.thing e).kept c refl)
  kept_at c false e =
      let free : body_assigns c.thing s ≡ false = false_from_ne_true _ (λ h. false≢true (sym e ∙ covers c.thing (or_right (body_mentions c.thing s) (body_assigns c.thing s) h))) in
      (frame d s (own_store less) quiet c free).0 ∙ sym (frame d s (own_store v) quiet c free).0

  strong_same : (how : Certainty) → strong_outcome d s (own_store less) how ≡ strong_outcome d s (own_store v) how
  strong_same how =
      ap₃ (λ k q ms. record { kept = k; queue = q; notes = notes_of how ms }) (fun_ext (λ c. kept_at c (m c.thing) refl)) alike.queue alike.marks

  outcome_same : (how : Certainty) → outcome d s (own_store less) how ≡ outcome d s (own_store v) how
  outcome_same (clean time) = strong_same (clean time)
  outcome_same quiet = strong_same quiet
  outcome_same (perhaps time thing) = strong_same (perhaps time thing)
  outcome_same (weak time thing) = refl

pub narrow_law : NarrowLaw
narrow_law d p v m how covers = outcome_same d (Rattle.design_model.specs.Design.body_at d p) v m covers how
