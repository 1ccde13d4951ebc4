-- A replay over the times that the dump does not list.
use Rattle.std.proofs.Common.{◌≡◌, ◌-◌, ◌+◌, ℕ, suc, ◌<◌, ◌≤◌, false, [], IfErr, OnOk, Err, Result, refl, sym, subst, inl, inr, arith}
use Rattle.std.proofs.lemmas.Bool.{false_from_ne_true}
use Rattle.design_model.specs.Shows.{BoundDump, IsListed, IsWindow}
use Rattle.hidden_times.proofs.Listed.{listed_law}
use Rattle.hidden_times.specs.Hidden.{IsCalm, is_listed}
use Rattle.replay_follows.proofs.Steps.{stays}
use Rattle.first_step.specs.step_values.Dumped.{AreDumped}
use Rattle.process_order.proofs.Distinct.{contains_in}
use Rattle.wake_laws.specs.Laws.{habit_of}
use Rattle.replay_core.specs.Codes.{flags_of}
use Rattle.replay_core.specs.Faults.{IsContradiction}
use Rattle.replay_core.specs.Fits.{HasInputs}
use Rattle.replay_core.specs.Followed.{AreGivenAt, AreHidden, HasFollowed, IsStepAt}
use Rattle.replay_core.specs.Made.{subject_of}
use Rattle.replay_core.specs.Parts.{HasRefused, given_of, made_of, parts_of}
use Rattle.replay_core.specs.Steps.{CountsSensitive, IsSensitive}
use Rattle.replay_core.specs.declared.fault.ReplayFault.{ReplayFault}
use Rattle.replay_core.specs.declared.replay.Replay.{Replay}
use Rattle.replay_core.proofs.ClosingStep.{err_then, ok_then}
use Rattle.replay_core.proofs.Inputs.{binds_inputs}
use Rattle.step_start.proofs.Members.{all_of}

-- where nothing moves, the dump is followed up to the time before the next one
pub resting : (y : Replay) (t time : ℕ) → t < time → (dump : BoundDump) → HasFollowed y dump t → AreHidden dump t time → IsCalm (made_of y).design dump t → HasFollowed y dump (time - 1)
resting y t time later dump followed hidden calm =
    let n : ℕ = time - suc t in
    let end : t + n ≡ time - 1 = omega (arith, later) in
    let gap : (u : ℕ) → t < u → u ≤ t + n → IsWindow dump u × (IsListed dump u → ⊥) =
    λ u after within. (hidden.window u after (omega (arith, within, later)), hidden.unlisted u after (omega (arith, within, later))) in
    subst (HasFollowed y dump) end (record {
      dumped = followed.dumped;
      started = followed.started;
      replay = followed.replay;
      follows = record {
        parts = stays (subject_of (made_of y) dump) t n followed.replay (parts_of y).parts calm gap followed.follows.parts;
        words = followed.follows.words;
      };
    })

-- so it is where each input has a code
pub inputs_rest : (y : Replay) (t time : ℕ) → HasInputs (made_of y).design.signals (flags_of (made_of y).codes) → (dump : BoundDump) → HasFollowed y dump t → AreHidden dump t time → HasFollowed y dump (time - 1)
inputs_rest y t time has dump followed hidden =
    resting y t time hidden.later dump followed hidden (inl (binds_inputs (made_of y).design (made_of y).codes dump followed.dumped.bound has))

-- where the next time follows at once there is nothing to do
pub next_rests : (y : Replay) (t time : ℕ) → suc t ≡ time → (dump : BoundDump) → HasFollowed y dump t → HasFollowed y dump (time - 1)
next_rests y t time same dump followed = let end : t ≡ time - 1 = omega (arith, same) in subst (HasFollowed y dump) end followed

module _ (x : Replay) (t time first : ℕ) (is : first ≡ suc t) (next : first < time) (dump : BoundDump) (followed : HasFollowed x dump t) (hidden : AreHidden dump t time) (given : AreGivenAt x dump t) where
  unlisted : IsListed dump (suc t) → ⊥
  unlisted = hidden.unlisted (suc t) (omega arith) (omega (arith, is, next))

  -- the first of the times between is one that the dump does not list
  pub hidden_step : IsStepAt dump t first false
  hidden_step = record {
    next = is;
    kind = subst (λ u. is_listed dump u ≡ false) (sym is) (false_from_ne_true _ (λ e. unlisted ((listed_law dump (suc t)).0 e)));
    window = hidden.window first (omega (arith, is)) next;
  }

  -- at which the dump has the values that it had
  pub given_still : AreGivenAt x dump first
  given_still =
      subst (λ u. AreGivenAt x dump u) (sym is)
      (subst (λ v. AreDumped (made_of x).design (made_of x).codes (given_of x) v) (sym (followed.dumped.fits.stays t unlisted)) given)

  -- once its step is closed, so are the others
  pub hidden_rest : (y : Replay) → HasFollowed y dump first → HasFollowed y dump (time - 1)
  hidden_rest y one =
      resting y first time next dump one (record {
        later = next;
        window = λ u after. hidden.window u (omega (arith, after, is));
        unlisted = λ u after. hidden.unlisted u (omega (arith, after, is));
      }) (inr (λ at. unlisted (subst (IsListed dump) is at)))

module _ {A : Type 0} (x y : Replay) (t time first : ℕ) (is : first ≡ suc t) (next : first < time) (r : Result A ReplayFault) where
  pub rest_followed : OnOk r ((dump : BoundDump) (u : ℕ) → HasFollowed x dump u → IsStepAt dump u first false → AreGivenAt x dump first → HasFollowed y dump first)
      → OnOk r ((dump : BoundDump) → HasFollowed x dump t → AreHidden dump t time → AreGivenAt x dump t → HasFollowed y dump (time - 1))
  rest_followed closed = ok_then r closed (λ each dump followed hidden given.
      hidden_rest x t time first is next dump followed hidden given y
      (each dump t followed (hidden_step x t time first is next dump followed hidden given) (given_still x t time first is next dump followed hidden given)))

  pub rest_refuted : IfErr r (λ fault. (dump : BoundDump) (u : ℕ) → HasFollowed x dump u → IsStepAt dump u first false → AreGivenAt x dump first
      → IsContradiction (made_of x).design (habit_of (made_of x).habit) dump first fault)
      → IfErr r (λ fault. (dump : BoundDump) → HasFollowed x dump t → AreHidden dump t time → AreGivenAt x dump t
      → (suc t < time) × IsContradiction (made_of x).design (habit_of (made_of x).habit) dump (suc t) fault)
  rest_refuted refutes = err_then r refutes (λ fault each dump followed hidden given. (
    omega (arith, is, next),
    subst (λ u. IsContradiction (made_of x).design (habit_of (made_of x).habit) dump u fault) is
        (each dump t followed (hidden_step x t time first is next dump followed hidden given) (given_still x t time first is next dump followed hidden given)),
  ))

  pub rest_counts : (before after : ℕ) → ((dump : BoundDump) (u : ℕ) → HasFollowed x dump u → IsStepAt dump u first false → AreGivenAt x dump first → CountsSensitive (made_of x).design dump first before after)
      → (dump : BoundDump) → HasFollowed x dump t → AreHidden dump t time → AreGivenAt x dump t → CountsSensitive (made_of x).design dump (suc t) before after
  rest_counts before after counts dump followed hidden given =
      subst (λ u. CountsSensitive (made_of x).design dump u before after) is
      (counts dump t followed (hidden_step x t time first is next dump followed hidden given) (given_still x t time first is next dump followed hidden given))

-- a step that was refused before is refused again
pub refused_again : {A : Type 0} (r : Result A ReplayFault) (x y : Replay) → ((fault : ReplayFault) → HasRefused x fault → (r ≡ Err fault) × (y ≡ x)) → (fault : ReplayFault) → HasRefused x fault → IfErr r (λ now. now ≡ fault) × (y ≡ x)
refused_again r x y again fault refused = let both = again fault refused in (subst (λ s. IfErr s (λ now. now ≡ fault)) (sym both.0) refl, both.1)

-- no body runs
pub counts_none : (x : Replay) (dump : BoundDump) (t count : ℕ) → CountsSensitive (made_of x).design dump t count count
counts_none x dump t count = record {
  processes = [];
  once = tt;
  sensitive = all_of (IsSensitive (made_of x).design dump t) [] (λ p at. absurd (contains_in p [] at));
  counted = (let none : count ≡ count + 0 = omega arith in none);
}
