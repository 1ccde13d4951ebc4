-- Nothing is in doubt for a point of the design.
use Rattle.std.proofs.Common.{◌≡◌, ◌⊎◌, inl, inr, ⊎_elim, ℕ, zero, suc, ◌+◌, ◌-◌, ◌*◌, ◌<◌, Bool, true, false, List, [], ◌∷◌, refl, subst, ◌∙◌, arith}
use Rattle.std.proofs.lemmas.Bool.{false≢true, lt-ltb}
use Rattle.event_machine.specs.Habit.{Free}
use Rattle.design_model.specs.Clear.{clear_before}
use Rattle.design_model.specs.Design.{In, Thing, a_signal, a_word, body_at, cell}
use Rattle.design_model.specs.Doubt.{BlockDoubt, IsInDoubt, IsPointOn, UnclearAtStart, not_clean, of_block, of_signal, own_target, read_early, unclear_at_start, unclear_signal, unclear_word}
use Rattle.design_model.specs.Early.{IsEarlyAt}
use Rattle.design_model.specs.Execution.{Visit, execution, reads}
use Rattle.design_model.specs.Open.{KnownOnEntry}
use Rattle.design_model.specs.declared.point.Point.TheVariants.{Line as line_point, Logic as logic_point, Toggle as toggle_point, State as state_point, Arc as arc_point, Word as word_point}
use Rattle.design_model.specs.Reads.{HasValue, PartialMap, ReadsWithin, UpToOutside, VisitsFrom}
use Rattle.design_model.specs.Shows.{BoundDump, IsWindow}
use Rattle.design_model.specs.declared.point.Point.{Point}
use Rattle.design_model.proofs.Definite.{bound_point_law}
use Rattle.state_machines.specs.Drawn.{IsPointWith}
use Rattle.state_machines.specs.Machines.{no_machines}
use Rattle.selfrun_design.specs.Selfrun.{selfrun}
use Rattle.selfrun_files.specs.Moments.{inputs_in}
use Rattle.selfrun_runs.specs.Says.{SaysSelfrun}
use Rattle.selfrun_runs.proofs.Body.{read_visits, write_visits}
use Rattle.selfrun_runs.proofs.Registers.{a_below, read_late}
use Rattle.selfrun_doubts.specs.Certain.{CertainLaw}
use Rattle.selfrun_doubts.proofs.Known.{KnowsStart, is_reading, is_writing, within}
use Rattle.selfrun_doubts.proofs.Wakes.{IsEdge, clean, edge_of, none_early, only_clk}
use Rattle.selfrun_doubts.proofs.Words.{WordsAt, at_low, signal_clear}

-- what is visited up to a read outside is visited
up_to_in : (K : PartialMap) (x : Visit) (ys : List Visit) → UpToOutside K x ys → In x ys
up_to_in K x [] h = absurd h
up_to_in K x (y ∷ ys) (inl e) = inl e
up_to_in K x (y ∷ ys) (inr h) = inr (up_to_in K x ys h.1)

-- the thing is a signal
abbrev IsSignalThing : Thing → Type 0
IsSignalThing x = (s : ℕ) × (s < 6) × (a_signal s ≡ x)

-- where a word is written, signals alone are read
read_writing : (a : ℕ) (x : Thing) → In (reads x false) (write_visits a) → IsSignalThing x
read_writing a x (inl e) = absurd cc
read_writing a x (inr (inl e)) = (3, omega arith, cc)
read_writing a x (inr (inr (inl e))) = absurd cc
read_writing a x (inr (inr (inr (inl e)))) = (1, omega arith, cc)
read_writing a x (inr (inr (inr (inr (inl e))))) = absurd cc
read_writing a x (inr (inr (inr (inr (inr (inl e)))))) = absurd cc
read_writing a x (inr (inr (inr (inr (inr (inr (inl e))))))) = (2, omega arith, cc)
read_writing a x (inr (inr (inr (inr (inr (inr (inr (inl e)))))))) = (5, omega arith, cc)
read_writing a x (inr (inr (inr (inr (inr (inr (inr (inr (inl e))))))))) = absurd cc
read_writing a x (inr (inr (inr (inr (inr (inr (inr (inr (inr none))))))))) = absurd none

-- where a word is read, signals and this word
read_reading : (a : ℕ) (x : Thing) → In (reads x false) (read_visits a) → IsSignalThing x ⊎ (a_word 6 a ≡ x)
read_reading a x (inl e) = absurd cc
read_reading a x (inr (inl e)) = inl (3, omega arith, cc)
read_reading a x (inr (inr (inl e))) = absurd cc
read_reading a x (inr (inr (inr (inl e)))) = inl (1, omega arith, cc)
read_reading a x (inr (inr (inr (inr (inl e))))) = absurd cc
read_reading a x (inr (inr (inr (inr (inr (inl e)))))) = absurd cc
read_reading a x (inr (inr (inr (inr (inr (inr (inl e))))))) = inl (2, omega arith, cc)
read_reading a x (inr (inr (inr (inr (inr (inr (inr (inl e)))))))) = inr cc
read_reading a x (inr (inr (inr (inr (inr (inr (inr (inr none)))))))) = absurd none

module _ (number steps : ℕ) (dump : BoundDump) (says : SaysSelfrun number steps dump) where
  module _ (t k : ℕ) (edge : IsEdge number steps dump says t k) where
    abbrev before : PartialMap
    before = clear_before selfrun Free dump t

    start_words : WordsAt number steps dump says (t - 1) k
    start_words = subst (λ x. WordsAt number steps dump says x k) (let same : 10 * k + 4 ≡ t - 1 = omega (arith, edge.is) in same) (at_low number steps dump says k 4 edge.inside (omega arith))

    knows : KnowsStart number dump t k (clear_before selfrun Free dump t)
    knows = record { signals = λ s below. signal_clear number steps dump says (t - 1) s (omega (arith, edge.is, edge.inside)) below; words = start_words }

    -- what the block knows is known by its only trigger
    abbrev K : PartialMap
    K = KnownOnEntry selfrun Free dump t 0

    clear_signal : (x : Thing) → IsSignalThing x → HasValue before x
    clear_signal x is = subst (HasValue before) is.2 (_, knows.signals is.0 is.1)

    -- it reads nothing that is not clear at the start
    reads_clear : (x : Thing) → VisitsFrom selfrun K (body_at selfrun 0) (reads x false) → HasValue before x
    reads_clear x visit = go (inputs_in number k).we refl
      where
        inside : In (reads x false) (execution selfrun (body_at selfrun 0) visit.0).visits
        inside = up_to_in K (reads x false) _ visit.2

        go : (b : Bool) → (inputs_in number k).we ≡ b → HasValue before x
        go true we =
            clear_signal x (read_writing (inputs_in number k).a x
            (subst (In (reads x false)) (is_writing number steps dump says t k edge before knows K (λ y bits e. (cell 0 0, clean number steps dump says t k edge, e)) visit.0 visit.1 we).visited inside))
        go false we =
            ⊎_elim (clear_signal x) (λ is. subst (HasValue before) is (_, start_words (inputs_in number k).a (a_below number k) (omega (arith, a_below number k, read_late number k we))))
            (read_reading (inputs_in number k).a x
            (subst (In (reads x false)) (is_reading number steps dump says t k edge before knows K (λ y bits e. (cell 0 0, clean number steps dump says t k edge, e)) visit.0 visit.1 we).visited inside))

    within_known : ReadsWithin selfrun K (body_at selfrun 0)
    within_known = within number steps dump says t k edge before knows K (λ y bits e. (cell 0 0, clean number steps dump says t k edge, e))

    no_unclear : (s : ℕ) → UnclearAtStart selfrun Free dump t s 0 → ⊥
    no_unclear s u = ⊎_elim (λ visit. u.unclear (reads_clear u.thing visit)) (λ rest. rest.0 within_known) u.is_read

  -- no signal or memory is in doubt for a block
  no_block_doubt : (t s p : ℕ) → IsWindow dump t → BlockDoubt selfrun Free dump t s p → ⊥
  no_block_doubt t s zero window (unclear_at_start u) = let at = edge_of number steps dump says t window u.can_wake in no_unclear t at.0 at.1 s u
  no_block_doubt t s zero window (read_early r) =
      let at = edge_of number steps dump says t window (r.trigger, r.is_clean.can_wake) in
      none_early number steps dump says t at.0 at.1 s (subst (λ c. IsEarlyAt selfrun Free dump t 0 c s) (only_clk number steps dump says t r.trigger r.is_clean) r.is_early)
  no_block_doubt t s zero window (not_clean w) =
      let at = edge_of number steps dump says t window (w.event, w.can_wake) in
      w.not_clean (cell 0 0) (clean number steps dump says t at.0 at.1)
  no_block_doubt t s zero window (unclear_signal u) = u.not_clocked tt
  no_block_doubt t s zero window (unclear_word u) = u.not_clocked tt
  no_block_doubt t s zero window (own_target o) = o.is_comb
  no_block_doubt t s (suc p) window (unclear_at_start u) = false≢true u.can_wake.1.0.1
  no_block_doubt t s (suc p) window (read_early r) = false≢true r.is_clean.can_wake.0.1
  no_block_doubt t s (suc p) window (not_clean w) = false≢true w.can_wake.0.1
  no_block_doubt t s (suc p) window (unclear_signal u) = false≢true u.wake_bit.2.0
  no_block_doubt t s (suc p) window (unclear_word u) = false≢true u.mentioned
  no_block_doubt t s (suc p) window (own_target o) = false≢true o.target

  -- a point on a signal is on one of the six
  signal_point : (x : Point) (s : ℕ) → IsPointWith selfrun no_machines x → IsPointOn x s → s < 6
  signal_point (toggle_point q i rise) s is on = subst (λ y. y < 6) on is.0
  signal_point (state_point i name q state v) s (inl is) on = absurd is.1
  signal_point (state_point i name q state v) s (inr is) on = absurd is.1
  signal_point (arc_point i name q from to v w) s (inl is) on = absurd is.1
  signal_point (arc_point i name q from to v w) s (inr is) on = absurd is.1
  signal_point (line_point p n at w) s is on = absurd on
  signal_point (logic_point p n at op c) s is on = absurd on
  signal_point (word_point m i write) s is on = absurd on

  certain : (x : Point) → IsPointWith selfrun no_machines x → (t s : ℕ) → IsInDoubt selfrun Free dump x t s → ⊥
  certain x is t s (of_block p window block_is open_is doubt) = no_block_doubt t s p window doubt
  certain x is t s (of_signal window on may_move unclear) =
      let below = signal_point x s is on in
      bound_point_law selfrun Free dump x s on below (says.bound s ∙ lt-ltb s 6 below) t s (of_signal window on may_move unclear)

pub certain_law : CertainLaw
certain_law number steps dump says x is t s doubt = certain number steps dump says x is t s doubt
