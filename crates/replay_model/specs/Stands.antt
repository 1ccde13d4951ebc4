-- What holds of the replay once it has closed the steps of a dump up to a time.
use Rattle.std.specs.Prelude.{◌≡◌, ◌⊎◌, ◌≤◌, ◌&&◌, ◌||◌, not, if◌then◌else◌, ℕ, Bool, false, true, List, Some, None}
use Rattle.event_machine.specs.Cell.{Cell, Values, put_all}
use Rattle.event_machine.specs.Habit.{Habit}
use Rattle.design_model.specs.four_state.declared.bit.Bit.{Bit}
use Rattle.design_model.specs.declared.point.Point.{Point}
use Rattle.design_model.specs.Design.{Design, In, IsComb, Thing, body_at, process_at, signal_bits}
use Rattle.design_model.specs.Mentions.{body_assigns, has_cell}
use Rattle.design_model.specs.Machine.{machine}
use Rattle.design_model.specs.Reads.{Agrees, ReadsWithin}
use Rattle.design_model.specs.Run.{Run, settled}
use Rattle.design_model.specs.Shows.{BoundDump, IsShowing, IsWindow}
use Rattle.design_model.specs.StepLaws.{IsLeft}
use Rattle.design_model.specs.Points.{IsHitAt}
use Rattle.design_model.specs.Clear.{HasChanged, IsForced, clear}
use Rattle.design_model.specs.Open.{IsReached}
use Rattle.design_model.specs.Doubt.{IsInDoubt}
use Rattle.hidden_times.specs.Hidden.{IsSameTime}
use Rattle.body_replay.specs.Contract.{Doubted, all_written, sure_in}
use Rattle.body_replay.specs.Store.{AllowsState, Kept}
use Rattle.replay_model.specs.Tables.{Tables}
use Rattle.replay_model.specs.Marks.{IsDoubtMarked, IsHitMarked}
use Rattle.replay_model.specs.Step.{Replay, is_comb}

-- what is known except the targets of p: of a Comb all, of an Assign those that are unbound
abbrev pub made_kept : Design → (ℕ → Bool) → ℕ → Kept → Kept
made_kept d bound p k c = if body_assigns c.thing (body_at d p) && (is_comb (process_at d p) || not (bound c.thing)) then None else k c

-- where all that p reads is sure, so is each bit that it writes, with its value
abbrev pub IsMade : Design → (ℕ → Bool) → ℕ → Kept → Type 0
IsMade d bound p k =
    (v : Values Bit) → Agrees d (sure_in d (made_kept d bound p k)) v → ReadsWithin d (sure_in d (made_kept d bound p k)) (body_at d p) → (c : Cell)
    → has_cell (all_written d (body_at d p) v) c ≡ true
    → k c ≡ Some (put_all v (all_written d (body_at d p) v) c)

-- what is sound in the replay, after its closed steps up to time t of the dump, of a design with these points; a hidden time t represents the hidden
-- times after it, up to the next listed one
pub record IsSound (d : Design) (h : Habit) (dump : BoundDump) (points : List Point) (t : ℕ) (a : Replay) : Type 0 where
  -- in each run that shows the dump up to t, or up to a time that is the same, the settled values are allowed
  pub allows : (r : Run) (v : ℕ) → IsSameTime dump t v → IsShowing d h dump v r → AllowsState a.kept (settled d r v)
  -- a Comb that has acted has left its targets so
  pub acted : (r : Run) (v : ℕ) → IsSameTime dump t v → IsShowing d h dump v r → (p : ℕ) → IsComb (process_at d p) → a.acted p ≡ true → IsLeft d p (settled d r v)
  -- a point that was reported to be hit is hit in each such run
  pub hits : (x : Point) → IsHitMarked d x a.notes → (r : Run) → IsShowing d h dump t r → (u : ℕ) × IsWindow dump u × (u ≤ t) × IsHitAt d dump r x u
  -- a point that is hit in such a run was reported to be hit, or to be in doubt at that time or one that is the same
  pub marked : (x : Point) → In x points → (r : Run) (v : ℕ) → IsSameTime dump t v → IsShowing d h dump v r → (u : ℕ) → IsWindow dump u → u ≤ v → IsHitAt d dump r x u
      → IsHitMarked d x a.notes ⊎ ((y : Doubted) × IsSameTime dump y.time u × IsDoubtMarked d x y a.notes)
  -- nothing is known of an input that the dump lacks
  pub unknown : (c : Cell) → (machine d).is_input c ≡ true → dump.bound c.thing ≡ false → a.kept c ≡ None

-- what is known in it: what is clear is sure
pub record AreKnown (d : Design) (h : Habit) (dump : BoundDump) (tables : Tables) (t : ℕ) (a : Replay) : Type 0 where
  -- what is clear is wholly sure
  pub is_clear : (x : Thing) (bits : List Bit) → clear d h dump t x bits → sure_in d a.kept x bits
  -- a Comb of which a bound signal that it mentions has changed has acted
  pub has_acted : (p : ℕ) → IsComb (process_at d p) → HasChanged dump d (body_at d p) t → a.acted p ≡ true
  -- each process of the order has made what it may
  pub made : (p : ℕ) → In p tables.order → (IsComb (process_at d p) → a.acted p ≡ true) → IsMade d dump.bound p a.kept

-- no forced value differs from the dump's up to t
abbrev pub AreForced : Design → Habit → BoundDump → ℕ → Type 0
AreForced d h dump t = (u s : ℕ) (bits : List Bit) → u ≤ t → IsForced d h dump u s bits → signal_bits d (dump.values u) s ≡ bits

-- what it reports is reasoned
pub record AreReasoned (d : Design) (h : Habit) (dump : BoundDump) (t : ℕ) (a : Replay) : Type 0 where
  -- each doubt that was reported is one
  pub doubts : (x : Point) (y : Doubted) → IsDoubtMarked d x y a.notes → IsWindow dump y.time × (y.time ≤ t) × IsInDoubt d h dump x y.time y.thing
  -- each point that is reached was reported to be hit
  pub reached : (u p : ℕ) (x : Point) → u ≤ t → IsReached d h dump u p x → IsHitMarked d x a.notes

-- all that holds of the replay up to time t of the dump
pub record Stands (d : Design) (h : Habit) (dump : BoundDump) (tables : Tables) (points : List Point) (t : ℕ) (a : Replay) : Type 0 where
  pub sound : IsSound d h dump points t a
  pub known : AreKnown d h dump tables t a
  pub reasoned : AreReasoned d h dump t a
  pub forced : AreForced d h dump t
