-- The runs of the processes of a design, in which each signal and memory is blamed by its own number, and what they promise.
use Rattle.design_model.specs.Paths.{ReadsUnwritten}
use Rattle.std.specs.Prelude.{◌≡◌, ◌⊎◌, ℕ, Bool, true, false, if◌then◌else◌, List, [], ◌∷◌, ◌++◌, Option, Some, None, ⊤}
use Rattle.design_model.specs.event_machine.Cell.{Cell, Values, put_all}
use Rattle.design_model.specs.four_state.declared.bit.Bit.{Bit}
use Rattle.design_model.specs.Design.{Design, body_at}
use Rattle.design_model.specs.Mentions.{blocking_target, body_mentions, has_cell, nonblocking_target}
use Rattle.design_model.specs.Execution.{Visit, execution}
use Rattle.design_model.specs.Reads.{Agrees, ReadsWithin, VisitsFrom}
use Rattle.design_model.specs.declared.point.Point.{Point}
use Rattle.design_model.specs.Lawful.{IsLawfulDesign}
use Rattle.design_model.specs.Open.{IsOpen, IsSurelyOpen}
use Rattle.body_replay.specs.KnownBits.{Allows}
use Rattle.body_replay.specs.Store.{AllowsState, Kept}
use Rattle.body_replay.specs.Replay.{Spot, Visited, flush, spot_of}
use Rattle.body_replay.specs.Contract.{Arises, Certainty, Doubted, HasHitNote, IsStrong, IsUnsure, Note, Outcome, Store, all_written, clean, flushed, outcome, perhaps, quiet, spot_at, sure_in, weak}

-- a store as bodies meet it: what is kept of each cell, and the things of which they read something else
pub record StoreView : Type 0 where
  pub kept : Kept
  pub hidden : ℕ → Bool  -- shown or veiled
  pub shown : Kept

-- what bodies read
abbrev pub seen_of : StoreView → Kept
seen_of st c = if st.hidden c.thing then st.shown c else st.kept c

-- the store in which each thing is to blame for itself
abbrev pub own_store : StoreView → Store
own_store st = record { kept = st.kept; blame = λ x. x; hidden = st.hidden; shown = st.shown }

-- the runs of the processes of a design, each as a function of the store
abbrev pub Runs : Type 0
Runs = ℕ → StoreView → Certainty → Outcome

-- the runs of the bodies of a design
abbrev pub runs_of : Design → Runs
runs_of d p st how = outcome d (body_at d p) (own_store st) how

-- this doubt of the spot is noted
abbrev pub HasDoubtNote : Spot → Doubted → List Note → Type 0
HasDoubtNote x y [] = ⊥
HasDoubtNote x y (n ∷ ns) = ((n.spot ≡ x) × (n.doubt ≡ Some y)) ⊎ HasDoubtNote x y ns

-- what the runs promise to the replay of a dump
pub record AreRuns (d : Design) (run : Runs) : Type 0 where
  -- what is written on a state that is allowed as bodies read it is allowed after the flush; what is not stays allowed as kept
  pub writes_sound : (p : ℕ) (st : StoreView) (how : Certainty) → IsStrong how → (v k : Values Bit) → AllowsState (seen_of st) v
      → AllowsState st.kept k → (c : Cell) → st.hidden c.thing ≡ false
      → Allows (flushed (run p st how) c) (put_all k (all_written d (body_at d p) v) c)
  -- a hit is visited on every agreeing state
  pub hits_sound : (p : ℕ) (st : StoreView) (time : ℕ) (x : Spot) → HasHitNote x (run p st (clean time)).notes → (v : Values Bit)
      → AllowsState (seen_of st) v → Visited x (execution d (body_at d p) v).visits
  -- what is visited on some agreeing state is hit or in doubt
  pub visits_marked : (p : ℕ) (st : StoreView) (time : ℕ) (v : Values Bit) → AllowsState (seen_of st) v → (x : Spot)
      → Visited x (execution d (body_at d p) v).visits
      → HasHitNote x (run p st (clean time)).notes ⊎ ((y : Doubted) × HasDoubtNote x y (run p st (clean time)).notes)
  -- what is visited up to the first read that is not wholly sure is hit
  pub prefix_hit : (p : ℕ) (st : StoreView) (time : ℕ) (x : Spot) (y : Visit) → spot_of y ≡ Some x → VisitsFrom d (sure_in d (seen_of st)) (body_at d p) y → HasHitNote x (run p st (clean time)).notes
  -- where every read is wholly sure no doubt is noted
  pub no_doubt : (p : ℕ) (st : StoreView) (time : ℕ) → ((v : Values Bit) × Agrees d (sure_in d (seen_of st)) v)
      → ReadsWithin d (sure_in d (seen_of st)) (body_at d p) → (x : Spot) (y : Doubted) → HasDoubtNote x y (run p st (clean time)).notes → ⊥
  -- and each bit that is written is sure after the flush, and no other bit that is kept changes
  pub sure_written : (p : ℕ) (st : StoreView) (how : Certainty) → IsStrong how → (v : Values Bit) → Agrees d (sure_in d (seen_of st)) v
      → ReadsWithin d (sure_in d (seen_of st)) (body_at d p) → (c : Cell) → st.hidden c.thing ≡ false
      → has_cell (all_written d (body_at d p) v) c ≡ true → flushed (run p st how) c ≡ Some (put_all v (all_written d (body_at d p) v) c)
  pub sure_kept : (p : ℕ) (st : StoreView) (how : Certainty) → IsStrong how → (v : Values Bit) → Agrees d (sure_in d (seen_of st)) v
      → ReadsWithin d (sure_in d (seen_of st)) (body_at d p) → (c : Cell) → st.hidden c.thing ≡ false
      → has_cell (all_written d (body_at d p) v) c ≡ false → flushed (run p st how) c ≡ st.kept c
  -- a run by itself changes only cells that a blocking assignment may write, its queued writes only those that a nonblocking one may
  pub frame : (p : ℕ) (st : StoreView) (how : Certainty) (c : Cell) → blocking_target d (body_at d p) c ≡ false → (run p st how).kept c ≡ st.kept c
  pub frame_queue : (p : ℕ) (st : StoreView) (how : Certainty) (c : Cell) → nonblocking_target d (body_at d p) c ≡ false → (k : Kept) → flush k (run p st how).queue c ≡ k c
  -- what is noted depends on what is read of the things that the body mentions alone
  pub local : (p : ℕ) (st st' : StoreView) (how : Certainty) → ((c : Cell) → body_mentions c.thing (body_at d p) ≡ true → seen_of st c ≡ seen_of st' c) → (run p st how).notes ≡ (run p st' how).notes
  -- the thing of a doubt is a signal or memory that is not wholly sure as bodies read it, and that some path reads
  pub blames : (p : ℕ) (st : StoreView) (time : ℕ) (x : Spot) (y : Doubted) → HasDoubtNote x y (run p st (clean time)).notes
      → (y.time ≡ time) × IsUnsure d (seen_of st) y.thing × ReadsUnwritten d (body_at d p) y.thing
  -- what is surely open is hit, and what gets a doubt is open
  pub surely_open_hit : (p : ℕ) (st : StoreView) (time : ℕ) (q : Point) (x : Spot) → spot_at q ≡ Some x
      → IsSurelyOpen d (sure_in d (seen_of st)) (body_at d p) q → HasHitNote x (run p st (clean time)).notes
  pub doubt_open : (p : ℕ) (st : StoreView) (time : ℕ) (q : Point) (x : Spot) (y : Doubted) → spot_at q ≡ Some x
      → HasDoubtNote x y (run p st (clean time)).notes → IsOpen d (sure_in d (seen_of st)) (body_at d p) q
  -- quiet notes nothing
  pub quiet_notes : (p : ℕ) (st : StoreView) → (run p st quiet).notes ≡ []
  -- perhaps: no hit; what is visited on an agreeing state is in doubt by the thing; what gets a doubt is open
  pub perhaps_no_hit : (p : ℕ) (st : StoreView) (time thing : ℕ) (x : Spot) → HasHitNote x (run p st (perhaps time thing)).notes → ⊥
  pub perhaps_marked : (p : ℕ) (st : StoreView) (time thing : ℕ) (v : Values Bit) → AllowsState (seen_of st) v → (x : Spot)
      → Visited x (execution d (body_at d p) v).visits → HasDoubtNote x (record { time = time; thing = thing }) (run p st (perhaps time thing)).notes
  pub perhaps_open : (p : ℕ) (st : StoreView) (time thing : ℕ) (q : Point) (x : Spot) (y : Doubted) → spot_at q ≡ Some x
      → HasDoubtNote x y (run p st (perhaps time thing)).notes
      → (y ≡ record { time = time; thing = thing }) × IsOpen d (sure_in d (seen_of st)) (body_at d p) q
  -- weak: all that arises is allowed after the flush; no hit; what is visited on any state is in doubt by the thing
  pub weak_sound : (p : ℕ) (st : StoreView) (time thing : ℕ) (k w : Values Bit) → AllowsState st.kept k → Arises d (body_at d p) k w → AllowsState (flushed (run p st (weak time thing))) w
  pub weak_no_hit : (p : ℕ) (st : StoreView) (time thing : ℕ) (x : Spot) → HasHitNote x (run p st (weak time thing)).notes → ⊥
  pub weak_marked : (p : ℕ) (st : StoreView) (time thing : ℕ) (v : Values Bit) (x : Spot) → Visited x (execution d (body_at d p) v).visits
      → HasDoubtNote x (record { time = time; thing = thing }) (run p st (weak time thing)).notes
  pub weak_as_told : (p : ℕ) (st : StoreView) (time thing : ℕ) (x : Spot) (y : Doubted) → HasDoubtNote x y (run p st (weak time thing)).notes → y ≡ record { time = time; thing = thing }

-- The runs of the bodies of a lawful design are such runs.
abbrev pub RunsLaw : Type 0
RunsLaw = (d : Design) → IsLawfulDesign d → AreRuns d (runs_of d)
