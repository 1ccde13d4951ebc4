-- The replay of one closing step, as a function: of what the replay knows at the start of the step, of what may move in
-- it, and of what the dump says at its end.
use Rattle.std.specs.Prelude.{ℕ, Bool, true, false, not, ◌==◌, ◌&&◌, ◌||◌, if◌then◌else◌, nat_le, nat_lt, List, [], ◌∷◌, ◌++◌, map, length, Option, Some, None}
use Rattle.std.specs.List.{list_all, list_any, range_with_len}
use Rattle.event_machine.specs.Cell.{Cell, Values}
use Rattle.design_model.specs.four_state.Vector.{same_bit}
use Rattle.design_model.specs.four_state.declared.bit.Bit.{Bit}
use Rattle.design_model.specs.four_state.declared.bit.Bit.TheVariants.{One, Zero}
use Rattle.design_model.specs.Tree.{Process, assign, clocked, comb}
use Rattle.design_model.specs.Design.{Design, body_at, process_at, signal_at, signal_cells}
use Rattle.design_model.specs.Mentions.{blocking_target, body_assigns, body_mentions, nonblocking_target}
use Rattle.design_model.specs.declared.point.Point.{Point}
use Rattle.design_model.specs.declared.point.Point.TheVariants.{Toggle as toggle_point, State as state_point, Arc as arc_point}
use Rattle.design_model.specs.Points.{toggle_cell}
use Rattle.body_replay.specs.Contract.{Certainty, Outcome, clean, perhaps, quiet, weak}
use Rattle.body_replay.specs.Replay.{flush}
use Rattle.body_replay.specs.Runs.{Runs, StoreView}
use Rattle.body_replay.specs.Store.{Kept, KnownWrite}
use Rattle.body_replay.specs.known_state.Join.{join_bit}
use Rattle.replay_model.specs.Sets.{Sets}
use Rattle.design_model.specs.BodyLaws.{all_cells}
use Rattle.replay_model.specs.Tables.{Tables}
use Rattle.replay_model.specs.Marks.{Marking, markings_by, of_point}

-- what the replay keeps from step to step
pub record Replay : Type 0 where
  pub kept : Kept  -- what is known of the settled values
  pub acted : ℕ → Bool  -- the Comb has surely acted in the window
  pub notes : List Marking  -- what was reported to the marks

-- a replay that has closed no step
abbrev pub new_replay : Replay
new_replay = record { kept = λ c. None; acted = λ p. false; notes = [] }

-- the replay once the dump has gone off: nothing is known of the values any more
abbrev pub forgotten : Replay → Replay
forgotten a = record a { kept = λ c. None }

-- the replay within a step
pub record Working : Type 0 where
  pub kept : Kept
  pub queue : List (List KnownWrite)
  pub made : Kept  -- what was made of each cell in this step, before the dump's value took its place
  pub acted : ℕ → Bool
  pub notes : List Marking

-- a bit that the dump has: of a signal that is bound
abbrev pub is_dumped : Design → (ℕ → Bool) → Cell → Bool
is_dumped d bound c = bound c.thing && nat_lt c.place (signal_at d c.thing).width

-- a process is a Comb
abbrev pub is_comb : Process → Bool
is_comb (assign i x t counted) = false
is_comb (comb i wakes s) = true
is_comb (clocked i events s) = false

-- a process is a Clocked
abbrev pub is_clocked : Process → Bool
is_clocked (assign i x t counted) = false
is_clocked (comb i wakes s) = false
is_clocked (clocked i events s) = true

-- the cell is one that the process may write
abbrev pub is_target : Design → ℕ → Cell → Bool
is_target d p c = blocking_target d (body_at d p) c || nonblocking_target d (body_at d p) c

-- whether two known bits surely differ
abbrev pub surely_differ : Option Bit → Option Bit → Bool
surely_differ (Some a) (Some b) = not (same_bit a b)
surely_differ _ _ = false

-- whether two known bits are surely the same
abbrev pub surely_same : Option Bit → Option Bit → Bool
surely_same (Some a) (Some b) = same_bit a b
surely_same _ _ = false

-- a step that is to be closed: of a design with these signals bound, by runs of its bodies, tables and sets, with what
-- the dump says at its end, and what the replay knew at its start
pub record Closing : Type 0 where
  pub design : Design
  pub bound : ℕ → Bool
  pub run : Runs
  pub tables : Tables
  pub sets : Sets
  pub time : ℕ
  pub listed : Bool  -- the dump lists the time
  pub new : Values Bit
  pub start : Replay

-- a store in which nothing is hidden
abbrev pub plain_store : Kept → StoreView
plain_store k = record { kept = k; hidden = λ x. false; shown = k }

-- a Comb meets its own targets as unknown
abbrev pub settled_kept : Design → ℕ → Kept → Kept
settled_kept d p k c = if is_comb (process_at d p) && body_assigns c.thing (body_at d p) then None else k c

-- those of the cells that the process does not itself assign
abbrev pub not_assigned : Design → ℕ → List Cell → List Cell
not_assigned d p [] = []
not_assigned d p (c ∷ cs) = if blocking_target d (body_at d p) c then not_assigned d p cs else c ∷ not_assigned d p cs

-- the cells of a thing at which a process is sensitive to changes
abbrev pub wake_cells : Design → ℕ → ℕ → List Cell
wake_cells d p x = not_assigned d p (all_cells d x)

-- a run is clean
abbrev pub is_clean_way : Certainty → Bool
is_clean_way (clean t) = true
is_clean_way _ = false

-- the bits of a signal, as they are known
abbrev pub known_bits : Design → Kept → ℕ → List (Option Bit)
known_bits d k s = map k (signal_cells d s)

-- whether known bits are surely these
abbrev pub are_surely : List (Option Bit) → List Bit → Bool
are_surely [] [] = true
are_surely (p ∷ ps) (b ∷ bs) = surely_same p (Some b) && are_surely ps bs
are_surely _ _ = false

-- whether known bits may be these
abbrev pub may_be : List (Option Bit) → List Bit → Bool
may_be [] [] = true
may_be (p ∷ ps) (b ∷ bs) = not (surely_differ p (Some b)) && may_be ps bs
may_be _ _ = false

-- what the dump says of a bit at the end of the step
abbrev pub dumped : Closing → Cell → Option Bit
dumped st c = if is_dumped st.design st.bound c then Some (st.new c) else None

-- what a clean block reads of its trigger and of what is early: the trigger new, an early input old or new, bit by bit
abbrev pub entry : Closing → ℕ → Kept
entry st trigger c =
    if c.thing == trigger then dumped st c else (if (signal_at st.design c.thing).input then join_bit (st.start.kept c) (dumped st c) else None)

-- the store as a clean block meets it
abbrev pub clean_store : Closing → ℕ → ℕ → Working → StoreView
clean_store st p trigger w = record { kept = w.kept; hidden = λ x. (x == trigger) || st.sets.early p x; shown = entry st trigger }

-- what it so reads: all else as it was at the start of the step
abbrev pub entry_kept : Closing → ℕ → ℕ → Kept
entry_kept st p trigger c = if (c.thing == trigger) || st.sets.early p c.thing then entry st trigger c else st.start.kept c

-- what a run of a Clocked leaves
abbrev pub after_clocked : Closing → ℕ → Outcome → Working → Working
after_clocked st p o w = record w { kept = o.kept; queue = w.queue ++ o.queue; notes = w.notes ++ markings_by p o.notes }

-- a Clocked that is clean runs clean
abbrev pub run_clean : Closing → Option ℕ → ℕ → Working → Working
run_clean st None p w = w
run_clean st (Some trigger) p w = after_clocked st p (st.run p (clean_store st p trigger w) (clean st.time)) w

-- the clean ones, in order
abbrev pub run_all_clean : Closing → List ℕ → Working → Working
run_all_clean st [] w = w
run_all_clean st (p ∷ ps) w = run_all_clean st ps (run_clean st (st.sets.trigger p) p w)

-- a process is put after those that are of no later round
abbrev pub put_in_round : (ℕ → ℕ) → ℕ → List ℕ → List ℕ
put_in_round round p [] = p ∷ []
put_in_round round p (q ∷ qs) = if nat_le (round q) (round p) then q ∷ put_in_round round p qs else p ∷ q ∷ qs

-- so are those of a list, one after the other
abbrev pub put_in_rounds : (ℕ → ℕ) → List ℕ → List ℕ → List ℕ
put_in_rounds round [] done = done
put_in_rounds round (p ∷ ps) done = put_in_rounds round ps (put_in_round round p done)

-- the processes in order of their rounds, those of one round in the order of the list
abbrev pub in_rounds : (ℕ → ℕ) → List ℕ → List ℕ
in_rounds round ps = put_in_rounds round ps []

-- the Clocked in the order in which the clean ones run: a block runs before those whose trigger it makes
abbrev pub clean_order : Closing → List ℕ
clean_order st = in_rounds st.sets.round st.tables.clocked

-- a Clocked that can wake and is not clean runs weak
abbrev pub run_weak : Closing → Option ℕ → Option ℕ → ℕ → Working → Working
run_weak st (Some trigger) wakes p w = w
run_weak st None None p w = w
run_weak st None (Some thing) p w = after_clocked st p (st.run p (plain_store w.kept) (weak st.time thing)) w

-- those, in order
abbrev pub run_all_weak : Closing → List ℕ → Working → Working
run_all_weak st [] w = w
run_all_weak st (p ∷ ps) w = run_all_weak st ps (run_weak st (st.sets.trigger p) (st.sets.wakes p) p w)

-- an Assign or Comb that watches a thing that may move
abbrev pub is_touched : Closing → ℕ → Bool
is_touched st p = list_any st.sets.moves (st.tables.watched p)

-- what such a process may write is to be made anew
abbrev pub is_loose : Closing → Cell → Bool
is_loose st c = list_any (λ p. is_touched st p && blocking_target st.design (body_at st.design p) c) (st.tables.order ++ st.tables.last)

-- the queued writes are made, and what is to be made anew is unknown
abbrev pub updated : Closing → Working → Kept
updated st w c = if is_loose st c then None else flush w.kept w.queue c

-- then the dump's values take the place of what was made
abbrev pub with_dump : Closing → Kept → Kept
with_dump st k c = if is_dumped st.design st.bound c then Some (st.new c) else k c

-- the step before the Assigns and Combs
abbrev pub settle_start : Closing → Working → Working
settle_start st w = record w { kept = with_dump st (updated st w); queue = []; made = updated st w }

-- a wake bit of the process, or a word of a memory that it mentions, has surely changed
abbrev pub has_changed : Closing → Kept → ℕ → ℕ → Bool
has_changed st k p x = list_any (λ c. surely_differ (st.start.kept c) (k c)) (wake_cells st.design p x)

-- none has
abbrev pub is_still : Closing → Kept → ℕ → ℕ → Bool
is_still st k p x = not (st.sets.moves x) || list_all (λ c. surely_same (st.start.kept c) (k c)) (wake_cells st.design p x)

-- the first of these that is not surely unchanged
abbrev pub first_unsure : Closing → Kept → ℕ → List ℕ → Option ℕ
first_unsure st k p [] = None
first_unsure st k p (x ∷ xs) = if is_still st k p x then first_unsure st k p xs else Some x

-- how sure it is, by the first thing that is not surely unchanged
abbrev pub certainty_from : Closing → Option ℕ → Certainty
certainty_from st None = quiet
certainty_from st (Some thing) = perhaps st.time thing

-- how sure it is that an Assign or Comb acts, on settled values
abbrev pub certainty : Closing → Kept → ℕ → Certainty
certainty st k p = if list_any (has_changed st k p) (st.tables.watched p) then clean st.time else certainty_from st (first_unsure st k p (st.tables.watched p))

-- what the dump says of a signal has changed over the step
abbrev pub dump_changes : Closing → ℕ → Bool
dump_changes st s = list_any (λ c. surely_differ (st.start.kept c) (Some (st.new c))) (signal_cells st.design s)

-- a bound signal that the process mentions has changed over the step
abbrev pub sees_change : Closing → ℕ → Bool
sees_change st p =
    list_any (λ s. st.bound s && (body_mentions s (body_at st.design p) && dump_changes st s)) (range_with_len 0 (length st.design.signals))

-- what a run of an Assign or Comb makes of its targets is kept where it holds; the dump's values stay
abbrev pub kept_target : Closing → Bool → Outcome → Working → ℕ → Kept
kept_target st holds o w p c =
    if blocking_target st.design (body_at st.design p) c && not (is_dumped st.design st.bound c) then (if holds then o.kept c else None) else w.kept c

-- after a run of this certainty the process has surely acted in the window
abbrev pub acts : Closing → ℕ → Certainty → Working → Bool
acts st p how w = w.acted p || (is_clean_way how || sees_change st p)

-- the replay after a run of an Assign or Comb
abbrev pub after_settling : Closing → Bool → ℕ → Certainty → Outcome → Working → Working
after_settling st ordered p how o w =
    record {
      kept = kept_target st (ordered && (not (is_comb (process_at st.design p)) || acts st p how w)) o w p;
      queue = w.queue;
      made = λ c. if blocking_target st.design (body_at st.design p) c then (if not (is_comb (process_at st.design p)) || acts st p how w then o.kept c else None) else w.made c;
      acted = λ q. if q == p then acts st p how w else w.acted q;
      notes = w.notes ++ markings_by p o.notes;
    }

-- an Assign or Comb runs on settled values, where a thing that it watches may move
abbrev pub run_settling : Closing → Bool → ℕ → Working → Working
run_settling st ordered p w =
    if is_touched st p then after_settling st ordered p (certainty st w.kept p) (st.run p (plain_store (settled_kept st.design p w.kept)) (certainty st w.kept p)) w else w

-- those, in order
abbrev pub run_all_settling : Closing → Bool → List ℕ → Working → Working
run_all_settling st ordered [] w = w
run_all_settling st ordered (p ∷ ps) w = run_all_settling st ordered ps (run_settling st ordered p w)

-- the replay as the step begins
abbrev pub opened : Closing → Working
opened st = record { kept = st.start.kept; queue = []; made = st.start.kept; acted = st.start.acted; notes = st.start.notes }

-- after the Clocked: first the clean ones, in order of rounds
abbrev pub clocked_run : Closing → Working
clocked_run st = run_all_weak st st.tables.clocked (run_all_clean st (clean_order st) (opened st))

-- after the Assigns and Combs
abbrev pub all_run : Closing → Working
all_run st = run_all_settling st false st.tables.last (run_all_settling st true st.tables.order (settle_start st (clocked_run st)))

-- what was made of a bit that the dump has and that is no input surely differs from the dump
abbrev pub contradicts : Closing → Cell → Bool
contradicts st c = is_dumped st.design st.bound c && (not (signal_at st.design c.thing).input && surely_differ ((all_run st).made c) (Some (st.new c)))

-- a hit where it is sure, else a doubt where it may be
abbrev pub tell : Closing → Point → ℕ → Bool → Bool → List Marking
tell st x s sure possible =
    if sure then record { key = of_point x; doubt = None } ∷ [] else (if possible then record { key = of_point x; doubt = Some (record { time = st.time; thing = s }) } ∷ [] else [])

-- a known bit may be this
abbrev pub bit_may_be : Option Bit → Bit → Bool
bit_may_be o b = not (surely_differ o (Some b))

-- what is known of a bit before the step; a time that the dump does not list represents more such times, so there it is as at the
-- start of the step or as after it
abbrev pub before_of : Closing → Kept
before_of st c = if st.listed then st.start.kept c else join_bit (st.start.kept c) ((all_run st).kept c)

-- whether a bit surely goes, or may go, from one value to another
abbrev pub mark_toggle : Closing → Point → ℕ → Cell → Bit → Bit → List Marking
mark_toggle st x s c a b =
    tell st x s (surely_same (before_of st c) (Some a) && surely_same ((all_run st).kept c) (Some b)) (bit_may_be (before_of st c) a && bit_may_be ((all_run st).kept c) b)

-- whether a signal surely goes, or may go, from some bits to others
abbrev pub mark_arc : Closing → Point → ℕ → List Bit → List Bit → List Marking
mark_arc st x s from to =
    let before = known_bits st.design (before_of st) s in
    let after = known_bits st.design (all_run st).kept s in
    tell st x s (are_surely before from && are_surely after to) (may_be before from && may_be after to)

-- whether a signal surely has, or may have, these bits at a listed time
abbrev pub mark_had : Closing → Point → ℕ → List Bit → List Marking
mark_had st x s bits = tell st x s (are_surely (known_bits st.design (all_run st).kept s) bits) (may_be (known_bits st.design (all_run st).kept s) bits)

-- whether a signal may come to have these bits at a time that the dump does not list
abbrev pub mark_reached : Closing → Point → ℕ → List Bit → List Marking
mark_reached st x s bits =
    tell st x s false (may_be (known_bits st.design (all_run st).kept s) bits && not (are_surely (known_bits st.design (before_of st) s) bits))

-- what is reported of a state of a signal
abbrev pub mark_state : Closing → Point → ℕ → List Bit → List Marking
mark_state st x s bits = if st.listed then mark_had st x s bits else (if st.sets.moves s then mark_reached st x s bits else [])

-- the value from which a bit rises, or falls
abbrev pub from_bit : Bool → Bit
from_bit rise = if rise then Zero else One

-- the value to which it rises, or falls
abbrev pub to_bit : Bool → Bit
to_bit rise = if rise then One else Zero

-- what is reported of a point on a signal
abbrev pub point_notes : Closing → Point → List Marking
point_notes st (toggle_point s i rise) =
    if st.sets.moves s then mark_toggle st (toggle_point s i rise) s (toggle_cell st.design s i) (from_bit rise) (to_bit rise) else []
point_notes st (state_point i name s state x) = mark_state st (state_point i name s state x) s x.bits
point_notes st (arc_point i name s from to x y) =
    if st.sets.moves s then mark_arc st (arc_point i name s from to x y) s x.bits y.bits else []
point_notes st _ = []

-- what is reported of all points on signals
abbrev pub all_point_notes : Closing → List Point → List Marking
all_point_notes st [] = []
all_point_notes st (x ∷ xs) = point_notes st x ++ all_point_notes st xs

-- the replay after the step, of a design with these points
abbrev pub closed : Closing → List Point → Replay
closed st points = record { kept = (all_run st).kept; acted = (all_run st).acted; notes = (all_run st).notes ++ all_point_notes st points }
