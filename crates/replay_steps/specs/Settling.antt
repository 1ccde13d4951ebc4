-- What a step leaves as it was, where it has Assigns and Combs alone.
use Rattle.std.specs.Prelude.{◌≡◌, ℕ, true, false, Some, None, if◌then◌else◌, []}
use Rattle.event_machine.specs.Cell.{Cell}
use Rattle.replay_model.specs.design_model.Design.{body_at}
use Rattle.replay_model.specs.design_model.Mentions.{blocking_target}
use Rattle.replay_model.specs.Step.{Closing, Working, is_dumped, is_loose, is_touched, with_dump}
use Rattle.replay_model.specs.body_replay.Store.{Kept}

-- what was known at the start of the step, and unknown what is to be made anew
abbrev pub loosened : Closing → Kept
loosened st c = if is_loose st c then None else st.start.kept c

-- so the Assigns and Combs start: the dump's values are kept, and what is made is as it was
abbrev pub settled_start : Closing → Working
settled_start st = record { kept = with_dump st (loosened st); queue = []; made = loosened st; acted = st.start.acted; notes = st.start.notes }

-- a process that watches something that may move drives what may move
abbrev pub MoveTargets : Closing → Type 0
MoveTargets st = (p : ℕ) (c : Cell) → is_touched st p ≡ true → blocking_target st.design (body_at st.design p) c ≡ true → st.sets.moves c.thing ≡ true

-- the dump's value of what may not move is what was known
abbrev pub IsDumpStill : Closing → Type 0
IsDumpStill st = (c : Cell) → is_dumped st.design st.bound c ≡ true → st.sets.moves c.thing ≡ false → st.start.kept c ≡ Some (st.new c)

-- what may not move is kept, and was made, as it was at the start of the step
pub record IsStillAt (st : Closing) (w : Working) : Type 0 where
  pub kept : (c : Cell) → st.sets.moves c.thing ≡ false → w.kept c ≡ st.start.kept c
  pub made : (c : Cell) → st.sets.moves c.thing ≡ false → w.made c ≡ st.start.kept c
