-- Examples of what a run reports: of the words of a memory, and of a list that has one point.
use Rattle.std.specs.Prelude.{◌≡◌, ◌∷◌, [], Some, None}
use Rattle.body_replay.specs.Contract.{Note}
use Rattle.body_replay.specs.Replay.{line, word_read, word_write}
use Rattle.cover_marks.specs.declared.marks.Marks.{Marks}
use Rattle.cover_points.specs.declared.listing.Points.{Points}
use Rattle.design_model.specs.FlipFlop.{flip_flop}
use Rattle.design_model.specs.Ram.{ram}
use Rattle.point_marks.specs.declared.verdict.Verdict.TheVariants.{Hit, Missed, Undetermined}
use Rattle.run_marks.specs.Reported.{AreNotesOf, HasReported, IsSpotOf, RunStart}

-- a note of a hit of line 2
abbrev pub hit_note : Note
hit_note = record { spot = line 2; doubt = None }

-- a note that line 2 is left open at 5 by signal 1
abbrev pub doubt_note : Note
doubt_note = record { spot = line 2; doubt = Some (record { time = 5; thing = 1 }) }

-- a note of a hit of line 3
abbrev pub other_note : Note
other_note = record { spot = line 3; doubt = None }

-- a note of a write of a word of memory 6
abbrev pub write_note : Note
write_note = record { spot = word_write 6 3; doubt = None }

-- process 0 of the design of a memory reads and writes memory 6; there is no process 1
pub record IsSpotExample : Type 0 where
  pub read : IsSpotOf ram 0 (word_read 6 3)
  pub written : IsSpotOf ram 0 (word_write 6 3)
  pub not_read : IsSpotOf ram 1 (word_read 6 3) → ⊥
  pub not_written : IsSpotOf ram 1 (word_write 6 3) → ⊥
  pub notes : AreNotesOf ram 0 (hit_note ∷ write_note ∷ [])
  pub not_notes : AreNotesOf ram 1 (hit_note ∷ write_note ∷ []) → ⊥

-- nothing was reported of these points before a run of the register
abbrev pub new_start : Points → RunStart
new_start ps = record { design = flip_flop; points = ps; earlier = []; process = 0; before = Missed ∷ [] }

-- of a list of points that has line 2 alone: a hit stays over a doubt, a hit of another line changes nothing, and a hit is not passed over
pub record IsReportExample (ps : Points) (m : Marks) : Type 0 where
  pub none : m.verdicts ≡ Missed ∷ [] → HasReported (new_start ps) [] 0 ps m
  pub doubt : m.verdicts ≡ Undetermined (record { thing = 1; time = 5 }) ∷ [] → HasReported (new_start ps) (doubt_note ∷ []) 0 ps m
  pub hit : m.verdicts ≡ Hit ∷ [] → HasReported (new_start ps) (doubt_note ∷ hit_note ∷ []) 0 ps m
  pub other : m.verdicts ≡ Missed ∷ [] → HasReported (new_start ps) (other_note ∷ []) 0 ps m
  pub not_hit : m.verdicts ≡ Hit ∷ [] → HasReported (new_start ps) (other_note ∷ []) 0 ps m → ⊥
  pub not_missed : m.verdicts ≡ Missed ∷ [] → HasReported (new_start ps) (hit_note ∷ []) 0 ps m → ⊥
