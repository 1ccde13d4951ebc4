-- The marks, and the words listed as written, after the run of a Clocked block.
use Rattle.std.proofs.Common.{◌≡◌, ℕ, Bool, true, false, List, [], ◌∷◌, ◌++◌, refl, sym, ap, subst, ◌∙◌}
use Rattle.std.proofs.lemmas.Bool.{false≢true}
use Rattle.body_replay.specs.Contract.{Certainty, HasNote, Note, Outcome, Store as ModelStore, outcome}
use Rattle.body_replay.specs.Replay.{flush, word_write}
use Rattle.body_replay.specs.Runs.{Runs, StoreView, own_store}
use Rattle.body_replay.specs.Store.{Kept, KnownWrite, keep_all}
use Rattle.design_model.specs.Design.{Design, body_at}
use Rattle.design_model.specs.Lawful.{IsLawfulDesign}
use Rattle.chosen_runs.specs.clocked_block.OneRun.{AtRuns, IsRunBy}
use Rattle.chosen_runs.specs.clocked_block.clocked_runs.run_views.body_store.declared.store.Store.{Store}
use Rattle.chosen_runs.specs.clocked_block.entry_values.replay_model.Marks.{Marking}
use Rattle.chosen_runs.specs.clocked_block.entry_values.replay_model.Step.{Closing, Working, after_clocked}
use Rattle.noted_words.specs.Unnoted.{IsMarking, UnnotedLaw}
use Rattle.run_marks.specs.cover_marks.Marks.{AreMarksOf}
use Rattle.run_marks.specs.cover_marks.declared.marks.Marks.{Marks}
use Rattle.run_marks.specs.cover_points.Visits.{AreApart, AreOnce}
use Rattle.run_marks.specs.cover_points.declared.listing.Points.{Points}
use Rattle.run_marks.specs.declared.notes.MarkNotes.{MarkNotes}
use Rattle.run_marks.specs.Reported.{AreNotesOf, HasListed, HasReported, HasTaken, TakenStart}
use Rattle.run_marks.proofs.Listed.{followed_listed, none_listed}
use Rattle.run_marks.proofs.Reports.{none_reported}
use Rattle.written_words.specs.Written.{WrittenState, has_word, is_followed}
use Rattle.clocked_marks.specs.AtClocked.{AreUnwritten, AtClocked}

module _ (p : ℕ) (ps qs : Points) (q : ℕ) (m n : Marks) (u v : WrittenState) (marks : AreMarksOf ps m) where
  -- the sink has taken these notes since any start with these marks and this list
  abbrev pub Takes : List Note → Type 0
  Takes ns = (s : TakenStart) → HasTaken s [] p ps m u → HasTaken s ns q qs n v

  module _ (d : Design) (earlier : List Marking) (ns : List Note) (takes : Takes ns) where
    abbrev begun : TakenStart
    begun = record { marks = record { design = d; points = ps; earlier = earlier; process = p; before = m.verdicts }; written = u }

    taken : HasTaken begun ns q qs n v
    taken = takes begun (record { reported = none_reported begun.marks m marks refl; listed = none_listed u })

    pub reported : HasReported begun.marks ns q qs n
    reported = taken.reported

    pub listed : HasListed u ns v
    listed = taken.listed

-- queued writes are made one list after the other
flush_more : (k : Kept) (qs rs : List (List KnownWrite)) → flush k (qs ++ rs) ≡ flush (flush k qs) rs
flush_more k [] rs = refl
flush_more k (q ∷ qs) rs = flush_more (keep_all k q) qs rs

-- the notes of a run of the step are of the points of its process
module _ (law : (d : Design) (p : ℕ) (x : ModelStore) (how : Certainty) → IsLawfulDesign d → AreNotesOf d p (outcome d (body_at d p) x how).notes) (words : UnnotedLaw) (st : Closing) (time p : ℕ) (v : StoreView) (how : Certainty) (way : IsMarking how) (by : IsRunBy st time) (lawful : IsLawfulDesign st.design) where
  abbrev run : Outcome
  run = st.run p v how

  own_notes : AreNotesOf st.design p run.notes
  own_notes = subst (λ (run : Runs). AreNotesOf st.design p (run p v how).notes) (sym by.runs) (law st.design p (own_store v) how lawful)

  -- what is not listed after it was not listed before, and is not noted
  unwritten_after : (w : Working) (u z : WrittenState) → v.kept ≡ w.kept → AreUnwritten st w u → HasListed u run.notes z → AreUnwritten st (after_clocked st p run w) z
  unwritten_after w u z same old h m i c mem among follows none at =
      let before : is_followed u m i ≡ true = sym (followed_listed u z run.notes h m i) ∙ follows in
      let stays = old m i c mem among before (unlisted (has_word u m i) refl) at in
      let leaves = subst (λ (run : Runs). (HasNote (word_write m i) (run p v how).notes → ⊥) → ((run p v how).kept c ≡ v.kept c) × ((k : Kept) → flush k (run p v how).queue c ≡ k c)) (sym by.runs) (λ un. words st.design p v how lawful way m i mem among un c at) unnoted in
      (leaves.0 ∙ ap (λ (k : Kept). k c) same ∙ stays.0, λ k. ap (λ (b : Kept). b c) (flush_more k w.queue run.queue) ∙ leaves.1 (flush k w.queue) ∙ stays.1 k)
    where
      unlisted : (t : Bool) → has_word u m i ≡ t → has_word u m i ≡ false
      unlisted false e = e
      unlisted true e = absurd (false≢true (sym none ∙ h.kept m i e))

      unnoted : HasNote (word_write m i) run.notes → ⊥
      unnoted g = false≢true (sym none ∙ h.noted m i follows g)

  -- after it the marks are those of the next state
  pub clocked_after : (ps qs : Points) (w : Working) (waiting rest : List ℕ) (x y : Store) (q : ℕ) (m n : MarkNotes) → v.kept ≡ w.kept → AreApart ps → AreOnce ps → (at : AtClocked st ps w waiting x m)
      → Takes p ps qs q m.marks n.marks m.written n.written at.points run.notes → AtRuns st (after_clocked st p run w) rest y → AtClocked st ps (after_clocked st p run w) rest y n
  clocked_after ps qs w waiting rest x y q m n same apart once at takes runs =
      let told = reported p ps qs q m.marks n.marks m.written n.written at.points st.design w.notes run.notes takes in
      let words = listed p ps qs q m.marks n.marks m.written n.written at.points st.design w.notes run.notes takes in
      record { runs = runs; points = told.marks; marks = told.verdicts (record { apart = apart; once = once; verdicts = at.marks }) own_notes; unwritten = unwritten_after w m.written n.written same at.unwritten words }
