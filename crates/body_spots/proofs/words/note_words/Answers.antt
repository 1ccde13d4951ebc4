use Rattle.std.proofs.Common.{[], ap, arith, map, subst, sym, ◌+◌, ◌-◌, ◌∷◌, ◌≡◌}
use Rattle.std.specs.List.{range_with_len}
use Rattle.std.proofs.lemmas.List.FromFn.{map-range_with_len_more}
use Rattle.value_store.specs.body_replay.Replay.{hit}
use Rattle.term_replay.specs.Noted.{Adds, access_spot}
use Rattle.term_replay.proofs.Marking.{adds_same}
use Rattle.body_spots.proofs.Hits.{hits_then}
use Rattle.body_spots.proofs.words.note_words.Goals as goal

pub loop-word-preserved : goal.loop-word-preserved
loop-word-preserved g c =
    let noted = g.N.Notes.noted in
    let at = access_spot c.args.access c.args.memory in
    let low = c.min-low.result in
    let word = c.loop-word.word in
    let next : (word - low) + 1 ≡ word + 1 - low = omega arith in
    let one = adds_same noted c.loop-word.notes c.note.new.self _ _ (ap (λ s. hit s ∷ []) c.spot.ensures) c.note.ensures in
    subst (λ k. Adds noted c.args.notes.now (map hit (map at (range_with_len low k))) c.note.new.self) next
    (subst (λ xs. Adds noted c.args.notes.now (map hit xs) c.note.new.self) (sym (map-range_with_len_more at low (word - low) word (omega arith)))
    (hits_then noted c.args.notes.now c.loop-word.notes c.note.new.self (map at (range_with_len low (word - low))) (at word ∷ []) c.loop-word.invariant one))
