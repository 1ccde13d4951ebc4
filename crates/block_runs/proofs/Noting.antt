-- Marks that are noted in the way in which a block runs.
use Rattle.std.proofs.Common.{List, None, Option, Some, [], append-nil, append_assoc, ap, map, sym, ℕ, ◌++◌, ◌∙◌, ◌∷◌, ◌≡◌}
use Rattle.std.proofs.lemmas.List.{map-append}
use Rattle.body_replay.specs.Contract as c
use Rattle.body_replay.specs.Contract.{Note, all_doubted, at_time, notes_of}
use Rattle.body_replay.specs.Replay.{Mark}
use Rattle.term_replay.specs.Noted.{mark_of}
use Rattle.term_replay.specs.declared.notes.Spot.{Spot}
use Rattle.block_runs.specs.Notes.{note_of}

-- no mark is noted yet
pub none_noted : (how : c.Certainty) (earlier : List Note) → earlier ++ notes_of how [] ≡ earlier
none_noted (c.clean time) earlier = append-nil earlier
none_noted c.quiet earlier = append-nil earlier
none_noted (c.perhaps time thing) earlier = append-nil earlier
none_noted (c.weak time thing) earlier = append-nil earlier

more : {A B : Type 0} (f : A → B) (earlier : List B) (xs : List A) (y : A) → (earlier ++ map f xs) ++ f y ∷ [] ≡ earlier ++ map f (xs ++ y ∷ [])
more f earlier xs y = append_assoc earlier (map f xs) (f y ∷ []) ∙ ap (λ z. earlier ++ z) (sym (map-append f xs (y ∷ [])))

-- a hit where the block runs
pub clean_hit : (time : ℕ) (earlier : List Note) (ms : List Mark) (x : Spot) → (earlier ++ notes_of (c.clean time) ms) ++ note_of x None ∷ [] ≡ earlier ++ notes_of (c.clean time) (ms ++ mark_of x None ∷ [])
clean_hit time earlier ms x = more (at_time time) earlier ms (mark_of x None)

-- a doubt where it runs
pub clean_doubt : (time thing : ℕ) (earlier : List Note) (ms : List Mark) (x : Spot) → (earlier ++ notes_of (c.clean time) ms) ++ note_of x (Some (record { time = time; thing = thing })) ∷ [] ≡ earlier ++ notes_of (c.clean time) (ms ++ mark_of x (Some thing) ∷ [])
clean_doubt time thing earlier ms x = more (at_time time) earlier ms (mark_of x (Some thing))

-- a mark where it may run
pub perhaps_doubt : (time thing : ℕ) (earlier : List Note) (ms : List Mark) (x : Spot) (doubt : Option ℕ) → (earlier ++ notes_of (c.perhaps time thing) ms) ++ note_of x (Some (record { time = time; thing = thing })) ∷ [] ≡ earlier ++ notes_of (c.perhaps time thing) (ms ++ mark_of x doubt ∷ [])
perhaps_doubt time thing earlier ms x doubt = more (all_doubted time thing) earlier ms (mark_of x doubt)

pub weak_doubt : (time thing : ℕ) (earlier : List Note) (ms : List Mark) (x : Spot) (doubt : Option ℕ) → (earlier ++ notes_of (c.weak time thing) ms) ++ note_of x (Some (record { time = time; thing = thing })) ∷ [] ≡ earlier ++ notes_of (c.weak time thing) (ms ++ mark_of x doubt ∷ [])
weak_doubt time thing earlier ms x doubt = more (all_doubted time thing) earlier ms (mark_of x doubt)
