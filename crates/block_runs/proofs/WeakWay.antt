-- The outcome of a run by the way, where the body is not evaluated.
use Rattle.std.proofs.Common.{List, [], false, map, refl, true, ℕ, ◌∷◌, ◌≡◌}
use Rattle.design_model.specs.Design.{Design}
use Rattle.design_model.specs.Tree.{Stmt}
use Rattle.body_replay.specs.Contract as c
use Rattle.body_replay.specs.Contract.{IsStrong, Outcome, Store, body_spots, notes_of, outcome, weak_queue, weak_writes}
use Rattle.body_replay.specs.Replay.{hit}
use Rattle.body_replay.specs.Store.{keep_all}
use Rattle.term_replay.specs.Stands.{Scene}
use Rattle.body_calls.specs.Own.{IsOwn, IsOwnOutside}
use Rattle.block_runs.specs.Notes.{is_weak_way}

-- all writes of the text, and all its spots
abbrev pub weak_outcome : Design → Stmt → Store → c.Certainty → Outcome
weak_outcome d s st how = record { kept = keep_all st.kept (weak_writes d s); queue = weak_queue d s ∷ []; notes = notes_of how (map hit (body_spots d s)) }

pub weak_is : (d : Design) (s : Stmt) (st : Store) (how : c.Certainty) → is_weak_way how ≡ true → outcome d s st how ≡ weak_outcome d s st how
weak_is d s st (c.clean time) h = cc
weak_is d s st c.quiet h = cc
weak_is d s st (c.perhaps time thing) h = cc
weak_is d s st (c.weak time thing) h = refl

pub strong_way : (how : c.Certainty) → is_weak_way how ≡ false → IsStrong how
strong_way (c.clean time) h = tt
strong_way c.quiet h = tt
strong_way (c.perhaps time thing) h = tt
strong_way (c.weak time thing) h = cc

-- what is to blame for itself everywhere is so outside of a list
pub own_outside : (xs : List ℕ) (v : Scene) → IsOwn v → IsOwnOutside xs v
own_outside xs v h = record { wrote = λ m out. h.wrote m; blame = λ x out loose. h.blame x loose }
