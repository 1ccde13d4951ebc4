-- The outcome of a run by the way in which the block runs, and where a run is.
use Rattle.std.proofs.Common.{List, Option, refl, ℕ, ◌≡◌}
use Rattle.design_model.specs.Design.{Design}
use Rattle.design_model.specs.Tree.{Stmt}
use Rattle.body_replay.specs.Contract as c
use Rattle.body_replay.specs.Contract.{IsStrong, Store, outcome, strong_outcome}
use Rattle.body_replay.specs.Replay.{Mark, State}
use Rattle.body_replay.specs.Store.{KnownWrite}
use Rattle.term_replay.specs.Stands.{Scene}
use Rattle.assignments.specs.scene_laws.At.{IsState}

-- in each way except the weak one the body is evaluated
pub strong_is : (d : Design) (s : Stmt) (st : Store) (how : c.Certainty) → IsStrong how → outcome d s st how ≡ strong_outcome d s st how
strong_is d s st (c.clean time) h = refl
strong_is d s st c.quiet h = refl
strong_is d s st (c.perhaps time thing) h = refl
strong_is d s st (c.weak time thing) h = absurd h

-- the first read of a run is that of its state
pub at_first : (d : Design) (a : State) (first : Option ℕ) (v : Scene) (queued : List KnownWrite) (Noted : List Mark → Type 0) → IsState d a first v queued Noted → IsState d a a.first v queued Noted
at_first d a first v queued Noted h = record { scene = h.scene; first = refl; queue = h.queue; noted = h.noted }
