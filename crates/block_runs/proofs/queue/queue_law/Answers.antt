use Rattle.std.proofs.Common.{[], ◌∷◌, refl, sym, ◌∙◌}
use Rattle.body_replay.specs.Store.{keep_all}
use Rattle.body_replay.proofs.Writes.{keep_append}
use Rattle.assignments.specs.scene_laws.At.{flat}
use Rattle.block_runs.specs.Queue.{QueueLaw}
use Rattle.block_runs.proofs.queue.queue_law.Goals as goal

made_flat : QueueLaw
made_flat k [] = refl
made_flat k (ws ∷ more) = made_flat (keep_all k ws) more ∙ sym (keep_append k ws (flat more))

pub returns : goal.returns
returns c = made_flat
