use Rattle.std.proofs.Common.{subst}
use Rattle.memory_rebuild.specs.Words.{HaveWidth}
use Rattle.memory_rebuild.proofs.Kept.{sizes_of}
use Rattle.memory_rebuild.proofs.rebuilt.Rebuilt.shape.Goals as goal

pub returns-clause-widths : goal.returns-clause-widths
returns-clause-widths c = subst (λ r. HaveWidth r) c.self.view_is (sizes_of c.self.inside.shape c.self.inside.epoch c.self.inside.words.items c.self.invariant.fit)
