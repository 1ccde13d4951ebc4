use Rattle.vcd_reader.proofs.Paths.{path_first, path_more}
use Rattle.vcd_reader.proofs.declarations.path_of.Goals as goal
use Rattle.vcd_reader.proofs.declarations.path_of.Goals.{then-depth-gt0+in_ok-push, else-depth-gt0}

pub loop-depth-preserved : goal.loop-depth-preserved
loop-depth-preserved c =
    rw (c.in_ok-extend_from_slice.ensures.ok, c.bytes_of.ensures) (elim c.if-depth-gt0.branch [
      | then-depth-gt0+in_ok-push w ↦ rw (w.path-is, w.in_ok-push.ensures.ok) (path_more c.args.scopes.now c.loop-depth.depth c.index-scopes-depth.result c.loop-depth.path c.index-scopes-depth.is c.loop-depth-test.true w.if-depth-gt0.true c.loop-depth.invariant)
      | else-depth-gt0 w ↦ rw w.path-is (path_first c.args.scopes.now c.loop-depth.depth c.index-scopes-depth.result c.loop-depth.path c.index-scopes-depth.is c.loop-depth-test.true w.if-depth-gt0.false c.loop-depth.invariant)
    ])
