use Rattle.std.proofs.Common.{◌≡◌, ◌∙◌, ap, length, arith}
use Rattle.std.proofs.lemmas.List.{length-map}
use Rattle.db_tools.specs.Greedy.{matched_marks}
use Rattle.db_tools.specs.Views.{texts}
use Rattle.db_tools.proofs.GreedyLaws.{all_matched, long_marks, marks_of_addresses, named_all, no_address, no_address_or_named}
use Rattle.db_tools.proofs.marking.mark_points.Goals as goal

pub returns-then-marking-lines-clause-fault : goal.returns-then-marking-lines-clause-fault
returns-then-marking-lines-clause-fault c =
    let lines = c.args.lines.now in
    let left = rw c.as_slice.ensures at c.in_ok-marking.ensures.left in
    rw c.bad_line.ensures (c.in_ok-marking.marking.matched, omega arith, no_address c.args.db.now (texts lines) c.in_ok-marking.marking.matched c.requires.table left (omega (arith, length-map lines (λ line. line.now))))

pub returns-then-marking-lines-clause-only : goal.returns-then-marking-lines-clause-only
returns-then-marking-lines-clause-only c =
    let lines = c.args.lines.now in
    let left = rw c.as_slice.ensures at c.in_ok-marking.ensures.left in
    λ marks long named.
    absurd (no_address_or_named c.args.db.now (texts lines) c.in_ok-marking.marking.matched marks c.requires.table left (omega (arith, length-map lines (λ line. line.now))) named)

pub returns-clause-long : goal.returns-clause-long
returns-clause-long c = ap length (rw c.as_slice.ensures at c.in_ok-marking.ensures.marks) ∙ long_marks c.args.db.now.instances c.args.db.now.points (texts c.args.lines.now)

pub returns-clause-named : goal.returns-clause-named
returns-clause-named c =
    let lines = c.args.lines.now in
    let left = rw c.as_slice.ensures at c.in_ok-marking.ensures.left in
    let marks : c.in_ok-marking.marking.marks.items ≡ matched_marks c.args.db.now.instances c.args.db.now.points (texts lines) = rw c.as_slice.ensures at c.in_ok-marking.ensures.marks in
    rw marks (named_all c.args.db.now (texts lines) (all_matched c.args.db.now (texts lines) c.in_ok-marking.marking.matched left (omega (arith, length-map lines (λ line. line.now)))))

pub returns-clause-only : goal.returns-clause-only
returns-clause-only c =
    let lines = c.args.lines.now in
    λ marks long named. (rw c.as_slice.ensures at c.in_ok-marking.ensures.marks) ∙ marks_of_addresses c.args.db.now marks (texts lines) c.requires.table long named
