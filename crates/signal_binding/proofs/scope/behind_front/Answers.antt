use Rattle.std.proofs.Common.{◌≡◌, ◌≤◌, true, false, length, take, arith}
use Rattle.std.specs.Str.{bytes_eq}
use Rattle.signal_binding.proofs.FrontLemmas.{joined_other, joined_same}
use Rattle.signal_binding.proofs.scope.behind_front.Goals as goal

pub returns-then-eq-clause-begins : goal.returns-then-eq-clause-begins
returns-then-eq-clause-begins c =
    let bytes = c.args.bytes.now in
    let front = c.args.front.now in
    let l : length front ≤ length bytes = omega arith in
    let same : bytes_eq (take (length front) bytes) front ≡ true = cc (c.split_at.ensures.front, c.eq.ensures, c.if-eq.true) in
    λ below.
    let rest = joined_same bytes front below l same in
    cc (c.split_at.ensures.back)

pub returns-else-eq-clause-other : goal.returns-else-eq-clause-other
returns-else-eq-clause-other c =
    let bytes = c.args.bytes.now in
    let front = c.args.front.now in
    let l : length front ≤ length bytes = omega arith in
    let other : bytes_eq (take (length front) bytes) front ≡ false = cc (c.split_at.ensures.front, c.eq.ensures, c.if-eq.false) in
    λ below. joined_other bytes front below l other
