use Rattle.std.proofs.Common.{◌≡◌, inl, get_or, sym, subst, arith}
use Rattle.std.proofs.lemmas.List.{get_or_read}
use Rattle.wake_list.specs.Tournament.{IsLeast, NoneIsMember}
use Rattle.wake_list.proofs.TournamentLemmas.{none_member, root_is_least}
use Rattle.wake_list.proofs.least_set.LeastSet.least.Goals as goal

pub returns-then-least-self : goal.returns-then-least-self
returns-then-least-self c =
    let s = c.self.inside in
    let at : c.index-least.result.now ≡ get_or s.tree.items 1 0 = get_or_read s.tree.items 1 c.index-least.result.now (omega (arith, c.self.invariant.size, c.if-self-eq0.false)) c.index-least.ensures 0 in
    subst (λ n. IsLeast n c.args.self.now) (sym at) (subst (IsLeast (get_or s.tree.items 1 0)) c.self.view_is (root_is_least s.count s.tree.items c.self.invariant (omega (arith, at, c.if-least-self.true))))

pub returns-else-least-self : goal.returns-else-least-self
returns-else-least-self c =
    let s = c.self.inside in
    let at : c.index-least.result.now ≡ get_or s.tree.items 1 0 = get_or_read s.tree.items 1 c.index-least.result.now (omega (arith, c.self.invariant.size, c.if-self-eq0.false)) c.index-least.ensures 0 in
    subst NoneIsMember c.self.view_is (none_member s.count s.tree.items c.self.invariant (inl (omega (arith, at, c.if-least-self.false))))
