use Rattle.std.proofs.Common.{ap, arith, length, sym, ◌∙◌}
use Rattle.test_ranking.proofs.Packing.{same_words, union_counted, union_few}
use Rattle.test_ranking.proofs.SetLaws.{size-union}
use Rattle.test_ranking.proofs.hit_set.HitSet.gain.Goals as goal

pub joined_ones-requires-clause-same : goal.joined_ones-requires-clause-same
joined_ones-requires-clause-same c =
    let same = same_words c.self.inside.points c.other.inside.points c.self.inside.words.items c.other.inside.words.items c.args.self.now c.args.other.now c.self.invariant c.other.invariant c.self.view_is c.other.view_is c.requires.same in
    ap (λ ws. length ws) c.deref.ensures.value ∙ same ∙ sym (ap (λ ws. length ws) c.deref-2.ensures.value)

pub overflow_cast-result : goal.overflow_cast-result
overflow_cast-result c =
    let counted =
    union_counted c.self.inside.points c.other.inside.points c.self.inside.words.items c.other.inside.words.items c.args.self.now c.args.other.now c.self.invariant c.other.invariant c.self.view_is c.other.view_is c.requires.same
    c.deref.result.now c.deref-2.result.now c.joined_ones.result c.deref.ensures.value c.deref-2.ensures.value c.joined_ones.ensures in
    let few = union_few c.self.inside.points c.other.inside.points c.self.inside.words.items c.other.inside.words.items c.args.self.now c.args.other.now c.self.invariant c.other.invariant c.self.view_is c.other.view_is c.requires.same in
    omega (arith, counted, few)

pub overflow_sub-result : goal.overflow_sub-result
overflow_sub-result c =
    let counted =
    union_counted c.self.inside.points c.other.inside.points c.self.inside.words.items c.other.inside.words.items c.args.self.now c.args.other.now c.self.invariant c.other.invariant c.self.view_is c.other.view_is c.requires.same
    c.deref.result.now c.deref-2.result.now c.joined_ones.result c.deref.ensures.value c.deref-2.ensures.value c.joined_ones.ensures in
    omega (arith, counted, c.requires.total, size-union c.args.self.now c.args.other.now)

pub returns : goal.returns
returns c =
    let counted =
    union_counted c.self.inside.points c.other.inside.points c.self.inside.words.items c.other.inside.words.items c.args.self.now c.args.other.now c.self.invariant c.other.invariant c.self.view_is c.other.view_is c.requires.same
    c.deref.result.now c.deref-2.result.now c.joined_ones.result c.deref.ensures.value c.deref-2.ensures.value c.joined_ones.ensures in
    omega (arith, counted, c.requires.total, size-union c.args.self.now c.args.other.now)
