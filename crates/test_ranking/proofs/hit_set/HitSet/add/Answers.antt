use Rattle.std.proofs.Common.{ap, arith, length, subst, sym, ◌∙◌}
use Rattle.std.proofs.lemmas.List.{with_items_is}
use Rattle.test_ranking.specs.Words.{ArePacked, marks_of}
use Rattle.test_ranking.proofs.Packing.{same_words, union_marks, union_packed}
use Rattle.test_ranking.proofs.hit_set.HitSet.add.Goals as goal

pub join_words-requires : goal.join_words-requires
join_words-requires c =
    let same = same_words c.self.inside.points c.other.inside.points c.self.inside.words.items c.other.inside.words.items c.args.self.now c.args.other.now c.self.invariant c.other.invariant c.self.view_is c.other.view_is c.requires in
    ap (λ ws. length ws) c.deref_mut.ensures.value ∙ same ∙ sym (ap (λ ws. length ws) c.deref.ensures.value)

pub invariant_of-self : goal.invariant_of-self
invariant_of-self c =
    let whole = with_items_is c.self.inside.words c.join_words.new.words (omega arith) in
    subst (ArePacked c.self.inside.points) (sym whole)
    (union_packed c.self.inside.points c.other.inside.points c.self.inside.words.items c.other.inside.words.items c.args.self.now c.args.other.now c.self.invariant c.other.invariant c.self.view_is c.other.view_is c.requires
    c.deref_mut.result.now c.deref.result.now c.join_words.new.words c.deref_mut.ensures.value c.deref.ensures.value c.join_words.ensures)

pub returns : goal.returns
returns c =
    let whole = with_items_is c.self.inside.words c.join_words.new.words (omega arith) in
    ap (marks_of c.self.inside.points) whole
    ∙ union_marks c.self.inside.points c.other.inside.points c.self.inside.words.items c.other.inside.words.items c.args.self.now c.args.other.now c.self.invariant c.other.invariant c.self.view_is c.other.view_is c.requires
    c.deref_mut.result.now c.deref.result.now c.join_words.new.words c.deref_mut.ensures.value c.deref.ensures.value c.join_words.ensures
