use Rattle.std.proofs.Common.{◌≡◌, ◌∙◌, ◌<◌, ◌*◌, ◌+◌, ◌≤◌, ltb, cond, length, get_or, set, sym, ap, subst, arith}
use Rattle.std.proofs.lemmas.Bool.{cond-false, cond-true}
use Rattle.std.proofs.lemmas.List.{with_items_is}
use Rattle.wake_list.specs.Tournament.{members}
use Rattle.wake_list.proofs.TournamentLemmas.{after_members, held_fits, held_is, length-members}
use Rattle.wake_list.proofs.least_set.LeastSet.set.Goals.{else-member, then-member}
use Rattle.wake_list.proofs.least_set.LeastSet.set.Goals as goal

pub returns : goal.returns
returns c =
    let s = c.self.inside in
    let below : c.args.number < s.count = omega (arith, c.requires, ap length c.self.view_is, length-members s.count s.tree.items c.self.invariant) in
    let held : c.if-member.held ≡ cond c.args.member c.args.number s.count = elim c.if-member.branch [ then-member w ↦ w.held-is ∙ sym (cond-true c.args.member c.args.number s.count w.if-member.true) | else-member w ↦ w.held-is ∙ sym (cond-false c.args.member c.args.number s.count w.if-member.false) ] in
    let size : length c.write_leaf.new.tree ≡ length s.tree.items = c.write_leaf.auto.tree ∙ ap length c.as_mut_slice.ensures.value in
    let made : members s.count c.write_leaf.new.tree ≡ set (members s.count s.tree.items) c.args.number (ltb c.if-member.held s.count) = after_members s.count s.tree.items c.write_leaf.new.tree c.args.number c.if-member.held c.self.invariant below size c.write_leaf.ensures.tree (λ k far. c.write_leaf.ensures.leaves k (subst (λ xs. length xs ≤ 2 * k) (sym c.as_mut_slice.ensures.value) far) ∙ ap (λ xs. get_or (set xs (s.count + c.args.number) c.if-member.held) k 0) c.as_mut_slice.ensures.value) (held_fits s.count c.args.number c.if-member.held c.args.member below held) in
    ap (members s.count) (with_items_is s.tree c.write_leaf.new.tree (size ∙ sym s.tree.ok.0)) ∙ made ∙ ap (set (members s.count s.tree.items) c.args.number) (held_is s.count c.args.number c.if-member.held c.args.member below held) ∙ ap (λ bs. set bs c.args.number c.args.member) c.self.view_is
