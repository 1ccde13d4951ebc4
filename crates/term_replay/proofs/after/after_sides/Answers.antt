use Rattle.std.proofs.Common.{◌==◌, subst, sym}
use Rattle.std.specs.Prelude.{IfSome}
use Rattle.known_state.specs.Partly.{whole_of}
use Rattle.design_model.specs.Tree as t
use Rattle.term_replay.specs.Plain.{IsSmall, head_in, held, number_at}
use Rattle.term_replay.specs.Stands.{Stands, first_after, head_of}
use Rattle.term_replay.proofs.Numbers.{side_small, sure_choice}
use Rattle.term_replay.proofs.after.after_sides.Goals as goal

pub returns-in-Some-Some-Some-clause-value : goal.returns-in-Some-Some-Some-clause-value
returns-in-Some-Some-Some-clause-value c = λ v first i x y sm sa sc.
    let k = c.in-Some-Some-Some in
    let small = subst (λ o. IfSome o (IsSmall (head_in c.args.test.now))) k.is-0 c.requires.by in
    subst (λ n. Stands v first (t.choice (head_of (head_in c.args.term.now)) i x y) (whole_of (number_at (head_in c.args.term.now) n))) (sym c.side.ensures)
    (sure_choice v first (head_in c.args.term.now) (head_in c.args.test.now) i x y k.by k.one k.two small (subst (λ o. Stands v first i (held (head_in c.args.test.now) o c.args.tested.now)) k.is-0 sm) (subst (λ o. Stands v (first_after v first i) x (held (head_in c.args.term.now) o c.args.other.now)) k.is-1 sa) (subst (λ o. Stands v (first_after v (first_after v first i) x) y (held (head_in c.args.term.now) o c.args.place.now)) k.is-2 sc))

pub returns-in-Some-Some-Some-clause-small : goal.returns-in-Some-Some-Some-clause-small
returns-in-Some-Some-Some-clause-small c =
    let k = c.in-Some-Some-Some in
    subst (IsSmall (head_in c.args.term.now)) (sym c.side.ensures) (side_small (head_in c.args.term.now) (k.by == 0) k.one k.two (subst (λ o. IfSome o (IsSmall (head_in c.args.term.now))) k.is-1 c.requires.one) (subst (λ o. IfSome o (IsSmall (head_in c.args.term.now))) k.is-2 c.requires.two))

pub after_choice-requires-clause-sides : goal.after_choice-requires-clause-sides
after_choice-requires-clause-sides c = rw (c.held-one.ensures, c.held-two.ensures) c.requires.sides

pub returns-in_default-clause-value : goal.returns-in_default-clause-value
returns-in_default-clause-value c = λ v first i x y sm sa sc.
    c.after_choice.ensures.value v first i x y (subst (Stands v first i) (sym c.held-by.ensures) sm) (subst (Stands v (first_after v first i) x) (sym c.held-one.ensures) sa) (subst (Stands v (first_after v (first_after v first i) x) y) (sym c.held-two.ensures) sc)
