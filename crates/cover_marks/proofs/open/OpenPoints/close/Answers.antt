use Rattle.std.proofs.Common.{◌∙◌, ◌-◌, ℕ, List, cond, get_or, length, nat_eq, refl, ap, arith}
use Rattle.std.proofs.lemmas.List.{with_items_is}
use Rattle.cover_marks.proofs.Counts.{closed, hit_past}
use Rattle.cover_marks.proofs.open.OpenPoints.close.Goals as goal

pub returns-in-Some : goal.returns-in-Some
returns-in-Some c = λ owners verdicts h m was.
    let x = c.args.self.now in
    let o = c.in-Some.owner.now in
    let whole = with_items_is x.counts c.lower.new.counts (omega arith) in
    closed owners verdicts x h _ c.args.point o (omega (arith, ap length c.deref.ensures.value, c.in-Some.ensures.lookup.3.0)) (c.in-Some.ensures.lookup.3.1 0 ∙ ap (λ (ns : List ℕ). get_or ns c.args.point 0) c.deref.ensures.value) m was refl
    (λ p. ap (λ (ns : List ℕ). get_or ns p 0) whole ∙ c.lower.ensures p ∙ ap (λ (ns : List ℕ). get_or ns p 0 - cond (nat_eq p o) 1 0) c.as_mut_slice.ensures.value)

pub returns-in-None : goal.returns-in-None
returns-in-None c = λ owners verdicts h m was. hit_past owners verdicts c.args.self.now h c.args.point (omega (arith, ap length c.deref.ensures.value, c.in-None.ensures.lookup.3))
