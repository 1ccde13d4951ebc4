use Rattle.std.proofs.Common.{◌≡◌, ◌∙◌, ◌<◌, length, get_or, sym, ap, subst, arith}
use Rattle.std.specs.List.{Contains}
use Rattle.early_sets.specs.Adds.{Adds}
use Rattle.early_sets.specs.WakeState.{state_of}
use Rattle.early_sets.proofs.NextRound.{more_derived, next_round, same_rest}
use Rattle.early_sets.proofs.wakes.Wakes.next_round.Goals as goal

pub overflow_add-round : goal.overflow_add-round
overflow_add-round g c =
    let a = state_of c.args.self.now in
    let s = state_of c.find_ready.new.self in
    let ready = c.find_ready.new.self.ready.items in
    let one : 0 < length ready = omega (arith, c.len.ensures.value, c.if-len-eq0.false) in
    let before : s.derived ≡ a.derived = ap (λ w. w.derived) c.find_ready.ensures.rest in
    let b = record a { derived = c.add_derived.new.self.derived.items } in
    let more = more_derived c.args.round a b ready c.find_ready.ensures.ready one (subst (λ xs. Adds (Contains ready) xs b.derived) before c.add_derived.ensures.derived) in
    omega (arith, more, c.requires, c.add_derived.ensures.within, ap (λ v. length v.items) c.add_derived.ensures.told, c.find_ready.new.self.sizes.told_are, c.find_ready.new.self.sizes.few)

pub returns-clause-next : goal.returns-clause-next
returns-clause-next g c went =
    let a = state_of c.args.self.now in
    let s = state_of c.find_ready.new.self in
    let b = state_of c.find_moves.new.self in
    let ready = c.find_ready.new.self.ready.items in
    let same = c.find_ready.ensures.rest in
    let found = c.find_moves.ensures.rest in
    let one : 0 < length ready = omega (arith, c.len.ensures.value, c.if-len-eq0.false) in
    let before : s.derived ≡ a.derived = ap (λ w. w.derived) same in
    let after = ap (λ w. w.derived) found in
    let numbers = ap (λ w. w.rounds) found in
    next_round c.args.round a b ready c.find_ready.ensures.ready one (subst (λ xs. Adds (Contains ready) xs b.derived) before (subst (Adds (Contains ready) s.derived) (sym after) c.add_derived.ensures.derived))
    (same_rest a b
    (ap (λ w. w.tables) found ∙ ap (λ w. w.tables) same)
    (ap (λ w. w.told) found ∙ ap (λ v. v.items) c.add_derived.ensures.told ∙ ap (λ w. w.told) same)
    (ap (λ w. w.untold) found ∙ ap (λ w. w.untold) same)
    (ap (λ w. w.writers) found ∙ ap (λ w. w.writers) same)
    (ap (λ w. w.own) found ∙ ap (λ v. v.items) c.add_derived.ensures.own ∙ ap (λ w. w.own) same)
    (ap (λ w. w.noted) found ∙ ap (λ w. w.noted) same)
    (ap (λ w. w.changed) found ∙ ap (λ v. v.items) c.add_derived.ensures.changed ∙ ap (λ w. w.changed) same)
    (ap (λ w. w.early) found ∙ ap (λ w. w.early) same))
    (λ x h. ap (λ xs. get_or xs x 0) numbers ∙ c.number.ensures.members x h)
    (λ x h. ap (λ xs. get_or xs x 0) numbers ∙ c.number.ensures.others x h ∙ ap (λ w. get_or w.rounds x 0) same)
    c.find_moves.ensures.moves

pub returns-clause-more : goal.returns-clause-more
returns-clause-more g c went =
    let a = state_of c.args.self.now in
    let s = state_of c.find_ready.new.self in
    let b = state_of c.find_moves.new.self in
    let ready = c.find_ready.new.self.ready.items in
    let found = c.find_moves.ensures.rest in
    let one : 0 < length ready = omega (arith, c.len.ensures.value, c.if-len-eq0.false) in
    let before : s.derived ≡ a.derived = ap (λ w. w.derived) c.find_ready.ensures.rest in
    let after = ap (λ w. w.derived) found in (
      more_derived c.args.round a b ready c.find_ready.ensures.ready one (subst (λ xs. Adds (Contains ready) xs b.derived) before (subst (Adds (Contains ready) s.derived) (sym after) c.add_derived.ensures.derived)),
      omega (arith, ap length after, c.add_derived.ensures.within, ap (λ v. length v.items) c.add_derived.ensures.told, c.find_ready.new.self.sizes.told_are, ap (λ w. w.tables.things) found),
    )
