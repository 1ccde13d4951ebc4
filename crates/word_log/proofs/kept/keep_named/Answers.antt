use Rattle.std.proofs.Common.{◌≡◌, ◌+◌, ◌<◌, ◌≤◌, ◌++◌, ◌∷◌, [], List, ℕ, ap, arith, get_or, length, length-append, refl, subst, sym, take, vec_capacity, ◌∙◌}
use Rattle.std.proofs.lemmas.List.{take_all, take_more}
use Rattle.memory_rebuild.specs.Words.{count}
use Rattle.word_log.specs.declared.entry.OverwrittenWord.{OverwrittenWord}
use Rattle.word_log.specs.Keeps.{IsTaken}
use Rattle.word_log.proofs.Keeping.{NamedSoFar, entry_taken, named_kept, named_more, named_none, named_same}
use Rattle.word_log.proofs.kept.keep_named.Goals as goal
use Rattle.word_log.proofs.kept.keep_named.Goals.{then-may_name, else-may_name}

pub loop-place-init : goal.loop-place-init
loop-place-init c = record { named = named_none c.args.stored.now c.args.memory c.args.index.now c.args.done.now.items; few = omega arith; capacity = refl }

pub loop-place-preserved : goal.loop-place-preserved
loop-place-preserved c =
    let l = c.loop-place in
    let r = c.args.stored.now in
    let m = c.args.memory in
    let index = c.args.index.now in
    let before : List OverwrittenWord = c.args.done.now.items in
    let places : List ℕ = c.written_places-places.result.now in
    let p : ℕ = get_or places l.place-index 0 in
    let below : l.place-index < length places = omega arith in
    let more : take (l.place-index + 1) places ≡ take l.place-index places ++ p ∷ [] = take_more places l.place-index 0 below in
    let inside : p < count r.words.shape = c.written_places-places.ensures.inside l.place-index 0 below in
    elim c.if-may_name.branch [
      | then-may_name w ↦
          (let same : c.if-may_name.done.items ≡ w.push_reserved.new.self.items = ap (λ v. v.items) w.done-is in
          let e : OverwrittenWord = w.entry.result in
          let taken : IsTaken r m e = entry_taken r m p e inside w.entry.ensures.value w.entry.ensures.width w.entry.ensures.size in
          let place : e.place ≡ p = ap (λ y. y.place) w.entry.ensures.value in
          record {
            named = subst (λ xs. NamedSoFar r m index xs before c.if-may_name.done.items) (sym more) (named_more r m index (take l.place-index places) p before l.done.items l.invariant.named c.if-may_name.done.items e taken place (same ∙ w.push_reserved.ensures.items));
            few = (let size = ap length (same ∙ w.push_reserved.ensures.items) in omega (arith, size, length-append l.done.items (e ∷ [])));
            capacity = ap (λ v. vec_capacity v) w.done-is ∙ w.push_reserved.ensures.capacity ∙ l.invariant.capacity;
          })
      | else-may_name w ↦
          (let same : c.if-may_name.done.items ≡ l.done.items = ap (λ v. v.items) w.done-is in
          record {
            named = subst (λ xs. NamedSoFar r m index xs before c.if-may_name.done.items) (sym more) (subst (NamedSoFar r m index (take l.place-index places ++ p ∷ []) before) (sym same) (named_same r m index (take l.place-index places) p before l.done.items l.invariant.named (sym c.may_name.ensures ∙ w.if-may_name.false)));
            few = (let size = ap length same in omega (arith, size));
            capacity = ap (λ v. vec_capacity v) w.done-is ∙ l.invariant.capacity;
          })
    ]

pub returns-clause-kept : goal.returns-clause-kept
returns-clause-kept c =
    let l = c.loop-place in
    let r = c.args.stored.now in
    let places : List ℕ = c.written_places-places.result.now in
    let all : length places ≤ l.place-index = omega arith in
    named_kept r c.args.memory c.args.index.now places c.args.done.now.items l.done.items
    (subst (λ xs. NamedSoFar r c.args.memory c.args.index.now xs c.args.done.now.items l.done.items) (take_all l.place-index places all) l.invariant.named)
    c.written_places-places.ensures.others
