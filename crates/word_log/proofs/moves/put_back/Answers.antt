use Rattle.std.proofs.Common.{◌≡◌, Some, ap, get_or, set, subst, sym, ◌∙◌}
use Rattle.std.proofs.lemmas.List.{get_or_default}
use Rattle.std.proofs.lemmas.List.Elements.{All-pop}
use Rattle.word_log.specs.declared.entry.OverwrittenWord.{OverwrittenWord}
use Rattle.word_log.specs.Entries.{Fits, put}
use Rattle.word_log.specs.Memories.{SameShapes, memory_in, with_word, word_in}
use Rattle.word_log.proofs.Shapes.{all_under, no_stored, put_shapes}
use Rattle.word_log.proofs.Undone.{kept_fits, moved_one}
use Rattle.word_log.proofs.moves.put_back.Goals as goal
use Rattle.word_log.proofs.moves.put_back.Goals.{After-push_reserved}

fit : (c : After-push_reserved) → Fits c.args.memories.now c.in-Some.entry
fit c = (All-pop (Fits c.args.memories.now) c.args.from.now.items c.pop.new.self.items (Some c.in-Some.entry) c.in-Some.ensures.items c.requires.fit).1

was : (c : After-push_reserved) → get_or c.args.memories.now c.in-Some.entry.memory c.index-memories-entry.result ≡ memory_in c.args.memories.now c.in-Some.entry.memory
was c = get_or_default c.args.memories.now c.in-Some.entry.memory c.index-memories-entry.result no_stored (fit c).inside

is : (c : After-push_reserved) → set c.args.memories.now c.in-Some.entry.memory c.swap-overwritten.new.self ≡ put c.in-Some.entry c.args.memories.now
is c =
    let e : OverwrittenWord = c.in-Some.entry in
    ap (set c.args.memories.now e.memory) (c.swap-overwritten.ensures.stored ∙ ap (λ r. with_word r e.place e.value.bits e.written) (was c))

shapes : (c : After-push_reserved) → SameShapes c.args.memories.now (set c.args.memories.now c.in-Some.entry.memory c.swap-overwritten.new.self)
shapes c = subst (SameShapes c.args.memories.now) (sym (is c)) (put_shapes c.args.memories.now c.in-Some.entry (fit c))

pub returns-clause-moved : goal.returns-clause-moved
returns-clause-moved c =
    let e : OverwrittenWord = c.in-Some.entry in
    let f : OverwrittenWord = c.swap-overwritten.result in
    moved_one c.args.from.now.items c.args.to.now.items c.pop.new.self.items c.push_reserved.new.self.items c.args.memories.now (set c.args.memories.now e.memory c.swap-overwritten.new.self) e f c.in-Some.ensures.items c.push_reserved.ensures.items (fit c)
    (ap (λ y. y.memory) c.swap-overwritten.ensures.value) (ap (λ y. y.place) c.swap-overwritten.ensures.value)
    (ap (λ y. y.value.bits) c.swap-overwritten.ensures.value ∙ ap (λ r. word_in r e.place) (was c))
    (ap (λ y. y.written) c.swap-overwritten.ensures.value ∙ ap (λ r. r.written) (was c))
    (is c)

pub returns-clause-fit : goal.returns-clause-fit
returns-clause-fit c =
    all_under c.args.memories.now (set c.args.memories.now c.in-Some.entry.memory c.swap-overwritten.new.self) c.pop.new.self.items (shapes c) (All-pop (Fits c.args.memories.now) c.args.from.now.items c.pop.new.self.items (Some c.in-Some.entry) c.in-Some.ensures.items c.requires.fit).0

-- what is added is of the same word
added_fits : (c : After-push_reserved) → Fits c.args.memories.now c.swap-overwritten.result
added_fits c =
    let e : OverwrittenWord = c.in-Some.entry in
    let f : Fits c.args.memories.now e = fit c in
    subst (Fits c.args.memories.now) (sym c.swap-overwritten.ensures.value)
    (record {
      inside = f.inside;
      place = f.place;
      listed = f.listed;
      held = f.held;
      width = c.swap-overwritten.ensures.width ∙ ap (λ r. r.words.shape.width) (was c);
      sign_is = ap (λ r. r.words.shape.signed) (was c);
    })

pub returns-clause-fit_to : goal.returns-clause-fit_to
returns-clause-fit_to c =
    kept_fits c.args.memories.now (set c.args.memories.now c.in-Some.entry.memory c.swap-overwritten.new.self) c.args.to.now.items c.push_reserved.new.self.items c.swap-overwritten.result c.push_reserved.ensures.items (added_fits c) (shapes c) c.requires.fit_to
