use Rattle.std.proofs.Common.{◌≡◌, ◌+◌, ◌<◌, ◌++◌, false, List, ap, drop, get_or, length, subst, sym, take, ℕ, ◌∙◌}
use Rattle.std.specs.Prelude.{Contains, vec_capacity}
use Rattle.memory_rebuild.specs.declared.word.Word.{Word}
use Rattle.memory_rebuild.specs.Epochs.{AreKept, weakened}
use Rattle.memory_rebuild.specs.Words.{count, least, may_be, word_after, word_at}
use Rattle.memory_rebuild.proofs.Kept.{kept_weakened, weakened_words, whole_slice, words_of}
use Rattle.memory_rebuild.proofs.Laws.{anywhere_left}
use Rattle.memory_rebuild.proofs.rebuilt.Rebuilt.put_anywhere.Goals as goal
use Rattle.memory_rebuild.proofs.rebuilt.Rebuilt.put_anywhere.Goals.{After-weaken}

size : (c : After-weaken) → length c.weaken.new.words ≡ length c.self.inside.words.items
size c = c.weaken.ensures.size ∙ ap length c.as_mut_slice.ensures.value

-- all words were lent
whole : (c : After-weaken) → take c.self.inside.words.len (c.weaken.new.words ++ drop (length c.weaken.new.words) c.self.inside.words.items) ≡ c.weaken.new.words
whole c = whole_slice c.self.inside.words.len c.weaken.new.words c.self.inside.words.items (size c) (sym c.as_mut_slice.ensures.len ∙ ap length c.as_mut_slice.ensures.value)

epochs : (c : After-weaken) → (q : ℕ) (d : Word) → q < length c.self.inside.words.items → (get_or c.weaken.new.words q d).epoch ≡ (get_or c.self.inside.words.items q d).epoch
epochs c = subst (λ (ws : List Word). (q : ℕ) (d : Word) → q < length ws → (get_or c.weaken.new.words q d).epoch ≡ (get_or ws q d).epoch) c.as_mut_slice.ensures.value c.weaken.ensures.epochs

listed : (c : After-weaken) → (q : ℕ) (d : Word) → q < length c.self.inside.words.items → Contains c.self.inside.written.items q → (get_or c.weaken.new.words q d).value.bits ≡ weakened (may_be c.self.inside.shape c.args.index.now (least c.self.inside.shape + q)) c.args.value.now.bits (get_or c.self.inside.words.items q d).value.bits
listed c =
    subst (λ (ms : List ℕ). (q : ℕ) (d : Word) → q < length c.self.inside.words.items → Contains ms q → (get_or c.weaken.new.words q d).value.bits ≡ weakened (may_be c.self.inside.shape c.args.index.now (least c.self.inside.shape + q)) c.args.value.now.bits (get_or c.self.inside.words.items q d).value.bits) c.as_slice.ensures.value
    (subst (λ (ws : List Word). (q : ℕ) (d : Word) → q < length ws → Contains c.as_slice.result.now q → (get_or c.weaken.new.words q d).value.bits ≡ weakened (may_be c.self.inside.shape c.args.index.now (least c.self.inside.shape + q)) c.args.value.now.bits (get_or ws q d).value.bits) c.as_mut_slice.ensures.value c.weaken.ensures.listed)

pub invariant_of-self : goal.invariant_of-self
invariant_of-self c =
    let a : After-weaken = (goal.at.invariant_of-self c).After-weaken in
    subst (λ (vs : List Word). AreKept c.self.inside.shape c.self.inside.epoch vs c.self.inside.written.items (vec_capacity c.self.inside.written)) (sym (whole a))
    (kept_weakened c.self.inside.shape c.self.inside.epoch (vec_capacity c.self.inside.written) c.self.inside.words.items c.weaken.new.words c.self.inside.written.items c.self.invariant (size a) c.weaken.ensures.fit (epochs a))

pub returns-clause-words : goal.returns-clause-words
returns-clause-words c =
    let a : After-weaken = (goal.at.returns-clause-words c).After-weaken in
    subst (λ (vs : List Word). (q : ℕ) → q < count c.args.self.now.shape → word_at (words_of c.self.inside.shape c.self.inside.epoch vs) (least c.args.self.now.shape + q) ≡ word_after c.args.self.now c.args.index.now c.args.value.now.bits false (least c.args.self.now.shape + q)) (sym (whole a))
    (anywhere_left c.args.self.now (words_of c.self.inside.shape c.self.inside.epoch c.weaken.new.words) c.args.index.now c.args.value.now.bits c.requires.index
    (weakened_words c.self.inside.shape c.self.inside.epoch (vec_capacity c.self.inside.written) c.self.inside.words.items c.weaken.new.words c.self.inside.written.items c.args.self.now c.args.index.now c.args.value.now.bits c.self.invariant c.self.view_is (size a) c.requires.width (epochs a) (listed a)))
