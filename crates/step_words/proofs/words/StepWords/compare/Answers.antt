use Rattle.std.proofs.Common.{◌≡◌, ◌<◌, ◌≤◌, ap, ap₂, arith, length, subst, sym, ◌∙◌}
use Rattle.std.proofs.lemmas.List.{take_all}
use Rattle.design_model.specs.Design.{Design}
use Rattle.design_model.specs.View.{design_view}
use Rattle.store_knowledge.specs.body_replay.Store.{Kept}
use Rattle.store_knowledge.specs.Knows.{Knows}
use Rattle.word_log.specs.Seen.{words_seen}
use Rattle.written_words.specs.Same.{FollowsAll}
use Rattle.written_words.specs.Written.{range_at}
use Rattle.step_words.specs.Words.{AreWordChanges, FitsRanges, HasWords, after_memories, after_places, unchanged}
use Rattle.step_words.proofs.Compared.{compared_changes, compared_words}
use Rattle.step_words.proofs.Fitting.{cleared_is, unchanged_fits}
use Rattle.step_words.proofs.Walking.{memory_more}
use Rattle.step_words.proofs.words.StepWords.compare.Goals as goal

pub loop-listed-init : goal.loop-listed-init
loop-listed-init c =
    let x = c.args.self.now in
    let e = design_view c.args.store.now.design.now in
    let ranges = c.args.written.now.ranges in
    let inside = c.self.inside in
    let is = cleared_is x inside.first inside.memories.items inside.changed inside.unsteady c.clear.new.self c.clear-2.new.self c.self.view_is c.clear.ensures.size c.clear.ensures.items c.clear-2.ensures.size c.clear-2.ensures.items in
    record {
      fits = subst (FitsRanges e ranges) (sym is) (unchanged_fits e ranges x c.requires.fits);
      words = λ d k h. is;
    }

pub loop-listed-preserved : goal.loop-listed-preserved
loop-listed-preserved c =
    let l = c.loop-listed in
    let x = c.args.self.now in
    let w = c.args.written.now in
    let count = c.memory_count-listed-end.ensures.value in
    let inside : l.listed < length w.memories.items = omega (arith, count) in
    record {
      fits = c.compare_memory.ensures.fits;
      words = λ d k h.
          c.compare_memory.ensures.words d k h
          ∙ ap₂ (λ m y. after_places d k m (range_at w.ranges m).least (words_seen w.words m) y) c.memory.ensures.value (l.invariant.words d k h)
          ∙ sym (memory_more d k w w.memories.items l.listed (unchanged x) inside);
    }

-- all that is written is compared once the loop has ended
all_compared : (c : goal.After-loop-listed) (d : Design) (k : Kept) → Knows d k c.args.store.now → c.loop-listed.self ≡ after_memories d k c.args.written.now c.args.written.now.memories.items (unchanged c.args.self.now)
all_compared c d k h =
    let l = c.loop-listed in
    let w = c.args.written.now in
    let count = c.memory_count-listed-end.ensures.value in
    let all : length w.memories.items ≤ l.listed = omega (arith, count) in
    l.invariant.words d k h ∙ ap (λ ms. after_memories d k w ms (unchanged c.args.self.now)) (take_all l.listed w.memories.items all)

pub returns-clause-words : goal.returns-clause-words
returns-clause-words c = λ d old new h same words.
    let x = c.args.self.now in
    let w = c.args.written.now in
    let fits : FitsRanges d w.ranges x = subst (λ e. FitsRanges e w.ranges x) h.design c.requires.fits in
    let first : w.first ≡ length d.signals = c.requires.first ∙ ap (λ (e : Design). length e.signals) h.design in
    subst (HasWords d new w.ranges) (sym (all_compared c d new h)) (compared_words d old new w x c.memory_count-listed-end.ensures.sets first fits words same)

pub returns-clause-changes : goal.returns-clause-changes
returns-clause-changes c = λ d old new h same words.
    let x = c.args.self.now in
    let w = c.args.written.now in
    let fits : FitsRanges d w.ranges x = subst (λ e. FitsRanges e w.ranges x) h.design c.requires.fits in
    let first : w.first ≡ length d.signals = c.requires.first ∙ ap (λ (e : Design). length e.signals) h.design in
    subst (AreWordChanges d (FollowsAll d w) old new) (sym (all_compared c d new h)) (compared_changes d old new w x c.memory_count-listed-end.ensures.sets first fits words same)
