use Rattle.std.proofs.Common.{◌-◌, ◌<◌, ◌&&◌, [], Bool, ap, arith, length, not, sym, ◌∙◌}
use Rattle.std.proofs.lemmas.List.{get_or_default}
use Rattle.step_words.specs.Changes.{are_whole}
use Rattle.step_words.specs.Words.{StepState, is_still}
use Rattle.step_words.proofs.Lists.{member_is}
use Rattle.step_words.proofs.words.StepWords.is_still.Goals as goal

pub returns-then-not-contains : goal.returns-then-not-contains
returns-then-not-contains c =
    let k = c.args.memory - c.self.inside.first in
    let words = c.self.inside.memories.items in
    let unsteady = c.self.inside.unsteady.items in
    let is = member_is c.contains.result unsteady k c.contains.ensures in
    let first = ap (λ (x : StepState). x.first) c.self.view_is in
    let size = ap (λ (x : StepState). length x.words) c.self.view_is in
    let low = c.requires.first in
    let high = c.requires.within in
    let inside : k < length words = omega (arith, first, size, low, high) in
    c.is_whole.ensures ∙ ap are_whole (c.index.ensures ∙ get_or_default words k c.index.result.now [] inside)
    ∙ sym (ap (λ (t : Bool). t && are_whole (Rattle.std.specs.Prelude.slice_index_or words k [])) (ap not (sym is ∙ c.if-not-contains.true)))
    ∙ ap (λ (x : StepState). is_still x c.args.memory) c.self.view_is

pub returns-else-not-contains : goal.returns-else-not-contains
returns-else-not-contains c =
    let k = c.args.memory - c.self.inside.first in
    let words = c.self.inside.memories.items in
    let is = member_is c.contains.result c.self.inside.unsteady.items k c.contains.ensures in
    ap not c.if-not-contains.false ∙ sym (ap (λ (t : Bool). t && are_whole (Rattle.std.specs.Prelude.slice_index_or words k [])) (ap not (sym is ∙ c.if-not-contains.false)))
    ∙ ap (λ (x : StepState). is_still x c.args.memory) c.self.view_is
