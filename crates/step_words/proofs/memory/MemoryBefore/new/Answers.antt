use Rattle.std.proofs.Common.{◌≡◌, None, ap, ap₂, arith, length, map, replicate, sym, ◌∙◌}
use Rattle.std.proofs.lemmas.List.{length-replicate}
use Rattle.known_state.specs.Partly.{Partly, are_sure}
use Rattle.store_knowledge.specs.body_replay.KnownBits.{KnownBits}
use Rattle.written_words.specs.declared.range.WordRange.{WordRange}
use Rattle.step_words.specs.Changes.{count_unsure}
use Rattle.step_words.proofs.Counts.{count_same, none_sure}
use Rattle.step_words.proofs.Lists.{map_replicate}
use Rattle.step_words.proofs.memory.MemoryBefore.new.Goals as goal

pub invariant_of-result : goal.invariant_of-result
invariant_of-result c =
    let n = c.followed_range-count.result.count in
    let u = c.unknown-unknown.result in
    let items : c.in_ok-vec.field-0.items ≡ replicate n u = c.in_ok-vec.ensures.items_if_clones_equal (λ y e. e) in
    let unsure : are_sure u.bits ≡ are_sure (replicate c.args.memory.now.width None) = ap (λ (w : Partly). are_sure w.bits) c.unknown-unknown.ensures in
    let size = ap length items ∙ length-replicate n u in
    let small = c.followed_range-count.ensures.small in (
      sym (ap (λ (ws : Rattle.std.specs.Prelude.List Partly). count_unsure (map (λ w. w.bits) ws)) items ∙ ap count_unsure (map_replicate (λ (w : Partly). w.bits) n u) ∙ count_same n u.bits (unsure ∙ none_sure c.args.memory.now.width c.requires.at_least)),
      omega (arith, size, small),
    )

pub returns : goal.returns
returns c =
    let n = c.followed_range-count.result.count in
    let u = c.unknown-unknown.result in
    let items : c.in_ok-vec.field-0.items ≡ replicate n u = c.in_ok-vec.ensures.items_if_clones_equal (λ y e. e) in
    ap (map (λ (w : Partly). w.bits)) items ∙ map_replicate (λ (w : Partly). w.bits) n u
    ∙ ap₂ (λ k (b : KnownBits). replicate k b) (ap (λ (r : WordRange). r.count) c.followed_range-count.ensures.value) (ap (λ (w : Partly). w.bits) c.unknown-unknown.ensures)
