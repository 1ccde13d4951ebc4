use Rattle.std.proofs.Common.{◌≡◌, ◌∷◌, ◌++◌, [], ap, map, subst, sym, ◌∙◌}
use Rattle.index_sets.specs.Members.{Members}
use Rattle.word_log.specs.Seen.{words_seen}
use Rattle.word_log.proofs.SeenSets.{empty_more, map_push}
use Rattle.word_log.proofs.seen.add_set.Goals as goal

pub returns-clause-sizes : goal.returns-clause-sizes
returns-clause-sizes c =
    ap (map (λ (s : Members). s.size)) c.in_ok-push.ensures.items ∙ map_push (λ (s : Members). s.size) c.args.sets.now.items _
    ∙ ap (λ n. map (λ (s : Members). s.size) c.args.sets.now.items ++ n ∷ []) c.in_ok-new.ensures.size

pub returns-clause-empty : goal.returns-clause-empty
returns-clause-empty c = λ none i. subst (λ sets. words_seen sets i ≡ []) (sym c.in_ok-push.ensures.items) (empty_more c.args.sets.now.items _ c.in_ok-new.ensures.items none i)
