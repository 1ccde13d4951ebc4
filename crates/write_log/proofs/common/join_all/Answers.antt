use Rattle.std.proofs.Common.{◌≡◌, ◌+◌, ◌<◌, ◌++◌, ◌∷◌, [], List, length, take, arith, ap, sym, subst, ◌∙◌}
use Rattle.std.proofs.lemmas.List.{take_more}
use Rattle.write_log.specs.Entries.{Joined, Seen}
use Rattle.write_log.specs.declared.entry.Overwritten.{Overwritten}
use Rattle.write_log.proofs.Joins.{joined_both, seen_both}
use Rattle.write_log.proofs.PutBack.{under_both}
use Rattle.write_log.proofs.common.join_all.Goals as goal

pub loop-entry-preserved : goal.loop-entry-preserved
loop-entry-preserved c =
    let es : List Overwritten = c.args.entries.now in
    let first : List Overwritten = take c.loop-entry.entry-index es in
    let l : c.loop-entry.entry-index < length es = omega arith in
    let more : take (c.loop-entry.entry-index + 1) es ≡ first ++ c.entry-item.result ∷ [] = take_more es c.loop-entry.entry-index c.entry-item.result l ∙ ap (λ e. first ++ e ∷ []) (sym c.entry-item.is) in
    record {
      joined = subst (λ fs. Joined c.args.test fs c.args.seen.now.items c.args.signals.now c.join_one.new.signals) (sym more) (joined_both c.args.test first (c.entry-item.result ∷ []) c.args.seen.now.items c.loop-entry.seen.items c.args.signals.now c.loop-entry.signals c.join_one.new.signals c.loop-entry.invariant.seen c.loop-entry.invariant.joined c.join_one.ensures.joined);
      seen = subst (λ fs. Seen fs c.args.seen.now.items c.join_one.new.seen.items) (sym more) (seen_both first (c.entry-item.result ∷ []) c.args.seen.now.items c.loop-entry.seen.items c.join_one.new.seen.items c.loop-entry.invariant.seen c.join_one.ensures.seen);
      size = c.join_one.ensures.size ∙ c.loop-entry.invariant.size;
      under = under_both c.args.signals.now c.loop-entry.signals c.join_one.new.signals c.loop-entry.invariant.under c.join_one.ensures.under;
    }
