use Rattle.std.proofs.Common.{◌≡◌, ◌∙◌, ◌++◌, ◌∷◌, [], length, ap, arith}
use Rattle.index_sets.proofs.RowsLemmas.{lists_more, starts_more}
use Rattle.index_sets.proofs.rows.Rows.from_lists.Goals as goal

pub loop-list-preserved : goal.loop-list-preserved
loop-list-preserved g c =
    let xs = c.loop-list.items.items in
    let ws = c.list-item.result.items in
    let starts = c.loop-list.starts.items in
    let added : c.extend_from_slice.new.self.items ≡ xs ++ ws = c.in_ok-extend_from_slice.ensures.items ∙ ap (λ zs. xs ++ zs) c.as_slice.ensures.value in
    let size : c.len.result ≡ length (xs ++ ws) = omega (arith, c.len.ensures, c.extend_from_slice.new.self.ok.0, ap length added) in
    let pushed : c.push-in-loop-list.new.self.items ≡ starts ++ length (xs ++ ws) ∷ [] = c.in_ok-push-2.ensures.items ∙ ap (λ n. starts ++ n ∷ []) size in
    rw (added, pushed) (lists_more (λ list. list.items) c.args.lists.now c.loop-list.list-index c.list-item.result xs starts c.loop-list-test.true c.list-item.is c.loop-list.invariant.0 c.loop-list.invariant.1, starts_more xs ws starts c.loop-list.invariant.1)
