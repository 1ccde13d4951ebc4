use Rattle.std.proofs.Common.{◌∙◌}
use Rattle.std.proofs.lemmas.List.Filters.{dedup_is}
use Rattle.std.proofs.lemmas.List.Kept.{Contains-dedup, Contains-from_dedup, IsStrictlySortedBy-dedup}
use Rattle.std.proofs.lemmas.List.Sorted.{Contains-permutation, IsPermutation-sym}
use Rattle.fsm_extract.proofs.sorted.sorted.Goals as goal

pub returns : goal.returns
returns g c =
    let whole = c.from_vec.ensures ∙ dedup_is _ _ _ c.dedup.ensures.filtered in
    let moved = c.sort_unstable.ensures.permutation in
    record {
      rising = rw whole (IsStrictlySortedBy-dedup g.met.T.Ord.total g.met.T.Ord.matches_eq _ c.sort_unstable.ensures.sorted);
      same = λ item. (λ h. Contains-permutation _ _ item (IsPermutation-sym _ _ moved) (Contains-from_dedup _ _ item (rw whole at h)), λ h. rw whole (Contains-dedup g.met.T.Eq.laws c.requires _ item (Contains-permutation _ _ item moved h)));
    }
