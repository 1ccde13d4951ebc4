-- Hits that a sink takes, one after the other.
use Rattle.std.proofs.Common.{List, [], map, sym, ◌++◌}
use Rattle.std.proofs.lemmas.List.{map-append}
use Rattle.value_store.specs.body_replay.Replay.{Mark, Spot, hit}
use Rattle.term_replay.specs.Noted.{Adds}
use Rattle.term_replay.proofs.Marking.{adds_both, adds_none, adds_same}

module _ {T S : Type 0} (noted : T → List Mark → S → Type 0) where
  pub hits_none : (s : S) → Adds noted s (map hit []) s
  hits_none s = adds_none noted s

  pub hits_then : (s t u : S) (xs ys : List Spot) → Adds noted s (map hit xs) t → Adds noted t (map hit ys) u → Adds noted s (map hit (xs ++ ys)) u
  hits_then s t u xs ys a b = adds_same noted s u _ _ (sym (map-append hit xs ys)) (adds_both noted s t u _ _ a b)

-- with the hits of the rest the sink takes all
pub record HitsOn {T S : Type 0} (noted : T → List Mark → S → Type 0) (before : S) (all : List Spot) (now : S) (rest : List Spot) : Type 0 where
  pub goes : (after : S) → Adds noted now (map hit rest) after → Adds noted before (map hit all) after

module _ {T S : Type 0} (noted : T → List Mark → S → Type 0) (before : S) (all : List Spot) where
  pub hits_start : HitsOn noted before all before all
  hits_start = record { goes = λ after a. a }

  pub hits_further : (now next : S) (xs rest : List Spot) → HitsOn noted before all now (xs ++ rest) → Adds noted now (map hit xs) next → HitsOn noted before all next rest
  hits_further now next xs rest h a = record { goes = λ after b. h.goes after (hits_then noted now next after xs rest a b) }

  pub hits_end : (now : S) → HitsOn noted before all now [] → Adds noted before (map hit all) now
  hits_end now h = h.goes now (hits_none noted now)
