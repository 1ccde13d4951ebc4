-- What a block adds to a tally.
use Rattle.std.proofs.Common.{◌≡◌, ℕ, ◌≤◌, ◌+◌, ◌-◌, true, false, List, ◌++◌, map, drop, take, length, sym, ap, ◌∙◌, arith}
use Rattle.std.proofs.Math.Seq.{drop-append_seam}
use Rattle.std.proofs.lemmas.List.{drop-map, length-append, length-map, take_rest}
use Rattle.flat_design.specs.Bodies.{Met}
use Rattle.flat_design.specs.Processes.{writings}
use Rattle.elab_scope.specs.Tally.{Tally, after_all}
use Rattle.elab_scope.proofs.TallyLemmas.{after_all-append, after_all_ended, all_written}

-- the targets that were met are written after those before, where no limit is passed
pub written_since : (t u : Tally) (ms : List Met) → u ≡ after_all t ms → u.ended ≡ false → u.writings ≡ t.writings ++ writings ms
written_since t u ms is open' = ap (λ s. s.writings) is ∙ all_written t ms (ap (λ s. s.ended) (sym is) ∙ open')

-- the end of a list, by what its items represent
pub end_seen : {A B : Type 0} (f : A → B) (xs : List A) (all : List B) (n : ℕ) → map f xs ≡ all → map f (take (length xs - n) (drop n xs)) ≡ drop n all
end_seen f xs all n seen = ap (map f) (take_rest xs n) ∙ sym (drop-map f n xs) ∙ ap (drop n) seen

-- what comes after those that were there
pub drop_before : {A B : Type 0} (f : A → B) (xs : List A) (before behind all : List B) → map f xs ≡ before → all ≡ before ++ behind → drop (length xs) all ≡ behind
drop_before f xs before behind all seen is = ap (drop (length xs)) is ∙ ap (λ n. drop n (before ++ behind)) (sym (length-map xs f) ∙ ap length seen) ∙ drop-append_seam before behind

-- of which there are no more than all
pub no_more : {A B : Type 0} (f : A → B) (xs : List A) (before behind all : List B) → map f xs ≡ before → all ≡ before ++ behind → length xs ≤ length all
no_more f xs before behind all seen is =
    let some : length xs ≡ length before = sym (length-map xs f) ∙ ap length seen in
    let whole : length all ≡ length before + length behind = ap length is ∙ length-append before behind in
    omega arith

-- what is met after a limit that is passed does not count
pub nothing_more : (t u : Tally) (ms ns : List Met) → u ≡ after_all t ms → u.ended ≡ true → u ≡ after_all t (ms ++ ns)
nothing_more t u ms ns is ended = sym (after_all_ended u ns ended) ∙ ap (λ s. after_all s ns) is ∙ sym (after_all-append t ms ns)
