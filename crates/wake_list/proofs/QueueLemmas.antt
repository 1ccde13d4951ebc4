-- The queues of all ranks, with a process put in and with one taken out.
use Rattle.std.proofs.Common.{◌≡◌, ⊎_elim, ◌∙◌, ℕ, zero, suc, ◌+◌, ◌-◌, ◌^◌, ◌<◌, ◌≤◌, Bool, true, false, ltb, Option, None, Some, not, is_some, ◌↔◌, List, [], ◌∷◌, ◌++◌, map, length, get_or, set, replicate, refl, sym, ap, subst, arith}
use Rattle.std.proofs.Math.ListN.{get_or-map}
use Rattle.std.proofs.lemmas.Bool.{both_ways, cases_eq, cases_lt, false_from_ne_true, le-ltb, lt-ltb, ltb-false, ltb-true, not-false, not-true, true≢false}
use Rattle.std.proofs.lemmas.List.{ext_get_or, get_or_past, get_or-set_other, get_or-set_same, length-map, length-replicate, length-set, length_push, map-set}
use Rattle.std.specs.Option.{MatchOption}
use Rattle.wake_list.specs.Members.{IsOnce, has}
use Rattle.wake_list.specs.Queues.{AreQueues, IsQueue, chain, last_of, no_queue, processes_of}
use Rattle.wake_list.specs.Tournament.{IsLeast, NoneIsMember}
use Rattle.wake_list.specs.Waiting.{AreOnce, is_waiting, pairs_from, with_process}
use Rattle.wake_list.specs.declared.queue.Queue.{Queue}
use Rattle.wake_list.proofs.ChainLemmas.{chain_first, last_in, last_push, last_rest, length-chain}
use Rattle.wake_list.proofs.MemberLemmas.{has_either, has_first, has_left, has_one, has_rest, has_right, once_few, once_more}
use Rattle.wake_list.proofs.PairLemmas.{not_waiting, pairs_first, pairs_more, pairs_none, pairs_once, waiting_at}

pub no_rank : (o : Option ℕ) → is_some o ≡ false → o ≡ None
no_rank None e = refl
no_rank (Some r) e = cc

-- a rank that is listed is that of a process
pub some_inside : (ranks : List (Option ℕ)) (p r : ℕ) → get_or ranks p None ≡ Some r → p < length ranks
some_inside ranks p r h = ⊎_elim (λ l. l) (λ past. let e : None ≡ Some r = sym (get_or_past ranks p None past) ∙ h in cc) (cases_lt p (length ranks))

module _ (links : List ℕ) (ranks : List (Option ℕ)) (used : List Bool) (queues : List Queue) (h : AreQueues links ranks used queues) where
  abbrev pub lists : List (List ℕ)
  lists = map (processes_of links) queues

  abbrev queue_at : ℕ → Queue
  queue_at r = get_or queues r no_queue

  pub list_at : (r : ℕ) → get_or lists r [] ≡ processes_of links (queue_at r)
  list_at r = get_or-map (processes_of links) queues r no_queue

  length-lists : length lists ≡ length queues
  length-lists = length-map queues (processes_of links)

  ranked_in : (p r : ℕ) → r < length queues → has p (get_or lists r []) ≡ true → get_or ranks p None ≡ Some r
  ranked_in p r l t = (h.queue r l).ranked p (subst (λ ps. has p ps ≡ true) (list_at r) t)

  same_rank : (p j k : ℕ) → get_or ranks p None ≡ Some j → get_or ranks p None ≡ Some k → j ≡ k
  same_rank p j k a b = let e : Some j ≡ Some k = sym a ∙ b in cc

  -- each process is listed once
  pub all_once : AreOnce (pairs_from 0 lists)
  all_once =
      pairs_once lists
      (λ k l. subst IsOnce (sym (list_at k)) (h.queue k (omega (arith, length-lists))).once)
      (λ p j k l m a b. same_rank p j k (ranked_in p j (omega (arith, length-lists)) a) (ranked_in p k (omega (arith, length-lists)) b))

  -- a process with a rank waits, and no other
  pub waits : (p r : ℕ) → get_or ranks p None ≡ Some r → is_waiting p (pairs_from 0 lists) ≡ true
  waits p r e = let there = h.listed p r e in waiting_at p r lists (omega (arith, there.0, length-lists)) (subst (λ ps. has p ps ≡ true) (sym (list_at r)) there.1)

  pub waits_not : (p : ℕ) → get_or ranks p None ≡ None → is_waiting p (pairs_from 0 lists) ≡ false
  waits_not p e = not_waiting p lists (λ k l t. let f : None ≡ Some k = sym e ∙ ranked_in p k (omega (arith, length-lists)) t in cc)

  -- what waits has a rank
  waiting_below : (p : ℕ) → is_waiting p (pairs_from 0 lists) ≡ true → p < length links
  waiting_below p t = go (get_or ranks p None) refl
    where
      go : (o : Option ℕ) → get_or ranks p None ≡ o → p < length links
      go None e = absurd (true≢false (sym t ∙ waits_not p e))
      go (Some r) e = omega (arith, some_inside ranks p r e, h.ranks_size)

  -- no more processes wait than there are links
  pub all_few : length (pairs_from 0 lists) ≤ length links
  all_few =
      let names = map (λ (x : ℕ × ℕ). x.0) (pairs_from 0 lists) in
      omega (arith, once_few names (length links) all_once (λ p t. waiting_below p t), length-map (pairs_from 0 lists) (λ (x : ℕ × ℕ). x.0))

  used_at : (r : ℕ) → get_or used r false ≡ ltb 0 (queue_at r).count
  used_at r = ap (λ bs. get_or bs r false) h.used_is ∙ get_or-map (λ (q : Queue). ltb 0 q.count) queues r no_queue

  empty_at : (r : ℕ) → get_or used r false ≡ false → get_or lists r [] ≡ []
  empty_at r e =
      let none : (queue_at r).count ≡ 0 = omega (arith, ltb-false 0 (queue_at r).count (sym (used_at r) ∙ e)) in
      list_at r ∙ ap (chain links (queue_at r).first) none

  -- no process waits where no rank is used
  pub none_waits : NoneIsMember used → pairs_from 0 lists ≡ []
  none_waits none = pairs_none 0 lists (λ j l. empty_at j (none j))

  -- what is read of the table of ranks
  pub listed_waits : (p : ℕ) (o : Option ℕ) → o ≡ get_or ranks p None → is_some o ≡ true → is_waiting p (pairs_from 0 lists) ≡ true
  listed_waits p None e some = cc
  listed_waits p (Some r) e some = waits p r (sym e)

  -- a used rank has a process
  some_waits : (r : ℕ) → IsLeast r used → pairs_from 0 lists ≡ [] → ⊥
  some_waits r least e =
      let q = queue_at r in
      let below : r < length queues = omega (arith, least.below, ap length h.used_is, length-map queues (λ (x : Queue). ltb 0 x.count)) in
      let some : 0 < q.count = ltb-true 0 q.count (sym (used_at r) ∙ least.member) in
      let there : has q.first (get_or lists r []) ≡ true = subst (λ ps. has q.first ps ≡ true) (sym (list_at r ∙ chain_first links q.first q.count some)) (has_first q.first (chain links (get_or links q.first 0) (q.count - 1))) in
      let waits_there : is_waiting q.first (pairs_from 0 lists) ≡ true = waiting_at q.first r lists (omega (arith, length-lists)) there in
      absurd (true≢false (sym waits_there ∙ ap (is_waiting q.first) e))

  -- whether a process waits, by whether there is a least rank
  pub empty_if : (o : Option ℕ) (b : Bool) → not b ≡ is_some o → MatchOption o (NoneIsMember used) (λ r. IsLeast r used) → (b ≡ true) ↔ (pairs_from 0 lists ≡ [])
  empty_if None b n none = (λ e. none_waits none, λ e. not-false b n)
  empty_if (Some r) b n least = (λ e. absurd (both_ways b (not-true b n) e), λ e. absurd (some_waits r least e))

  -- the last process of a queue
  pub last_inside : (r : ℕ) → r < length queues → 0 < (queue_at r).count → has (queue_at r).last (processes_of links (queue_at r)) ≡ true
  last_inside r l some =
      let q = queue_at r in
      let is = chain_first links q.first q.count some in
      let rest = chain links (get_or links q.first 0) (q.count - 1) in
      let ends : last_of q.first rest ≡ q.last = ap (last_of q.last) (sym is) ∙ (h.queue r l).ends in
      subst (λ ps. has q.last ps ≡ true) (sym is) (subst (λ p. has p (q.first ∷ rest) ≡ true) ends (last_in q.first rest))

  pub last_below : (r : ℕ) → r < length queues → 0 < (queue_at r).count → (queue_at r).last < length links
  last_below r l some = omega (arith, some_inside ranks (queue_at r).last r ((h.queue r l).ranked (queue_at r).last (last_inside r l some)), h.ranks_size)

  -- a process that has no rank yet
  module _ (p r : ℕ) (inside : p < length links) (l : r < length queues) (new : get_or ranks p None ≡ None) where
    not_in : (s : ℕ) → s < length queues → has p (processes_of links (queue_at s)) ≡ false
    not_in s m = false_from_ne_true (has p (processes_of links (queue_at s))) (λ t. let e : None ≡ Some s = sym new ∙ (h.queue s m).ranked p t in cc)

    pub room : (queue_at r).count + 1 < 2 ^ 32
    room =
        let q = queue_at r in
        let ps = processes_of links q in
        let few : length (ps ++ p ∷ []) ≤ length links = once_few (ps ++ p ∷ []) (length links) (once_more p ps (h.queue r l).once (not_in r l)) (λ x t. ⊎_elim (λ a. omega (arith, some_inside ranks x r ((h.queue r l).ranked x a), h.ranks_size)) (λ b. subst (λ n. n < length links) (sym (has_one x p b)) inside) (has_either x ps (p ∷ []) t)) in
        omega (arith, length_push ps p, length-chain links q.first q.count, h.small)

    -- is put in
    module _ (after : List ℕ) (q : Queue) (size : length after ≡ length links) (is : processes_of after q ≡ processes_of links (queue_at r) ++ p ∷ []) (last : q.last ≡ p) (count : q.count ≡ (queue_at r).count + 1) (others : (x n : ℕ) → (0 < (queue_at r).count → has (queue_at r).last (chain links x n) ≡ false) → chain after x n ≡ chain links x n) where
      abbrev pub put_ranks : List (Option ℕ)
      put_ranks = set ranks p (Some r)

      in_ranks : p < length ranks
      in_ranks = omega (arith, h.ranks_size)

      now_ranked : get_or put_ranks p None ≡ Some r
      now_ranked = get_or-set_same ranks p (Some r) None in_ranks

      still_ranked : (x s : ℕ) → get_or ranks x None ≡ Some s → get_or put_ranks x None ≡ Some s
      still_ranked x s e =
          let apart : x ≡ p → ⊥ = λ same. let f : None ≡ Some s = sym new ∙ ap (λ n. get_or ranks n None) (sym same) ∙ e in cc in
          get_or-set_other ranks p x (Some r) None apart ∙ e

      other_list : (s : ℕ) → s < length queues → (s ≡ r → ⊥) → processes_of after (queue_at s) ≡ processes_of links (queue_at s)
      other_list s m ne =
          others (queue_at s).first (queue_at s).count (λ some. false_from_ne_true (has (queue_at r).last (processes_of links (queue_at s))) (λ t. ne (same_rank (queue_at r).last s r ((h.queue s m).ranked (queue_at r).last t) ((h.queue r l).ranked (queue_at r).last (last_inside r l some)))))

      put_queue : IsQueue after put_ranks r q
      put_queue =
          record {
            once = subst IsOnce (sym is) (once_more p (processes_of links (queue_at r)) (h.queue r l).once (not_in r l));
            ends = ap (last_of q.last) is ∙ last_push q.last p (processes_of links (queue_at r)) ∙ sym last;
            ranked = λ x t. ⊎_elim (λ a. still_ranked x r ((h.queue r l).ranked x a)) (λ b. ap (λ n. get_or put_ranks n None) (has_one x p b) ∙ now_ranked) (has_either x (processes_of links (queue_at r)) (p ∷ []) (subst (λ ps. has x ps ≡ true) is t));
          }

      other_queue : (s : ℕ) → s < length queues → (s ≡ r → ⊥) → IsQueue after put_ranks s (queue_at s)
      other_queue s m ne =
          let same = other_list s m ne in
          record {
            once = subst IsOnce (sym same) (h.queue s m).once;
            ends = ap (last_of (queue_at s).last) same ∙ (h.queue s m).ends;
            ranked = λ x t. still_ranked x s ((h.queue s m).ranked x (subst (λ ps. has x ps ≡ true) same t));
          }

      put_at : get_or (set queues r q) r no_queue ≡ q
      put_at = get_or-set_same queues r q no_queue l

      other_at : (s : ℕ) → (s ≡ r → ⊥) → get_or (set queues r q) s no_queue ≡ queue_at s
      other_at s ne = get_or-set_other queues r s q no_queue ne

      pub put_queues : AreQueues after put_ranks (set used r true) (set queues r q)
      put_queues =
          record {
            small = omega (arith, h.small, size);
            ranks_size = length-set ranks p (Some r) ∙ h.ranks_size ∙ sym size;
            queues_size = length-set queues r q ∙ h.queues_size ∙ sym size;
            used_is =
                ap (λ bs. set bs r true) h.used_is ∙ ap (set (map (λ (x : Queue). ltb 0 x.count) queues) r) (sym (lt-ltb 0 q.count (omega (arith, count)))) ∙ sym (map-set (λ (x : Queue). ltb 0 x.count) queues r q);
            queue = λ s m.
                let inside_s : s < length queues = omega (arith, length-set queues r q) in
                ⊎_elim
                (λ e. subst (λ n. IsQueue after put_ranks n (get_or (set queues r q) n no_queue)) (sym e) (subst (IsQueue after put_ranks r) (sym put_at) put_queue))
                (λ ne. subst (IsQueue after put_ranks s) (sym (other_at s ne)) (other_queue s inside_s ne))
                (cases_eq s r);
            listed = λ x s e.
                ⊎_elim
                (λ same.
                let f : Some r ≡ Some s = sym now_ranked ∙ ap (λ n. get_or put_ranks n None) (sym same) ∙ e in
                let is_r : s ≡ r = cc in
                (omega (arith, length-set queues r q), subst (λ n. has x (processes_of after (get_or (set queues r q) n no_queue)) ≡ true) (sym is_r) (subst (λ y. has x (processes_of after y) ≡ true) (sym put_at) (subst (λ ps. has x ps ≡ true) (sym is) (has_right x (processes_of links (queue_at r)) (p ∷ []) (subst (λ n. has n (p ∷ []) ≡ true) (sym same) (has_first p [])))))))
                (λ apart.
                let there = h.listed x s (sym (get_or-set_other ranks p x (Some r) None apart) ∙ e) in (
                  omega (arith, there.0, length-set queues r q),
                  ⊎_elim
                      (λ is_r. subst (λ n. has x (processes_of after (get_or (set queues r q) n no_queue)) ≡ true) (sym is_r) (subst (λ y. has x (processes_of after y) ≡ true) (sym put_at) (subst (λ ps. has x ps ≡ true) (sym is) (has_left x (processes_of links (queue_at r)) (p ∷ []) (subst (λ n. has x (processes_of links (queue_at n)) ≡ true) is_r there.1)))))
                      (λ ne. subst (λ y. has x (processes_of after y) ≡ true) (sym (other_at s ne)) (subst (λ ps. has x ps ≡ true) (sym (other_list s there.0 ne)) there.1))
                      (cases_eq s r),
                ))
                (cases_eq x p);
          }

      put_list : (s : ℕ) → s < length queues → processes_of after (get_or (set queues r q) s no_queue) ≡ get_or (set lists r (get_or lists r [] ++ p ∷ [])) s []
      put_list s m =
          ⊎_elim
          (λ e.
          ap (λ n. processes_of after (get_or (set queues r q) n no_queue)) e ∙ ap (processes_of after) put_at ∙ is ∙ ap (λ ps. ps ++ p ∷ []) (sym (list_at r)) ∙ sym (ap (λ n. get_or (set lists r (get_or lists r [] ++ p ∷ [])) n []) e ∙ get_or-set_same lists r (get_or lists r [] ++ p ∷ []) [] (omega (arith, length-lists))))
          (λ ne. ap (processes_of after) (other_at s ne) ∙ other_list s m ne ∙ sym (list_at s) ∙ sym (get_or-set_other lists r s (get_or lists r [] ++ p ∷ []) [] ne))
          (cases_eq s r)

      put_lists : map (processes_of after) (set queues r q) ≡ set lists r (get_or lists r [] ++ p ∷ [])
      put_lists =
          let size_left : length (map (processes_of after) (set queues r q)) ≡ length queues = length-map (set queues r q) (processes_of after) ∙ length-set queues r q in
          let size_right : length (set lists r (get_or lists r [] ++ p ∷ [])) ≡ length queues = length-set lists r (get_or lists r [] ++ p ∷ []) ∙ length-lists in
          ext_get_or [] (map (processes_of after) (set queues r q)) (set lists r (get_or lists r [] ++ p ∷ [])) (size_left ∙ sym size_right) (λ s m. get_or-map (processes_of after) (set queues r q) s no_queue ∙ put_list s (omega arith))

      pub put_pairs : pairs_from 0 (map (processes_of after) (set queues r q)) ≡ with_process p r (pairs_from 0 lists)
      put_pairs =
          let e : 0 + r ≡ r = omega arith in
          ap (pairs_from 0) put_lists ∙ pairs_more 0 r p lists (omega (arith, length-lists)) ∙ ap (λ n. with_process p n (pairs_from 0 lists)) e

  -- the first process of the least rank
  module _ (r : ℕ) (least : IsLeast r used) where
    pub rank_below : r < length queues
    rank_below = omega (arith, least.below, ap length h.used_is, length-map queues (λ (q : Queue). ltb 0 q.count))

    pub some : 0 < (queue_at r).count
    some = ltb-true 0 (queue_at r).count (sym (used_at r) ∙ least.member)

    abbrev first : ℕ
    first = (queue_at r).first

    abbrev rest : List ℕ
    rest = chain links (get_or links first 0) ((queue_at r).count - 1)

    list_is : processes_of links (queue_at r) ≡ first ∷ rest
    list_is = chain_first links first (queue_at r).count some

    first_ranked : get_or ranks first None ≡ Some r
    first_ranked = (h.queue r rank_below).ranked first (subst (λ ps. has first ps ≡ true) (sym list_is) (has_first first rest))

    pub first_below : first < length links
    first_below = omega (arith, some_inside ranks first r first_ranked, h.ranks_size)

    rest_once : (has first rest ≡ false) × IsOnce rest
    rest_once = subst IsOnce list_is (h.queue r rank_below).once

    -- is taken out
    module _ (q : Queue) (next : q.first ≡ get_or links first 0) (last : q.last ≡ (queue_at r).last) (count : q.count ≡ (queue_at r).count - 1) where
      abbrev pub taken_ranks : List (Option ℕ)
      taken_ranks = set ranks first None

      is_rest : processes_of links q ≡ rest
      is_rest = ap (λ n. chain links n q.count) next ∙ ap (chain links (get_or links first 0)) count

      kept_rank : (x s : ℕ) → (x ≡ first → ⊥) → get_or ranks x None ≡ Some s → get_or taken_ranks x None ≡ Some s
      kept_rank x s apart e = get_or-set_other ranks first x None None apart ∙ e

      taken_queue : IsQueue links taken_ranks r q
      taken_queue =
          record {
            once = subst IsOnce (sym is_rest) rest_once.1;
            ends =
                ap (λ n. last_of n (processes_of links q)) last ∙ ap (last_of (queue_at r).last) is_rest ∙ last_rest (queue_at r).last first rest (subst (λ ps. last_of (queue_at r).last ps ≡ (queue_at r).last) list_is (h.queue r rank_below).ends) ∙ sym last;
            ranked = λ x t.
                let t2 : has x rest ≡ true = subst (λ ps. has x ps ≡ true) is_rest t in
                let apart : x ≡ first → ⊥ = λ e. both_ways (has first rest) rest_once.0 (subst (λ n. has n rest ≡ true) e t2) in
                kept_rank x r apart ((h.queue r rank_below).ranked x (subst (λ ps. has x ps ≡ true) (sym list_is) (has_right x (first ∷ []) rest t2)));
          }

      left_queue : (s : ℕ) → s < length queues → (s ≡ r → ⊥) → IsQueue links taken_ranks s (queue_at s)
      left_queue s m ne =
          record {
            once = (h.queue s m).once;
            ends = (h.queue s m).ends;
            ranked = λ x t.
                let was = (h.queue s m).ranked x t in
                kept_rank x s (λ e. ne (same_rank first s r (subst (λ n. get_or ranks n None ≡ Some s) e was) first_ranked)) was;
          }

      taken_at : get_or (set queues r q) r no_queue ≡ q
      taken_at = get_or-set_same queues r q no_queue rank_below

      left_at : (s : ℕ) → (s ≡ r → ⊥) → get_or (set queues r q) s no_queue ≡ queue_at s
      left_at s ne = get_or-set_other queues r s q no_queue ne

      still_used : ltb 1 (queue_at r).count ≡ ltb 0 q.count
      still_used =
          ⊎_elim
          (λ more. lt-ltb 1 (queue_at r).count more ∙ sym (lt-ltb 0 q.count (omega (arith, count))))
          (λ one. le-ltb 1 (queue_at r).count one ∙ sym (le-ltb 0 q.count (omega (arith, count))))
          (cases_lt 1 (queue_at r).count)

      pub taken_queues : AreQueues links taken_ranks (set used r (ltb 1 (queue_at r).count)) (set queues r q)
      taken_queues =
          record {
            small = h.small;
            ranks_size = length-set ranks first None ∙ h.ranks_size;
            queues_size = length-set queues r q ∙ h.queues_size;
            used_is =
                ap (λ bs. set bs r (ltb 1 (queue_at r).count)) h.used_is ∙ ap (set (map (λ (x : Queue). ltb 0 x.count) queues) r) still_used ∙ sym (map-set (λ (x : Queue). ltb 0 x.count) queues r q);
            queue = λ s m.
                let inside_s : s < length queues = omega (arith, length-set queues r q) in
                ⊎_elim
                (λ e. subst (λ n. IsQueue links taken_ranks n (get_or (set queues r q) n no_queue)) (sym e) (subst (IsQueue links taken_ranks r) (sym taken_at) taken_queue))
                (λ ne. subst (IsQueue links taken_ranks s) (sym (left_at s ne)) (left_queue s inside_s ne))
                (cases_eq s r);
            listed = λ x s e.
                let apart : x ≡ first → ⊥ = λ same. let f : None ≡ Some s = sym (get_or-set_same ranks first None None (some_inside ranks first r first_ranked)) ∙ ap (λ n. get_or taken_ranks n None) (sym same) ∙ e in cc in
                let there = h.listed x s (sym (get_or-set_other ranks first x None None apart) ∙ e) in (
                  omega (arith, there.0, length-set queues r q),
                  ⊎_elim
                      (λ is_r.
                      let was : has x (first ∷ rest) ≡ true = subst (λ ps. has x ps ≡ true) list_is (subst (λ n. has x (processes_of links (queue_at n)) ≡ true) is_r there.1) in
                      subst (λ n. has x (processes_of links (get_or (set queues r q) n no_queue)) ≡ true) (sym is_r) (subst (λ y. has x (processes_of links y) ≡ true) (sym taken_at) (subst (λ ps. has x ps ≡ true) (sym is_rest) (has_rest x first rest was apart))))
                      (λ ne. subst (λ y. has x (processes_of links y) ≡ true) (sym (left_at s ne)) there.1)
                      (cases_eq s r),
                );
          }

      pub taken_pairs : pairs_from 0 lists ≡ (first, r) ∷ pairs_from 0 (map (processes_of links) (set queues r q))
      taken_pairs =
          let e : 0 + r ≡ r = omega arith in
          pairs_first 0 r first rest lists (omega (arith, rank_below, length-lists)) (list_at r ∙ list_is) (λ j below. empty_at j (least.least j below)) ∙ ap (λ n. (first, n) ∷ pairs_from 0 (set lists r rest)) e ∙ ap (λ ps. (first, r) ∷ pairs_from 0 (set lists r ps)) (sym is_rest) ∙ ap (λ ls. (first, r) ∷ pairs_from 0 ls) (sym (map-set (processes_of links) queues r q))

-- a process is put in, where the queue and the links were read
module _ (links : List ℕ) (ranks : List (Option ℕ)) (used : List Bool) (queues : List Queue) (h : AreQueues links ranks used queues) (p r : ℕ) (inside : p < length links) (l : r < length queues) (new : get_or ranks p None ≡ None) (seen : Queue) (seen_is : seen ≡ get_or queues r no_queue) (given : List ℕ) (given_is : given ≡ links) (after : List ℕ) (q : Queue) (size : length after ≡ length given) (is : chain after q.first q.count ≡ chain given seen.first seen.count ++ p ∷ []) (last : q.last ≡ p) (count : q.count ≡ seen.count + 1) (others : (x n : ℕ) → (0 < seen.count → has seen.last (chain given x n) ≡ false) → chain after x n ≡ chain given x n) where
  size_here : length after ≡ length links
  size_here = size ∙ ap length given_is

  is_here : processes_of after q ≡ processes_of links (get_or queues r no_queue) ++ p ∷ []
  is_here = is ∙ ap (λ g. chain g seen.first seen.count ++ p ∷ []) given_is ∙ ap (λ (y : Queue). chain links y.first y.count ++ p ∷ []) seen_is

  count_here : q.count ≡ (get_or queues r no_queue).count + 1
  count_here = count ∙ ap (λ (y : Queue). y.count + 1) seen_is

  others_here : (x n : ℕ) → (0 < (get_or queues r no_queue).count → has (get_or queues r no_queue).last (chain links x n) ≡ false) → chain after x n ≡ chain links x n
  others_here x n apart =
      others x n (subst (λ g. 0 < seen.count → has seen.last (chain g x n) ≡ false) (sym given_is) (subst (λ (y : Queue). 0 < y.count → has y.last (chain links x n) ≡ false) (sym seen_is) apart)) ∙ ap (λ g. chain g x n) given_is

  pub put_read : AreQueues after (set ranks p (Some r)) (set used r true) (set queues r q)
  put_read = put_queues links ranks used queues h p r inside l new after q size_here is_here last count_here others_here

  pub put_read_pairs : pairs_from 0 (map (processes_of after) (set queues r q)) ≡ with_process p r (pairs_from 0 (map (processes_of links) queues))
  put_read_pairs = put_pairs links ranks used queues h p r inside l new after q size_here is_here last count_here others_here

-- queues without a process
pub empty_queues : (n : ℕ) (links : List ℕ) (ranks : List (Option ℕ)) (used : List Bool) (queues : List Queue) → n < 2 ^ 32 → length links ≡ n → ranks ≡ replicate n None → used ≡ replicate n false → queues ≡ replicate n no_queue → AreQueues links ranks used queues
empty_queues n links ranks used queues small size rs us qs =
    let none : (p : ℕ) → get_or ranks p None ≡ None = λ p. ap (λ l. get_or l p None) rs ∙ at_replicate n None p in
    let queue_none : (r : ℕ) → get_or queues r no_queue ≡ no_queue = λ r. ap (λ l. get_or l r no_queue) qs ∙ at_replicate n no_queue r in
    record {
      small = omega arith;
      ranks_size = ap length rs ∙ length-replicate n None ∙ sym size;
      queues_size = ap length qs ∙ length-replicate n no_queue ∙ sym size;
      used_is = us ∙ sym (ap (map (λ (q : Queue). ltb 0 q.count)) qs ∙ map-replicate n no_queue);
      queue = λ r l. subst (IsQueue links ranks r) (sym (queue_none r)) record { once = tt; ends = refl; ranked = λ p t. absurd (true≢false (sym t)) };
      listed = λ p r e. let f : None ≡ Some r = sym (none p) ∙ e in cc;
    }
  where
    at_replicate : {A : Type 0} (n : ℕ) (x : A) (i : ℕ) → get_or (replicate n x) i x ≡ x
    at_replicate zero x i = refl
    at_replicate (suc n) x zero = refl
    at_replicate (suc n) x (suc i) = at_replicate n x i

    map-replicate : (n : ℕ) (q : Queue) → map (λ (x : Queue). ltb 0 x.count) (replicate n q) ≡ replicate n (ltb 0 q.count)
    map-replicate zero q = refl
    map-replicate (suc n) q = ap (λ bs. ltb 0 q.count ∷ bs) (map-replicate n q)

pub no_pairs : (n b : ℕ) (links : List ℕ) → pairs_from b (map (processes_of links) (replicate n no_queue)) ≡ []
no_pairs zero b links = refl
no_pairs (suc n) b links = no_pairs n (b + 1) links
