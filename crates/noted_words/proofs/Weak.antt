-- A run that makes each write of the body perhaps misses each word that is not among its spots.
use Rattle.std.proofs.Common.{◌≡◌, inl, inr, ℕ, ◌==◌, ◌&&◌, Bool, true, false, List, [], ◌∷◌, ◌++◌, map, take, drop, length, refl, sym, ap, subst, ◌∙◌, if◌then◌else◌, nat_lt}
use Rattle.std.proofs.lemmas.Bool.{and_parts, eqb-true}
use Rattle.design_model.specs.event_machine.Cell.{Cell}
use Rattle.design_model.specs.Tree.{Term, Target, all_of, bits_of, word_of, several, Targets, no_targets, a_target, Stmt, block, branch, select, turns, set, empty, Stmts, no_stmts, a_stmt, Arms, no_arms, arm}
use Rattle.design_model.specs.Design.{Design, In, is_memory, memory_at, word_cells}
use Rattle.design_model.specs.Assignment.{targets_width}
use Rattle.design_model.specs.Shape.{are_targets, is_target}
use Rattle.design_model.proofs.Execution.{EachSet, EachSetOf, EachSetIn}
use Rattle.body_replay.specs.KnownBits.{KnownBits}
use Rattle.body_replay.specs.Store.{KnownWrite, known_writes, known_writes_all, set_bits, words}
use Rattle.body_replay.specs.Replay.{Spot, line, word_write}
use Rattle.body_replay.specs.Contract.{all_spots, arms_spots, body_spots, target_spots, targets_spots, term_spots, terms_spots, unread, weak_queue, weak_queue_in, weak_queue_of, weak_set, weak_writes, weak_writes_in, weak_writes_of}
use Rattle.body_replay.proofs.Frames.{Misses, miss_append, miss_target, miss_weaken}
use Rattle.noted_words.proofs.Targets.{of_memory, signal_apart}

in_left : (x : Spot) (xs ys : List Spot) → In x xs → In x (xs ++ ys)
in_left x [] ys h = absurd h
in_left x (z ∷ xs) ys (inl e) = inl e
in_left x (z ∷ xs) ys (inr h) = inr (in_left x xs ys h)

in_right : (x : Spot) (xs ys : List Spot) → In x ys → In x (xs ++ ys)
in_right x [] ys h = h
in_right x (z ∷ xs) ys h = inr (in_right x xs ys h)

in_map : (m i : ℕ) (ns : List ℕ) → In i ns → In (word_write m i) (map (word_write m) ns)
in_map m i [] h = absurd h
in_map m i (n ∷ ns) (inl e) = inl (ap (word_write m) e)
in_map m i (n ∷ ns) (inr h) = inr (in_map m i ns h)

module _ (d : Design) (m i : ℕ) (is_memory_m : is_memory d m ≡ true) (among : In i (words (memory_at d m))) (c : Cell) (at : In c (word_cells d m i)) where
  abbrev Away : List Spot → Type 0
  Away xs = In (word_write m i) xs → ⊥

  left : (xs ys : List Spot) → Away (xs ++ ys) → Away xs
  left xs ys un h = un (in_left (word_write m i) xs ys h)

  right : (xs ys : List Spot) → Away (xs ++ ys) → Away ys
  right xs ys un h = un (in_right (word_write m i) xs ys h)

  mutual
    target_misses : (x : Target) (ps : KnownBits) → is_target d x ≡ true → Away (target_spots d x) → Misses c (known_writes d unread x ps)
    target_misses (all_of s) ps is un = miss_target d unread c (all_of s) ps (signal_apart d m i is_memory_m among c at s is)
    target_misses (bits_of s low w) ps is un = miss_target d unread c (bits_of s low w) ps (signal_apart d m i is_memory_m among c at s (and_parts (nat_lt s (length d.signals)) _ (and_parts (nat_lt s (length d.signals) && _) _ is).0).0)
    target_misses (word_of k j) ps is un = miss_target d unread c (word_of k j) ps (go (k == c.thing) refl)
      where
        go : (t : Bool) → (k == c.thing) ≡ t → t ≡ false
        go false e = refl
        go true e =
            let same : m ≡ k = sym (eqb-true k c.thing e ∙ of_memory d m i is_memory_m among c at) in
            absurd (right (term_spots d j) (map (word_write k) (words (memory_at d k))) un (subst (λ z. In (word_write m i) (map (word_write z) (words (memory_at d z)))) same (in_map m i (words (memory_at d m)) among)))
    target_misses (several ts) ps is un = targets_miss ts ps is un

    targets_miss : (ts : Targets) (ps : KnownBits) → are_targets d ts ≡ true → Away (targets_spots d ts) → Misses c (known_writes_all d unread ts ps)
    targets_miss no_targets ps is un = tt
    targets_miss (a_target t ts) ps is un =
        let p = and_parts (is_target d t) (are_targets d ts) is in
        miss_append c (known_writes d unread t (drop (targets_width d ts) ps)) (known_writes_all d unread ts (take (targets_width d ts) ps))
        (target_misses t (drop (targets_width d ts) ps) p.0 (left (target_spots d t) (targets_spots d ts) un)) (targets_miss ts (take (targets_width d ts) ps) p.1 (right (target_spots d t) (targets_spots d ts) un))

  set_misses : (n : ℕ) (x : Target) (t : Term) → is_target d x ≡ true → Away ((line n ∷ target_spots d x) ++ term_spots d t) → Misses c (weak_set d x t)
  set_misses n x t is un =
      miss_weaken c (known_writes d unread x (set_bits d unread x t)) (target_misses x (set_bits d unread x t) is (λ h. left (line n ∷ target_spots d x) (term_spots d t) un (inr h)))

  abbrev IsTarget : ℕ → Bool → Target → Term → Type 0
  IsTarget n b y t = is_target d y ≡ true

  -- what is written and what is queued
  abbrev Both : List KnownWrite → List KnownWrite → Type 0
  Both ws qs = Misses c ws × Misses c qs

  either : (n : ℕ) (b : Bool) (x : Target) (t : Term) → Misses c (weak_set d x t) → Both (if b then weak_set d x t else []) (if b then [] else weak_set d x t)
  either n true x t h = (h, tt)
  either n false x t h = (tt, h)

  join_both : (ws qs vs rs : List KnownWrite) → Both ws qs → Both vs rs → Both (ws ++ vs) (qs ++ rs)
  join_both ws qs vs rs a b = (miss_append c ws vs a.0 b.0, miss_append c qs rs a.1 b.1)

  mutual
    pub body_misses : (s : Stmt) → EachSet IsTarget s → Away (body_spots d s) → Both (weak_writes d s) (weak_queue d s)
    body_misses (block p ss) e un = all_miss ss e un
    body_misses (branch p n t s other) e un =
        join_both (weak_writes d s) (weak_queue d s) (weak_writes_of d other) (weak_queue_of d other)
        (body_misses s e.0 (right (line n ∷ term_spots d t) (body_spots d s) (left ((line n ∷ term_spots d t) ++ body_spots d s) (all_spots d other) un)))
        (all_miss other e.1 (right ((line n ∷ term_spots d t) ++ body_spots d s) (all_spots d other) un))
    body_misses (select p n kind t arms) e un = arms_miss arms e (right (line n ∷ term_spots d t) (arms_spots d arms) un)
    body_misses (turns p n ss) e un = all_miss ss e (λ h. un (inr h))
    body_misses (set p n b x t) e un = either n b x t (set_misses n x t e un)
    body_misses (empty p) e un = (tt, tt)

    all_miss : (ss : Stmts) → EachSetOf IsTarget ss → Away (all_spots d ss) → Both (weak_writes_of d ss) (weak_queue_of d ss)
    all_miss no_stmts e un = (tt, tt)
    all_miss (a_stmt s ss) e un =
        join_both (weak_writes d s) (weak_queue d s) (weak_writes_of d ss) (weak_queue_of d ss)
        (body_misses s e.0 (left (body_spots d s) (all_spots d ss) un)) (all_miss ss e.1 (right (body_spots d s) (all_spots d ss) un))

    arms_miss : (arms : Arms) → EachSetIn IsTarget arms → Away (arms_spots d arms) → Both (weak_writes_in d arms) (weak_queue_in d arms)
    arms_miss no_arms e un = (tt, tt)
    arms_miss (arm labels s arms) e un =
        let first = terms_spots d labels ++ body_spots d s in
        join_both (weak_writes d s) (weak_queue d s) (weak_writes_in d arms) (weak_queue_in d arms)
        (body_misses s e.0 (right (terms_spots d labels) (body_spots d s) (left first (arms_spots d arms) un))) (arms_miss arms e.1 (right first (arms_spots d arms) un))
