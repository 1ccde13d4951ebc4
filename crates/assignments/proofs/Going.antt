-- The loops over the parts of an assignment, one part further.
use Rattle.std.proofs.Common.{Bool, List, Option, [], add-one, ap, append-nil, append_assoc, arith, drop, drop-cons, false, get_or, length, refl, subst, sym, take, true, ℕ, ◌+◌, ◌<◌, ◌≤◌, ◌∙◌, ◌∷◌, ◌≡◌, ◌++◌}
use Rattle.std.proofs.lemmas.List.{drop-take, length-take, take-take, take_all}
use Rattle.std.proofs.Math.Path.{fun_ext}
use Rattle.design_model.specs.Design.{Design}
use Rattle.value_store.specs.body_replay.KnownBits.{KnownBits, all_sure}
use Rattle.value_store.specs.body_replay.Store.{KnownWrite, weaken}
use Rattle.scene_laws.specs.term_replay.Stands.{Scene}
use Rattle.scene_laws.specs.body_calls.Lvalues.{Like, Takes, if_certain, lvalue_writes, written, written_thing}
use Rattle.scene_laws.specs.body_calls.Rooms.{Leaves, Rooms, takes_in}
use Rattle.scene_laws.specs.body_calls.Ways.{Around}
use Rattle.assignments.specs.Pieces.{AllTake, all_assigned, assigned, blame_option, pieces_take, pieces_writes, widths}
use Rattle.assignments.specs.declared.piece.Piece.{Piece}
use Rattle.assignments.proofs.OnePart.{written_like}
use Rattle.scene_laws.proofs.LikeScenes.{like_trans}

-- the parts from the one at i on
pub pieces_from : (xs : List Piece) (i : ℕ) (x : Piece) → i < length xs → x ≡ get_or xs i x → drop i xs ≡ x ∷ drop (i + 1) xs
pieces_from xs i x within is = rw (add-one, drop-cons xs i x within, ← is) refl

-- ---- room

pub takes_same : (around : List Around) (r s : Rooms) → s.takes ≡ r.takes → takes_in around s ≡ takes_in around r
takes_same around r s e = fun_ext (λ x. go around x)
  where
    go : (around : List Around) (x : ℕ) → takes_in around s x ≡ takes_in around r x
    go [] x = refl
    go (t ∷ outer) x = ap (λ f. f x) e

-- so much room is left in the log for the rest
pub record LogsOn (takes : ℕ → ℕ) (before : Rooms) (all : List Piece) (now : Rooms) (rest : List Piece) : Type 0 where
  pub log : before.log + pieces_take takes rest ≤ now.log + pieces_take takes all
  pub same : now.takes ≡ before.takes
  pub queue : before.queue ≤ now.queue

module _ (takes : ℕ → ℕ) (before : Rooms) (all : List Piece) where
  pub logs_start : LogsOn takes before all before all
  logs_start = record { log = omega arith; same = refl; queue = omega arith }

  pub logs_room : (now : Rooms) (x : Piece) (rest : List Piece) → pieces_take takes all ≤ before.log → LogsOn takes before all now (x ∷ rest) → takes (written_thing x.to) ≤ now.log
  logs_room now x rest room h = let l = h.log in omega (arith, room, l)

  pub logs_further : (now next : Rooms) (x : Piece) (rest : List Piece) (n : ℕ) → n ≡ takes (written_thing x.to) → LogsOn takes before all now (x ∷ rest) → Leaves n 0 now next → LogsOn takes before all next rest
  logs_further now next x rest n e h k =
      let l = h.log in
      let q = h.queue in
      let m = k.log in
      let p = k.queue in
      record { log = omega (arith, l, m, e); same = k.takes ∙ h.same; queue = omega (arith, q, p) }

  pub logs_end : (now : Rooms) → LogsOn takes before all now [] → Leaves (pieces_take takes all) 0 before now
  logs_end now h = let l = h.log in let q = h.queue in record { log = omega (arith, l); takes = h.same; queue = omega (arith, q) }

-- so much room is left in the queue for the rest
pub record PlacesOn (before : Rooms) (all : List Piece) (now : Rooms) (rest : List Piece) : Type 0 where
  pub log : before.log ≤ now.log
  pub same : now.takes ≡ before.takes
  pub queue : before.queue + length rest ≤ now.queue + length all

module _ (before : Rooms) (all : List Piece) where
  pub places_start : PlacesOn before all before all
  places_start = record { log = omega arith; same = refl; queue = omega arith }

  pub places_room : (now : Rooms) (x : Piece) (rest : List Piece) → length all ≤ before.queue → PlacesOn before all now (x ∷ rest) → 1 ≤ now.queue
  places_room now x rest room h = let q = h.queue in omega (arith, room, q)

  pub places_further : (now next : Rooms) (x : Piece) (rest : List Piece) → PlacesOn before all now (x ∷ rest) → Leaves 0 1 now next → PlacesOn before all next rest
  places_further now next x rest h k =
      let l = h.log in
      let q = h.queue in
      let m = k.log in
      let p = k.queue in
      record { log = omega (arith, l, m); same = k.takes ∙ h.same; queue = omega (arith, q, p) }

  pub places_end : (now : Rooms) → PlacesOn before all now [] → Leaves 0 (length all) before now
  places_end now h = let l = h.log in let q = h.queue in record { log = omega (arith, l); takes = h.same; queue = omega (arith, q) }

-- ---- what is queued

weaken_append : (ws vs : List KnownWrite) → weaken (ws ++ vs) ≡ weaken ws ++ weaken vs
weaken_append [] vs = refl
weaken_append (w ∷ ws) vs = ap (λ z. record w { certain = false } ∷ z) (weaken_append ws vs)

certain_append : (certain : Bool) (ws vs : List KnownWrite) → if_certain certain (ws ++ vs) ≡ if_certain certain ws ++ if_certain certain vs
certain_append true ws vs = refl
certain_append false ws vs = weaken_append ws vs

certain_none : (certain : Bool) → if_certain certain [] ≡ []
certain_none true = refl
certain_none false = refl

-- what is queued so far, and what the rest will queue, is all
pub record QueuesOn (d : Design) (certain : Bool) (before : List KnownWrite) (all : List Piece) (ps : KnownBits) (now : List KnownWrite) (rest : List Piece) : Type 0 where
  pub goes : now ++ if_certain certain (pieces_writes d rest (take (widths rest) ps)) ≡ before ++ if_certain certain (pieces_writes d all ps)

-- the rest of the bits for the rest of the parts
pub rest_bits : (x : Piece) (rest : List Piece) (ps : KnownBits) → take (widths rest) (take (widths (x ∷ rest)) ps) ≡ take (widths rest) ps
rest_bits x rest ps = take-take (widths rest) (widths (x ∷ rest)) ps (omega arith)

module _ (d : Design) (certain : Bool) (before : List KnownWrite) (all : List Piece) (ps : KnownBits) where
  pub queues_start : widths all ≡ length ps → QueuesOn d certain before all ps before all
  queues_start size = record { goes = ap (λ qs. before ++ if_certain certain (pieces_writes d all qs)) (take_all (widths all) ps (omega (arith, size))) }

  pub queues_further : (now next : List KnownWrite) (x : Piece) (rest : List Piece) (part : KnownBits) → part ≡ Rattle.std.proofs.Common.drop (widths rest) (take (widths (x ∷ rest)) ps) → next ≡ now ++ if_certain certain (lvalue_writes d x.to part) → QueuesOn d certain before all ps now (x ∷ rest) → QueuesOn d certain before all ps next rest
  queues_further now next x rest part e is h =
      let one : List KnownWrite = lvalue_writes d x.to (drop (widths rest) (take (widths (x ∷ rest)) ps)) in
      let more : List KnownWrite = pieces_writes d rest (take (widths rest) (take (widths (x ∷ rest)) ps)) in
      record {
        goes =
            ap (λ z. z ++ if_certain certain (pieces_writes d rest (take (widths rest) ps))) (is ∙ ap (λ z. now ++ if_certain certain (lvalue_writes d x.to z)) e)
            ∙ append_assoc now (if_certain certain one) (if_certain certain (pieces_writes d rest (take (widths rest) ps)))
            ∙ ap (λ z. now ++ (if_certain certain one ++ if_certain certain (pieces_writes d rest z))) (sym (rest_bits x rest ps))
            ∙ ap (λ z. now ++ z) (sym (certain_append certain one more))
            ∙ h.goes;
      }

  pub queues_end : (now : List KnownWrite) → QueuesOn d certain before all ps now [] → now ≡ before ++ if_certain certain (pieces_writes d all ps)
  queues_end now h = sym (append-nil now) ∙ ap (λ z. now ++ z) (sym (certain_none certain)) ∙ h.goes

-- ---- what bodies read

-- what the definition leaves by the writes so far, and those of the rest, is what all writes leave
pub record WritesOn (blame : Option ℕ) (before : Scene) (all : List Piece) (ps : KnownBits) (now : Scene) (rest : List Piece) : Type 0 where
  pub design : now.design ≡ before.design
  pub goes : (v : Scene) (sure : Bool) (thing : ℕ) → blame ≡ blame_option sure thing → Like v before → (u : Scene) × Like u now × (u.design ≡ v.design) × (all_assigned rest (take (widths rest) ps) sure thing u ≡ all_assigned all ps sure thing v)

module _ (blame : Option ℕ) (before : Scene) (all : List Piece) (ps : KnownBits) where
  pub writes_start : widths all ≡ length ps → WritesOn blame before all ps before all
  writes_start size =
      record { design = refl; goes = λ v sure thing e h. (v, h, refl, ap (λ qs. all_assigned all qs sure thing v) (take_all (widths all) ps (omega (arith, size)))) }

  pub writes_further : (now next : Scene) (x : Piece) (rest : List Piece) (part : KnownBits) → part ≡ drop (widths rest) (take (widths (x ∷ rest)) ps) → Takes before.design x.to (length part) → ((sure : Bool) (thing : ℕ) → blame ≡ blame_option sure thing → sure ≡ true → all_sure part ≡ true) → Like (written x.to part blame now) next → WritesOn blame before all ps now (x ∷ rest) → WritesOn blame before all ps next rest
  writes_further now next x rest part e takes sharp after h =
      record {
        design = after.design ∙ h.design;
        goes = λ v sure thing b l.
            let g = h.goes v sure thing b l in
            let u : Scene = assigned x.to part sure thing g.0 in
            let fits : Takes g.0.design x.to (length part) = subst (λ d. Takes d x.to (length part)) (sym (g.2 ∙ sym l.design)) takes in
            let mine : Like u (written x.to part (blame_option sure thing) now) = written_like g.0 now g.1 part sure thing (sharp sure thing b) x.to fits in (
              u,
              like_trans u (written x.to part (blame_option sure thing) now) next mine (subst (λ o. Like (written x.to part o now) next) b after),
              g.2,
              ap (λ z. all_assigned rest (take (widths rest) ps) sure thing (assigned x.to z sure thing g.0)) e
                  ∙ ap (λ z. all_assigned rest z sure thing (assigned x.to (drop (widths rest) (take (widths (x ∷ rest)) ps)) sure thing g.0)) (sym (rest_bits x rest ps))
                  ∙ g.3,
            );
      }

  pub writes_end : (now : Scene) → WritesOn blame before all ps now [] → (v : Scene) (sure : Bool) (thing : ℕ) → blame ≡ blame_option sure thing → Like v before → Like (all_assigned all ps sure thing v) now
  writes_end now h v sure thing b l = let g = h.goes v sure thing b l in subst (λ z. Like z now) g.3 g.1
