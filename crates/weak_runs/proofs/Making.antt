-- Parts of a body in the weak way, one after the other.
use Rattle.std.proofs.Common.{List, [], ap, append-nil, append_assoc, arith, false, refl, sym, ℕ, ◌+◌, ◌++◌, ◌∙◌, ◌∷◌, ◌≡◌, ◌≤◌}
use Rattle.value_store.specs.body_replay.Store.{KnownWrite, keep_all, weaken}
use Rattle.value_store.proofs.body_replay.Writes.{keep_append}
use Rattle.weak_runs.specs.Makes.{At, IsOutside, Makes, kept_at}

pub weaken_append : (ws vs : List KnownWrite) → weaken (ws ++ vs) ≡ weaken ws ++ weaken vs
weaken_append [] vs = refl
weaken_append (w ∷ ws) vs = ap (λ z. record w { certain = false } ∷ z) (weaken_append ws vs)

pub makes_none : (x : At) → IsOutside x → Makes [] [] 0 x x
makes_none x h = record { kept = refl; queued = sym (append-nil x.queued); design = refl; hidden = refl; size = refl; outside = h; takes = refl; queue = omega arith }

pub makes_then : (ws vs ws' vs' : List KnownWrite) (n n' m : ℕ) (x y z : At) → n + n' ≤ m → Makes ws vs n x y → Makes ws' vs' n' y z → Makes (ws ++ ws') (vs ++ vs') m x z
makes_then ws vs ws' vs' n n' m x y z e f g =
    let p : x.rooms.queue ≤ y.rooms.queue + n = f.queue in
    let q : y.rooms.queue ≤ z.rooms.queue + n' = g.queue in
    record {
      kept = g.kept ∙ ap (λ k. keep_all k ws') f.kept ∙ sym (keep_append (kept_at x).kept ws ws');
      queued = g.queued ∙ ap (λ q. q ++ vs') f.queued ∙ append_assoc x.queued vs vs';
      design = g.design ∙ f.design;
      hidden = g.hidden ∙ f.hidden;
      size = g.size ∙ f.size;
      outside = g.outside;
      takes = g.takes ∙ f.takes;
      queue = omega (arith, p, q, e);
    }

-- with the writes of the rest all are made
pub record GoesOn (ws vs : List KnownWrite) (n : ℕ) (before now : At) (ws' vs' : List KnownWrite) (n' : ℕ) : Type 0 where
  pub goes : (after : At) → Makes ws' vs' n' now after → Makes ws vs n before after
  pub design : now.scene.design ≡ before.scene.design
  pub outside : IsOutside now
  pub room : n' ≤ now.rooms.queue

module _ (ws vs : List KnownWrite) (n : ℕ) (before : At) where
  pub goes_start : IsOutside before → n ≤ before.rooms.queue → GoesOn ws vs n before before ws vs n
  goes_start h r = record { goes = λ after g. g; design = refl; outside = h; room = r }

  pub goes_further : (now next : At) (xs ys ws' vs' : List KnownWrite) (k n' m : ℕ) → m ≡ k + n' → GoesOn ws vs n before now (xs ++ ws') (ys ++ vs') m → Makes xs ys k now next → GoesOn ws vs n before next ws' vs' n'
  goes_further now next xs ys ws' vs' k n' m e h f =
      let p : m ≤ now.rooms.queue = h.room in
      let q : now.rooms.queue ≤ next.rooms.queue + k = f.queue in
      record {
        goes = λ after g. h.goes after (makes_then xs ys ws' vs' k n' m now next after (omega (arith, e)) f g);
        design = f.design ∙ h.design;
        outside = f.outside;
        room = omega (arith, p, q, e);
      }

  pub goes_end : (now : At) → GoesOn ws vs n before now [] [] 0 → Makes ws vs n before now
  goes_end now h = h.goes now (makes_none now h.outside)
