-- The runs of the bodies of a lawful design keep what the replay of a dump takes from them.
use Rattle.std.proofs.Common.{◌≡◌, ◌⊎◌, inl, inr, ⊎_elim, ℕ, Bool, true, false, List, [], ◌∷◌, ◌++◌, map, refl, sym, ap, ap₂, subst, ◌∙◌, Option, Some, None, if◌then◌else◌}
use Rattle.std.specs.Prelude.{⊤}
use Rattle.design_model.specs.event_machine.Cell.{Cell, Update, Values, Write, join, put_all}
use Rattle.design_model.specs.four_state.declared.bit.Bit.{Bit}
use Rattle.design_model.specs.Tree.{Stmt}
use Rattle.design_model.specs.Design.{Design, In, body_at}
use Rattle.design_model.specs.Lawful.{IsLawfulDesign}
use Rattle.design_model.specs.Mentions.{body_mentions}
use Rattle.design_model.specs.Execution.{execution}
use Rattle.body_replay.specs.KnownBits.{Allows}
use Rattle.body_replay.specs.Replay.{Mark, Spot, apply_all, clean_run, started}
use Rattle.body_replay.specs.Contract.{Certainty, Doubted, HasDoubt, HasHitNote, HasNote, IsStrong, Note, Store, all_written, clean, flushed, left_by, notes_of, outcome, perhaps, quiet, read_of, shown_of, weak}
use Rattle.body_replay.specs.Runs.{AreRuns, HasDoubtNote, RunsLaw, StoreView, own_store, runs_of, seen_of}
use Rattle.body_replay.proofs.Blamed.{blame_sound}
use Rattle.body_replay.proofs.CellFrames.{cell_frame, queue_frame}
use Rattle.body_replay.proofs.LocalRuns.{marks_alike}
use Rattle.body_replay.proofs.OpenPoints.{marked_open, surely_open_hit}
use Rattle.body_replay.proofs.Spots.{weak_marks}
use Rattle.body_replay.proofs.Sure.{no_doubt_added, prefix_hit, sure_writes}
use Rattle.body_replay.proofs.Ways.{doubt_as_told, hits_sound, perhaps_marks, visits_marked, writes_sound}
use Rattle.body_replay.proofs.Weak.{weak_sound}
use Rattle.body_replay.proofs.Writes.{puts_append}

-- updates one after another are their writes one after another
apply_joined : (v : Values Bit) (us : List (Update Bit)) → apply_all v us ≡ put_all v (join us)
apply_joined v [] = refl
apply_joined v (u ∷ us) = apply_joined (put_all v u) us ∙ sym (puts_append v u (join us))

left_written : (d : Design) (s : Stmt) (v k : Values Bit) → left_by d s v k ≡ put_all k (all_written d s v)
left_written d s v k = apply_joined (put_all k (execution d s v).blocking) (execution d s v).nonblocking ∙ sym (puts_append k (execution d s v).blocking (join (execution d s v).nonblocking))

doubt_noted : (x : Spot) (y : Doubted) (ns : List Note) → HasDoubtNote x y ns → HasDoubt x y.thing ns
doubt_noted x y [] h = h
doubt_noted x y (n ∷ ns) (inl e) = inl (e.0, (y.time, e.1))
doubt_noted x y (n ∷ ns) (inr h) = inr (doubt_noted x y ns h)

doubt_of : (x : Spot) (thing : ℕ) (ns : List Note) → HasDoubt x thing ns → (time : ℕ) × HasDoubtNote x (record { time = time; thing = thing }) ns
doubt_of x thing [] h = absurd h
doubt_of x thing (n ∷ ns) (inl e) = (e.1.0, inl (e.0, e.1.1))
doubt_of x thing (n ∷ ns) (inr h) = let k = doubt_of x thing ns h in (k.0, inr k.1)

doubt_in : (x : Spot) (y : Doubted) (ns : List Note) → HasDoubtNote x y ns → (n : Note) × In n ns × (n.doubt ≡ Some y)
doubt_in x y [] h = absurd h
doubt_in x y (n ∷ ns) (inl e) = (n, inl refl, e.1)
doubt_in x y (n ∷ ns) (inr h) = let k = doubt_in x y ns h in (k.0, inr k.1, k.2)

has_note : (x : Spot) (y : Doubted) (ns : List Note) → HasDoubtNote x y ns → HasNote x ns
has_note x y [] h = h
has_note x y (n ∷ ns) (inl e) = inl e.0
has_note x y (n ∷ ns) (inr h) = inr (has_note x y ns h)

note_or : (x : Spot) (ns : List Note) → HasNote x ns → HasHitNote x ns ⊎ ((y : Doubted) × HasDoubtNote x y ns)
note_or x [] h = absurd h
note_or x (n ∷ ns) (inl e) = go n.doubt refl
  where
    go : (o : Option Doubted) → n.doubt ≡ o → HasHitNote x (n ∷ ns) ⊎ ((y : Doubted) × HasDoubtNote x y (n ∷ ns))
    go None q = inl (inl (e, q))
    go (Some y) q = inr (y, inl (e, q))
note_or x (n ∷ ns) (inr h) = ⊎_elim (λ k. inl (inr k)) (λ k. inr (k.0, inr k.1)) (note_or x ns h)

-- a doubt has the time of the run, and where the block only may run its thing
same_doubt : (y : Doubted) (time thing : ℕ) → y.time ≡ time → y.thing ≡ thing → y ≡ record { time = time; thing = thing }
same_doubt y time thing p q = λ i. record { time = p i; thing = q i }

module _ (d : Design) (lawful : IsLawfulDesign d) (p : ℕ) where
  doubt_time : (st : StoreView) (time : ℕ) (x : Spot) (y : Doubted) → HasDoubtNote x y (runs_of d p st (clean time)).notes → y.time ≡ time
  doubt_time st time x y h = let k = doubt_in x y _ h in doubt_as_told d (body_at d p) (own_store st) (clean time) k.0 y k.1 k.2

  perhaps_doubt : (st : StoreView) (time thing : ℕ) (x : Spot) (y : Doubted) → HasDoubtNote x y (runs_of d p st (perhaps time thing)).notes → y ≡ record { time = time; thing = thing }
  perhaps_doubt st time thing x y h = let k = doubt_in x y _ h in let e = doubt_as_told d (body_at d p) (own_store st) (perhaps time thing) k.0 y k.1 k.2 in same_doubt y time thing e.0 e.1

  weak_doubt : (st : StoreView) (time thing : ℕ) (x : Spot) (y : Doubted) → HasDoubtNote x y (runs_of d p st (weak time thing)).notes → y ≡ record { time = time; thing = thing }
  weak_doubt st time thing x y h = let k = doubt_in x y _ h in let e = doubt_as_told d (body_at d p) (own_store st) (weak time thing) k.0 y k.1 k.2 in same_doubt y time thing e.0 e.1

  perhaps_noted : (st : StoreView) (time thing : ℕ) (x : Spot) → HasDoubt x thing (runs_of d p st (perhaps time thing)).notes → HasDoubtNote x (record { time = time; thing = thing }) (runs_of d p st (perhaps time thing)).notes
  perhaps_noted st time thing x h =
      let k = doubt_of x thing _ h in
      subst (λ z. HasDoubtNote x z (runs_of d p st (perhaps time thing)).notes) (perhaps_doubt st time thing x (record { time = k.0; thing = thing }) k.1) k.1

  weak_noted : (st : StoreView) (time thing : ℕ) (x : Spot) → HasDoubt x thing (runs_of d p st (weak time thing)).notes → HasDoubtNote x (record { time = time; thing = thing }) (runs_of d p st (weak time thing)).notes
  weak_noted st time thing x h =
      let k = doubt_of x thing _ h in
      subst (λ z. HasDoubtNote x z (runs_of d p st (weak time thing)).notes) (weak_doubt st time thing x (record { time = k.0; thing = thing }) k.1) k.1

  same_marks : (st st' : StoreView) → ((c : Cell) → body_mentions c.thing (body_at d p) ≡ true → seen_of st c ≡ seen_of st' c) → (clean_run d (body_at d p) (shown_of (own_store st))).marks ≡ (clean_run d (body_at d p) (shown_of (own_store st'))).marks
  same_marks st st' same =
      marks_alike d (body_at d p) None (started (shown_of (own_store st))) (started (shown_of (own_store st')))
      (λ x m. record { kept = λ c at. same c (subst (λ z. body_mentions z (body_at d p) ≡ true) (sym at) m); blame = refl; wrote = refl }) refl refl

  local : (st st' : StoreView) (how : Certainty) → ((c : Cell) → body_mentions c.thing (body_at d p) ≡ true → seen_of st c ≡ seen_of st' c) → (runs_of d p st how).notes ≡ (runs_of d p st' how).notes
  local st st' (clean time) same = ap (notes_of (clean time)) (same_marks st st' same)
  local st st' quiet same = refl
  local st st' (perhaps time thing) same = ap (notes_of (perhaps time thing)) (same_marks st st' same)
  local st st' (weak time thing) same = refl

pub runs_law : RunsLaw
runs_law d lawful =
    record {
      writes_sound = λ p st how strong v k ok also c shown. subst (λ f. Allows (flushed (runs_of d p st how) c) (f c)) (left_written d (body_at d p) v k) (writes_sound d (body_at d p) (own_store st) how strong v k ok also c shown);
      hits_sound = λ p st time x h v ok. hits_sound d (body_at d p) (own_store st) time x h v ok;
      visits_marked = λ p st time v ok x h. note_or x _ (visits_marked d (body_at d p) (own_store st) time v ok x h);
      prefix_hit = λ p st time x y e h. prefix_hit d (body_at d p) (own_store st) time x y e h;
      no_doubt = λ p st time v whole x y h. no_doubt_added d (body_at d p) (own_store st) time v.0 v.1 whole x y.thing (doubt_noted x y _ h);
      sure_written = λ p st how strong v agrees whole c shown has. (sure_writes d (body_at d p) (own_store st) how strong v agrees whole c shown).0 has ∙ ap (λ f. Some (f c)) (left_written d (body_at d p) v v);
      sure_kept = λ p st how strong v agrees whole c shown has. (sure_writes d (body_at d p) (own_store st) how strong v agrees whole c shown).1 has;
      frame = λ p st how c e. cell_frame d (body_at d p) (own_store st) how c e;
      frame_queue = λ p st how c e k. queue_frame d (body_at d p) (own_store st) how c e k;
      local = λ p st st' how same. local d lawful p st st' how same;
      blames = λ p st time x y h.
          let b = blame_sound d (body_at d p) (own_store st) time (lawful.bodies p) x y.thing (doubt_noted x y _ h) in
          (doubt_time d lawful p st time x y h, subst (λ z. Rattle.body_replay.specs.Contract.IsUnsure d (seen_of st) z) b.1 b.2, subst (λ z. Rattle.design_model.specs.Paths.ReadsUnwritten d (body_at d p) z) b.1 b.3);
      surely_open_hit = λ p st time q x e here. surely_open_hit d (body_at d p) (own_store st) time q x e here;
      doubt_open = λ p st time q x y e h. marked_open d (body_at d p) (own_store st) (clean time) tt q x e (has_note x y _ h);
      quiet_notes = λ p st. refl;
      perhaps_no_hit = λ p st time thing x. (perhaps_marks d (body_at d p) (own_store st) time thing x).0;
      perhaps_marked = λ p st time thing v ok x h. perhaps_noted d lawful p st time thing x ((perhaps_marks d (body_at d p) (own_store st) time thing x).1 v ok h);
      perhaps_open = λ p st time thing q x y e h. (perhaps_doubt d lawful p st time thing x y h, marked_open d (body_at d p) (own_store st) (perhaps time thing) tt q x e (has_note x y _ h));
      weak_sound = λ p st time thing k w ok arises. weak_sound d (body_at d p) (own_store st) time thing k w ok arises;
      weak_no_hit = λ p st time thing x. (weak_marks d (body_at d p) (own_store st) time thing x).0;
      weak_marked = λ p st time thing v x h. weak_noted d lawful p st time thing x ((weak_marks d (body_at d p) (own_store st) time thing x).1 v h);
      weak_as_told = λ p st time thing x y h. weak_doubt d lawful p st time thing x y h;
    }
