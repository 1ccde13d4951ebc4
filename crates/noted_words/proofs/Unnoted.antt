-- A run leaves each word that it does not note to be written, in each way in which it notes.
use Rattle.std.proofs.Common.{◌≡◌, inl, inr, ℕ, Bool, true, false, List, [], ◌∷◌, map, refl, ap, ◌∙◌, if◌then◌else◌}
use Rattle.design_model.specs.event_machine.Cell.{Cell}
use Rattle.design_model.specs.Tree.{Stmt}
use Rattle.design_model.specs.Design.{Design, In, body_at, is_memory, memory_at, word_cells}
use Rattle.design_model.specs.Shape.{is_target}
use Rattle.design_model.proofs.BodyLaws.{each_target}
use Rattle.design_model.proofs.Execution.{EachSet}
use Rattle.body_replay.specs.Contract.{HasNote, Note, Store, all_doubted, at_time, body_spots, clean, outcome, perhaps, quiet, shown_of, weak, weak_queue, weak_writes}
use Rattle.body_replay.specs.Replay.{HasMark, Mark, Spot, clean_run, flush, hit, started, word_write}
use Rattle.body_replay.specs.Store.{Kept, words}
use Rattle.body_replay.specs.Runs.{own_store}
use Rattle.body_replay.proofs.Frames.{missed, queue_missed}
use Rattle.noted_words.specs.Unnoted.{UnnotedLaw}
use Rattle.noted_words.proofs.Strong.{run_leads}
use Rattle.noted_words.proofs.Weak.{body_misses}

-- each mark is noted
noted : (f : Mark → Note) → ((m : Mark) → (f m).spot ≡ m.spot) → (x : Spot) (ms : List Mark) → HasMark x ms → HasNote x (map f ms)
noted f same x [] h = absurd h
noted f same x (m ∷ ms) (inl e) = inl (same m ∙ e)
noted f same x (m ∷ ms) (inr h) = inr (noted f same x ms h)

hits_noted : (time thing : ℕ) (x : Spot) (ys : List Spot) → In x ys → HasNote x (map (all_doubted time thing) (map hit ys))
hits_noted time thing x [] h = absurd h
hits_noted time thing x (y ∷ ys) (inl e) = inl e
hits_noted time thing x (y ∷ ys) (inr h) = inr (hits_noted time thing x ys h)

module _ (d : Design) (s : Stmt) (e : EachSet (λ n b x t. is_target d x ≡ true) s) (st : Store) (m i : ℕ) (is_memory_m : is_memory d m ≡ true) (among : In i (words (memory_at d m))) (c : Cell) (at : In c (word_cells d m i)) where
  strong_kept : (HasMark (word_write m i) (clean_run d s (shown_of st)).marks → ⊥) → (if st.hidden c.thing then st.kept c else (clean_run d s (shown_of st)).kept c) ≡ st.kept c
  strong_kept un = go (st.hidden c.thing) refl ((run_leads d m i is_memory_m among c at s e _ (started (shown_of st))).kept un)
    where
      go : (t : Bool) → st.hidden c.thing ≡ t → (clean_run d s (shown_of st)).kept c ≡ (if st.hidden c.thing then st.shown c else st.kept c) → (if t then st.kept c else (clean_run d s (shown_of st)).kept c) ≡ st.kept c
      go true q h = refl
      go false q h = h ∙ ap (λ z. if z then st.shown c else st.kept c) q

  strong_queue : (HasMark (word_write m i) (clean_run d s (shown_of st)).marks → ⊥) → (k : Kept) → flush k (clean_run d s (shown_of st)).queue c ≡ k c
  strong_queue un k = queue_missed c (clean_run d s (shown_of st)).queue k ((run_leads d m i is_memory_m among c at s e _ (started (shown_of st))).queue un tt)

  weak_both : (time thing : ℕ) → (HasNote (word_write m i) (outcome d s st (weak time thing)).notes → ⊥) → ((outcome d s st (weak time thing)).kept c ≡ st.kept c) × ((k : Kept) → flush k (outcome d s st (weak time thing)).queue c ≡ k c)
  weak_both time thing un =
      let p = body_misses d m i is_memory_m among c at s e (λ h. un (hits_noted time thing (word_write m i) (body_spots d s) h)) in
      (missed c (weak_writes d s) st.kept p.0, λ k. queue_missed c (weak_queue d s ∷ []) k (p.1, tt))

pub unnoted : UnnotedLaw
unnoted d p st (clean time) lawful way m i is among un c at =
    let e = each_target d (body_at d p) (lawful.bodies p) in
    let no : HasMark (word_write m i) (clean_run d (body_at d p) (shown_of (own_store st))).marks → ⊥ = λ h. un (noted (at_time time) (λ m. refl) (word_write m i) (clean_run d (body_at d p) (shown_of (own_store st))).marks h) in
    (strong_kept d (body_at d p) e (own_store st) m i is among c at no, strong_queue d (body_at d p) e (own_store st) m i is among c at no)
unnoted d p st quiet lawful way m i is among un c at = absurd way
unnoted d p st (perhaps time thing) lawful way m i is among un c at =
    let e = each_target d (body_at d p) (lawful.bodies p) in
    let no : HasMark (word_write m i) (clean_run d (body_at d p) (shown_of (own_store st))).marks → ⊥ = λ h. un (noted (all_doubted time thing) (λ m. refl) (word_write m i) (clean_run d (body_at d p) (shown_of (own_store st))).marks h) in
    (strong_kept d (body_at d p) e (own_store st) m i is among c at no, strong_queue d (body_at d p) e (own_store st) m i is among c at no)
unnoted d p st (weak time thing) lawful way m i is among un c at =
    weak_both d (body_at d p) (each_target d (body_at d p) (lawful.bodies p)) (own_store st) m i is among c at time thing un
