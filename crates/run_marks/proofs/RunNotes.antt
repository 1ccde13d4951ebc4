-- The notes of a run are of points of which its process is a block.
use Rattle.std.proofs.Common.{◌≡◌, ℕ, true, false, List, [], ◌∷◌, map, refl, subst, inl, inr}
use Rattle.std.proofs.lemmas.List.Elements.{All-cons, All-nil}
use Rattle.std.specs.List.{All}
use Rattle.design_model.specs.Design.{Design, body_at}
use Rattle.design_model.specs.Lawful.{IsLawfulDesign}
use Rattle.design_model.specs.Mentions.{body_mentions}
use Rattle.design_model.specs.Open.{ActionWrites}
use Rattle.design_model.specs.Paths.{Action, assigns, compares, reaches, selects, tests}
use Rattle.design_model.specs.declared.point.Point.TheVariants.{Word}
use Rattle.design_model.specs.Tree.{Term}
use Rattle.design_model.proofs.Along.{ActionHas}
use Rattle.design_model.proofs.MentionedPaths.{paths_give}
use Rattle.body_replay.specs.Contract.{Certainty, HasNote, IsStrong, Note, Store, all_doubted, body_spots, clean, outcome, perhaps, quiet, weak}
use Rattle.body_replay.specs.Replay.{Spot, hit, line, node, word_read, word_write}
use Rattle.body_replay.proofs.OpenPoints.{marked_open}
use Rattle.body_replay.proofs.WeakPoints.{weak_of_body}
use Rattle.run_marks.specs.Reported.{AreNotesOf, IsSpotOf}
use Rattle.run_marks.proofs.BodyPaths.{on_path}
use Rattle.run_marks.proofs.MentionedWords.{reads_mentioned}
use Rattle.run_marks.proofs.NotedWrites.{AllMay, MayWrite, Names, WritesMemory, each_names, of_body}

all_noted : (Q : Spot → Type 0) (ns : List Note) → ((x : Spot) → HasNote x ns → Q x) → All (λ (n : Note). Q n.spot) ns
all_noted Q [] f = All-nil (λ (n : Note). Q n.spot)
all_noted Q (n ∷ ns) f = All-cons (λ (n : Note). Q n.spot) n ns (f n.spot (inl refl)) (all_noted Q ns (λ x h. f x (inr h)))

module _ (d : Design) (p : ℕ) (lawful : IsLawfulDesign d) (st : Store) where
  noted_may : (time thing : ℕ) (x : Spot) (ys : List Spot) → AllMay d p ys → HasNote x (map (all_doubted time thing) (map hit ys)) → MayWrite d p x
  noted_may time thing x [] a h = absurd h
  noted_may time thing x (y ∷ ys) a (inl e) = subst (MayWrite d p) e a.0
  noted_may time thing x (y ∷ ys) a (inr h) = noted_may time thing x ys a.1 h

  written : (m : ℕ) (x : Action) → ActionHas (Names d p) x → (i : Term) → ActionWrites m x i → WritesMemory d p m
  written m (assigns b y t) has i w = has m i w
  written m (reaches n) has i w = absurd w
  written m (tests t taken) has i w = absurd w
  written m (selects t) has i w = absurd w
  written m (compares kind on t taken) has i w = absurd w

  strong_read : (m k : ℕ) (how : Certainty) → IsStrong how → HasNote (word_read m k) (outcome d (body_at d p) st how).notes → body_mentions m (body_at d p) ≡ true
  strong_read m k how strong h =
      let o = marked_open d (body_at d p) st how strong (Word m k false) (word_read m k) refl h in
      let a = o.2.1 in
      paths_give m (body_mentions m (body_at d p) ≡ true) [] (body_at d p) (λ e. e) o.0 o.1.is_path a.0 a.1 (reads_mentioned m a.0.action a.3.0 a.3.1)

  strong_write : (m k : ℕ) (how : Certainty) → IsStrong how → HasNote (word_write m k) (outcome d (body_at d p) st how).notes → WritesMemory d p m
  strong_write m k how strong h =
      let o = marked_open d (body_at d p) st how strong (Word m k true) (word_write m k) refl h in
      let a = o.2.1 in
      written m a.0.action (on_path (Names d p) (body_at d p) (each_names d p lawful) o.0 o.1.is_path a.0 a.1) a.3.0 a.3.1

  strong_spot : (how : Certainty) → IsStrong how → (x : Spot) → HasNote x (outcome d (body_at d p) st how).notes → IsSpotOf d p x
  strong_spot how strong (line n) h = tt
  strong_spot how strong (node n c) h = tt
  strong_spot how strong (word_read m k) h = strong_read m k how strong h
  strong_spot how strong (word_write m k) h = strong_write m k how strong h

  weak_spot : (time thing : ℕ) (x : Spot) → HasNote x (outcome d (body_at d p) st (weak time thing)).notes → IsSpotOf d p x
  weak_spot time thing (line n) h = tt
  weak_spot time thing (node n c) h = tt
  weak_spot time thing (word_read m k) h = (weak_of_body d (body_at d p) st time thing (word_read m k) h).0
  weak_spot time thing (word_write m k) h = noted_may time thing (word_write m k) (body_spots d (body_at d p)) (of_body d p (body_at d p) (each_names d p lawful)) h

  noted_spot : (how : Certainty) (x : Spot) → HasNote x (outcome d (body_at d p) st how).notes → IsSpotOf d p x
  noted_spot (clean time) x h = strong_spot (clean time) tt x h
  noted_spot quiet x h = strong_spot quiet tt x h
  noted_spot (perhaps time thing) x h = strong_spot (perhaps time thing) tt x h
  noted_spot (weak time thing) x h = weak_spot time thing x h

  pub notes_are : (how : Certainty) → AreNotesOf d p (outcome d (body_at d p) st how).notes
  notes_are how = all_noted (IsSpotOf d p) (outcome d (body_at d p) st how).notes (noted_spot how)
