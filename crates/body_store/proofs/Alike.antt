-- What bodies read after a write to one signal is what the definition of a run leaves of it.
use Rattle.std.proofs.Common.{◌≡◌, ℕ, ◌<◌, ◌==◌, ◌&&◌, ◌||◌, Bool, true, false, if◌then◌else◌, List, length, map, refl, sym, ap, subst, ◌∙◌, arith}
use Rattle.std.specs.Prelude.{nat_lt}
use Rattle.std.proofs.lemmas.Bool.{eqb-true}
use Rattle.std.proofs.lemmas.Bool.Decides.{nat_tests}
use Rattle.known_state.specs.Partly.{Partly, is_whole}
use Rattle.design_model.specs.Design.{Design, signal_at, signal_cells}
use Rattle.body_calls.specs.body_replay.KnownBits.{all_sure}
use Rattle.body_calls.specs.body_replay.Store.{KnownWrite, keep_all}
use Rattle.body_calls.proofs.body_replay.Answered.{same_sure}
use Rattle.word_log.specs.memory_rebuild.Words.{KnownWords}
use Rattle.body_calls.specs.term_replay.Stands.{Scene}
use Rattle.body_calls.specs.Lvalues.{Like, is_sure_signal}
use Rattle.body_store.specs.Scenes.{blames_by, kept_by}
use Rattle.body_store.proofs.Changed.{one_changed}
use Rattle.body_store.proofs.Inside.{Inside, is_below}

or_false : (b : Bool) → b ≡ (b || false)
or_false true = refl
or_false false = refl

module _ (d : Design) (n s : ℕ) (old new : ℕ → Partly) (words : ℕ → KnownWords) (flags : ℕ → Bool) (ws : List KnownWrite) (blame : ℕ → ℕ) (count : n ≡ length d.signals) (l : s < n) (size : length (old s).bits ≡ (signal_at d s).width) (same : length (new s).bits ≡ (signal_at d s).width) (others : (x : ℕ) → (s == x) ≡ false → new x ≡ old x) (inside : Inside s (is_below (signal_at d s).width) ws) (bits : (new s).bits ≡ map (keep_all (kept_by n old words) ws) (signal_cells d s)) (here : is_whole (new s) ≡ false → (new s).blame ≡ blame s) (there : (x : ℕ) → (s == x) ≡ false → blame x ≡ (blames_by n old flags).blame x) where
  abbrev pub defined : Scene
  defined = record { design = d; kept = keep_all (kept_by n old words) ws; blames = record { blame = blame; wrote = λ m. (blames_by n old flags).wrote m || false } }

  abbrev pub stored : Scene
  stored = record { design = d; kept = kept_by n new words; blames = blames_by n new flags }

  unsure_here : is_sure_signal defined s ≡ false → is_whole (new s) ≡ false
  unsure_here u =
      let yes : nat_lt s (length d.signals) ≡ true = grind (arith, nat_tests, l, count) in
      sym (same_sure (new s).bits) ∙ ap all_sure bits ∙ ap (λ t. t && all_sure (map defined.kept (signal_cells d s))) (sym yes) ∙ u

  blamed_here : is_sure_signal defined s ≡ false → stored.blames.blame s ≡ blame s
  blamed_here u =
      let yes : nat_lt s n ≡ true = grind (arith, nat_tests, l) in
      ap (λ t. if t then (new s).blame else s) yes ∙ here (unsure_here u)

  blamed : (x : ℕ) (t : Bool) → (s == x) ≡ t → is_sure_signal defined x ≡ false → stored.blames.blame x ≡ blame x
  blamed x true e = let is : s ≡ x = eqb-true s x e in subst (λ y. is_sure_signal defined y ≡ false → stored.blames.blame y ≡ blame y) is blamed_here
  blamed x false e = λ u. ap (λ q. if nat_lt x n then q.blame else x) (others x e) ∙ sym (there x e)

  pub like_one : Like defined stored
  like_one =
      record {
        design = refl;
        kept = one_changed d n s old new words ws l size same others inside bits;
        wrote = λ m. or_false ((blames_by n old flags).wrote m);
        blame = λ x. blamed x (s == x) refl;
      }
