-- Targets give the same on scenes that are alike.
use Rattle.std.proofs.Common.{List, Option, [], ap, ap₂, refl, ℕ, ◌++◌, ◌∙◌, ◌∷◌, ◌≡◌}
use Rattle.design_model.specs.Design.{Design, memory_at, signal_at}
use Rattle.design_model.specs.Tree.{Target, Targets, a_target, all_of, bits_of, no_targets, several, word_of}
use Rattle.value_store.specs.body_replay.Replay.{index_first, index_marks, indexes_first, indexes_marks}
use Rattle.scene_laws.specs.term_replay.Stands.{Scene}
use Rattle.scene_laws.specs.body_calls.Lvalues.{Like}
use Rattle.scene_laws.specs.body_calls.declared.lvalue.Lvalue.{Lvalue}
use Rattle.scene_laws.specs.body_calls.declared.lvalue.Lvalue.TheVariants.{Part, Signal, Word}
use Rattle.scene_laws.proofs.LikeScenes.{alike_first, alike_marks, alike_value}
use Rattle.assignments.specs.Pieces.{AreAllPieces, ArePieces}
use Rattle.assignments.specs.declared.piece.Piece.{Piece}

module _ (v w : Scene) (h : Like v w) where
  mutual
    pub alike_index_first : (x : Target) (f f' : Option ℕ) → f' ≡ f → index_first w.design w.kept w.blames f' x ≡ index_first v.design v.kept v.blames f x
    alike_index_first (all_of s) f f' e = e
    alike_index_first (bits_of s low n) f f' e = alike_first v w h f f' low e
    alike_index_first (word_of m i) f f' e = alike_first v w h f f' i e
    alike_index_first (several ts) f f' e = alike_indexes_first ts f f' e

    alike_indexes_first : (ts : Targets) (f f' : Option ℕ) → f' ≡ f → indexes_first w.design w.kept w.blames f' ts ≡ indexes_first v.design v.kept v.blames f ts
    alike_indexes_first no_targets f f' e = e
    alike_indexes_first (a_target t ts) f f' e = alike_indexes_first ts (index_first v.design v.kept v.blames f t) (index_first w.design w.kept w.blames f' t) (alike_index_first t f f' e)

  mutual
    pub alike_index_marks : (x : Target) (f f' : Option ℕ) → f' ≡ f → index_marks w.design w.kept w.blames f' x ≡ index_marks v.design v.kept v.blames f x
    alike_index_marks (all_of s) f f' e = refl
    alike_index_marks (bits_of s low n) f f' e = alike_marks v w h f f' low e
    alike_index_marks (word_of m i) f f' e = alike_marks v w h f f' i e
    alike_index_marks (several ts) f f' e = alike_indexes_marks ts f f' e

    alike_indexes_marks : (ts : Targets) (f f' : Option ℕ) → f' ≡ f → indexes_marks w.design w.kept w.blames f' ts ≡ indexes_marks v.design v.kept v.blames f ts
    alike_indexes_marks no_targets f f' e = refl
    alike_indexes_marks (a_target t ts) f f' e =
        ap₂ (λ a b. a ++ b) (alike_index_marks t f f' e) (alike_indexes_marks ts (index_first v.design v.kept v.blames f t) (index_first w.design w.kept w.blames f' t) (alike_index_first t f f' e))

  mutual
    pub alike_pieces : (x : Target) (f f' : Option ℕ) (xs : List Piece) → f' ≡ f → ArePieces w f' x xs → ArePieces v f x xs
    alike_pieces (all_of s) f f' xs e p = p ∙ ap (λ (d : Design). record { to = Signal s; width = (signal_at d s).width } ∷ []) h.design
    alike_pieces (bits_of s low n) f f' xs e p = (p.0, alike_value v w h f f' low p.0 e p.1, p.2)
    alike_pieces (word_of m i) f f' xs e p = (p.0, alike_value v w h f f' i p.0 e p.1, p.2 ∙ ap (λ (d : Design). record { to = Word m p.0; width = (memory_at d m).width } ∷ []) h.design)
    alike_pieces (several ts) f f' xs e p = alike_all_pieces ts f f' xs e p

    alike_all_pieces : (ts : Targets) (f f' : Option ℕ) (xs : List Piece) → f' ≡ f → AreAllPieces w f' ts xs → AreAllPieces v f ts xs
    alike_all_pieces no_targets f f' xs e p = p
    alike_all_pieces (a_target t ts) f f' xs e p =
        (p.0, p.1, p.2, alike_pieces t f f' p.0 e p.3, alike_all_pieces ts (index_first v.design v.kept v.blames f t) (index_first w.design w.kept w.blames f' t) p.1 (alike_index_first t f f' e) p.4)
