-- The parts of targets, one target further.
use Rattle.std.proofs.Common.{List, Option, [], add-one, ap, append-nil, append_assoc, arith, drop, drop-cons, get_or, length, map, refl, subst, sym, ℕ, ◌+◌, ◌<◌, ◌∙◌, ◌∷◌, ◌≡◌, ◌++◌}
use Rattle.design_model.specs.Tree as t
use Rattle.design_model.specs.View.{target_view, targets_of}
use Rattle.design_model.specs.declared.tree.Target.{Target}
use Rattle.value_store.specs.body_replay.Replay.{index_first}
use Rattle.scene_laws.specs.term_replay.Stands.{Scene}
use Rattle.value_store.specs.Queue.{Queue}
use Rattle.assignments.specs.Pieces.{AllLocated, AreAllPieces, ArePieces, Located}
use Rattle.assignments.specs.declared.piece.Piece.{Piece}

-- the targets from the one at i on
pub targets_from : (xs : List Target) (i : ℕ) (x : Target) → i < length xs → x ≡ get_or xs i x → targets_of (map target_view (drop i xs)) ≡ t.a_target (target_view x) (targets_of (map target_view (drop (i + 1) xs)))
targets_from xs i x within is = rw (add-one, drop-cons xs i x within, ← is) refl

-- the parts so far, and those of the rest, are those of all
pub record LocatesOn (v : Scene) (first : Option ℕ) (all : t.Targets) (before : Queue Piece) (now : Option ℕ) (rest : t.Targets) (q : Queue Piece) : Type 0 where
  pub so_far : List Piece
  pub added : q ≡ record before { items = before.items ++ so_far }
  pub goes : (zs : List Piece) → AreAllPieces v now rest zs → AreAllPieces v first all (so_far ++ zs)

module _ (v : Scene) (first : Option ℕ) (all : t.Targets) (before : Queue Piece) where
  pub locates_start : LocatesOn v first all before first all before
  locates_start = record { so_far = []; added = ap (λ xs. record before { items = xs }) (sym (append-nil before.items)); goes = λ zs h. h }

  pub locates_further : (now next : Option ℕ) (x : t.Target) (rest : t.Targets) (q p : Queue Piece) → next ≡ index_first v.design v.kept v.blames now x → Located v now x q p → LocatesOn v first all before now (t.a_target x rest) q → LocatesOn v first all before next rest p
  locates_further now next x rest q p e l h =
      record {
        so_far = h.so_far ++ l.pieces;
        added = l.added ∙ ap (λ (z : Queue Piece). record z { items = z.items ++ l.pieces }) h.added ∙ ap (λ xs. record before { items = xs }) (append_assoc before.items h.so_far l.pieces);
        goes = λ zs k.
            subst (AreAllPieces v first all) (sym (append_assoc h.so_far l.pieces zs))
            (h.goes (l.pieces ++ zs) (l.pieces, zs, refl, l.are, subst (λ f. AreAllPieces v f rest zs) e k));
      }

  pub locates_end : (now : Option ℕ) (q : Queue Piece) → LocatesOn v first all before now t.no_targets q → AllLocated v first all before q
  locates_end now q h =
      record { pieces = h.so_far; are = subst (AreAllPieces v first all) (append-nil h.so_far) (h.goes [] refl); added = h.added }
