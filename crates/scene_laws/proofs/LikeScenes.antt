-- Scenes that are alike, and what terms give on them.
use Rattle.std.proofs.Common.{Bool, List, Option, ap, ap₂, false, length, map, nat_lt, refl, subst, sym, ℕ, ◌&&◌, ◌∙◌, ◌≡◌}
use Rattle.body_calls.specs.known_state.Partly.{Partly, is_whole}
use Rattle.body_calls.specs.design_model.Design.{Design, signal_cells}
use Rattle.body_calls.specs.design_model.Tree.{Term}
use Rattle.body_calls.specs.body_replay.KnownBits.{all_sure}
use Rattle.body_calls.specs.body_replay.Store.{Kept, known_value}
use Rattle.body_calls.specs.body_replay.Replay.{blame_of, first_read, term_marks}
use Rattle.body_calls.proofs.body_replay.Answered.{same_sure}
use Rattle.body_calls.specs.term_replay.Noted.{marks_of}
use Rattle.body_calls.specs.term_replay.Stands.{Scene, Stands, first_after}
use Rattle.body_calls.specs.Lvalues.{Like, is_sure_signal}
use Rattle.scene_laws.specs.Laws.{SameTerm, TermsAlike}
use Rattle.scene_laws.proofs.LikeTerms.{LikeBlames, term_like}

pub like_refl : (v : Scene) → Like v v
like_refl v = record { design = refl; kept = refl; wrote = λ m. refl; blame = λ x u. refl }

-- the same scene by another name
pub like_same : (v w : Scene) → w ≡ v → Like v w
like_same v w e = subst (Like v) (sym e) (like_refl v)

pub same_sure_signal : (v w : Scene) → Like v w → (x : ℕ) → is_sure_signal w x ≡ is_sure_signal v x
same_sure_signal v w h x = ap₂ (λ d k. nat_lt x (length d.signals) && all_sure (map k (signal_cells d x))) h.design h.kept

pub like_trans : (u v w : Scene) → Like u v → Like v w → Like u w
like_trans u v w h k =
    record {
      design = k.design ∙ h.design;
      kept = k.kept ∙ h.kept;
      wrote = λ m. k.wrote m ∙ h.wrote m;
      blame = λ x e. k.blame x (same_sure_signal u v h x ∙ e) ∙ h.blame x e;
    }

pub like_blames : (v w : Scene) → Like v w → LikeBlames v.design v.kept v.blames w.blames
like_blames v w h = record { wrote = h.wrote; blame = h.blame }

-- what depends on a scene by its design, what is kept and its blames
module _ (v w : Scene) (h : Like v w) where
  over : {A : Type 0} (f : Design → Kept → A) → f w.design w.kept ≡ f v.design v.kept
  over f = ap₂ f h.design h.kept

  pub alike_first : (f f' : Option ℕ) (t : Term) → f' ≡ f → first_read w.design w.kept w.blames f' t ≡ first_read v.design v.kept v.blames f t
  alike_first f f' t e = over (λ d k. first_read d k w.blames f' t) ∙ (term_like v.design v.kept v.blames w.blames (like_blames v w h) t f f' e).first

  pub alike_marks : (f f' : Option ℕ) (t : Term) → f' ≡ f → term_marks w.design w.kept w.blames f' t ≡ term_marks v.design v.kept v.blames f t
  alike_marks f f' t e = over (λ d k. term_marks d k w.blames f' t) ∙ (term_like v.design v.kept v.blames w.blames (like_blames v w h) t f f' e).marks

  pub alike_value : (f f' : Option ℕ) (t : Term) (r : Partly) → f' ≡ f → Stands w f' t r → Stands v f t r
  alike_value f f' t r e s =
      let bits : r.bits ≡ known_value v.design v.kept t = s.bits ∙ over (λ d k. known_value d k t) in
      record {
        bits = bits;
        sign_is = s.sign_is;
        blame = λ u. s.blame u ∙ over (λ d k. blame_of d k w.blames f' t) ∙ (term_like v.design v.kept v.blames w.blames (like_blames v w h) t f f' e).blame (sym (ap all_sure bits) ∙ same_sure r.bits ∙ u);
      }

pub terms_alike : TermsAlike
terms_alike v w h first t = record { value = λ r s. alike_value v w h first first t r refl s; first = alike_first v w h first first t refl; marks = alike_marks v w h first first t refl }
