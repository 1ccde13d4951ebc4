-- Words into which a value is joined, one listed place after another.
use Rattle.std.proofs.Common.{◌≡◌, ℕ, ◌+◌, ◌<◌, ◌⊎◌, true, false, List, [], ◌∷◌, ◌++◌, length, set, get_or, refl, sym, ap, ap₂, subst, ◌∙◌, inl, inr, ⊎_elim, arith, length-set, get_or-set_same, get_or-set_other}
use Rattle.std.specs.Prelude.{All, Contains}
use Rattle.std.proofs.lemmas.Bool.{cases_eq}
use Rattle.std.proofs.lemmas.List.{get_or_default}
use Rattle.std.proofs.lemmas.List.Elements.{All-set, Contains-push_cases}
use Rattle.known_state.specs.Partly.{Partly, with_blame}
use Rattle.known_state.specs.Join.{joined}
use Rattle.body_replay.specs.KnownBits.{KnownBits}
use Rattle.memory_rebuild.specs.declared.shape.Shape.{Shape}
use Rattle.memory_rebuild.specs.declared.word.Word.{Word}
use Rattle.memory_rebuild.specs.Words.{least, may_be}
use Rattle.memory_rebuild.specs.Epochs.{Fits, weakened}
use Rattle.memory_rebuild.proofs.Joins.{joined_again, length-joined}

-- the bits of a word after the value was perhaps joined into it
abbrev pub left_of : Shape → Partly → KnownBits → List Word → ℕ → Word → KnownBits
left_of s k value ws q d = weakened (may_be s k (least s + q)) value (get_or ws q d).value.bits

-- each word is as it was or is weakened, and those of the places that were met are weakened
pub record PartOf (s : Shape) (k : Partly) (value : KnownBits) (ws vs : List Word) (met : List ℕ) : Type 0 where
  pub size : length vs ≡ length ws
  pub fit : All (Fits s) vs
  pub epochs : (q : ℕ) (d : Word) → q < length ws → (get_or vs q d).epoch ≡ (get_or ws q d).epoch
  pub each : (q : ℕ) (d : Word) → q < length ws → ((get_or vs q d).value.bits ≡ (get_or ws q d).value.bits) ⊎ ((get_or vs q d).value.bits ≡ left_of s k value ws q d)
  pub listed : (q : ℕ) (d : Word) → q < length ws → Contains met q → (get_or vs q d).value.bits ≡ left_of s k value ws q d

pub part_none : (s : Shape) (k : Partly) (value : KnownBits) (ws : List Word) → All (Fits s) ws → PartOf s k value ws ws []
part_none s k value ws fit =
    record {
      size = refl;
      fit = fit;
      epochs = λ q d l. refl;
      each = λ q d l. inl refl;
      listed = λ q d l h. absurd (let none : h.0 < 0 = h.1 in omega (arith, none));
    }

module _ (s : Shape) (k : Partly) (value : KnownBits) (ws vs : List Word) (met : List ℕ) (p : ℕ) (part : PartOf s k value ws vs met) (inside : p < length ws) where
  -- a place that the index cannot name
  pub part_other : may_be s k (least s + p) ≡ false → PartOf s k value ws vs (met ++ p ∷ [])
  part_other free =
      record {
        size = part.size;
        fit = part.fit;
        epochs = part.epochs;
        each = part.each;
        listed = λ q d l h. ⊎_elim (λ before. part.listed q d l before) (λ here. kept q d l here) (Contains-push_cases met p q h);
      }
    where
      kept : (q : ℕ) (d : Word) → q < length ws → p ≡ q → (get_or vs q d).value.bits ≡ left_of s k value ws q d
      kept q d l here =
          let none : may_be s k (least s + q) ≡ false = subst (λ r. may_be s k (least s + r) ≡ false) here free in
          ⊎_elim (λ e. e ∙ sym (ap (λ t. weakened t value (get_or ws q d).value.bits) none)) (λ e. e) (part.each q d l)

  -- a place that it may name
  pub part_named : (x : Word) → may_be s k (least s + p) ≡ true → Fits s x → x.epoch ≡ (get_or vs p x).epoch → x.value.bits ≡ joined (get_or vs p x).value.bits value → PartOf s k value ws (set vs p x) (met ++ p ∷ [])
  part_named x may fit same bits =
      record {
        size = length-set vs p x ∙ part.size;
        fit = All-set (Fits s) vs p x fit part.fit;
        epochs = λ q d l. ⊎_elim (λ here. epoch_here q d here) (λ ne. ap (λ w. w.epoch) (get_or-set_other vs p q x d ne) ∙ part.epochs q d l) (cases_eq q p);
        each = λ q d l. ⊎_elim (λ here. inr (left_here q d here)) (λ ne. other q d l ne) (cases_eq q p);
        listed = λ q d l h. ⊎_elim (λ here. left_here q d here) (λ ne. ap (λ w. w.value.bits) (get_or-set_other vs p q x d ne) ∙ part.listed q d l (⊎_elim (λ before. before) (λ here. absurd (ne (sym here))) (Contains-push_cases met p q h))) (cases_eq q p);
      }
    where
      in_vs : p < length vs
      in_vs = let e : length vs ≡ length ws = part.size in omega (arith, inside, e)

      left_at : (d : Word) → (get_or (set vs p x) p d).value.bits ≡ left_of s k value ws p d
      left_at d =
          let now : (get_or (set vs p x) p d).value.bits ≡ joined (get_or vs p x).value.bits value = ap (λ w. w.value.bits) (get_or-set_same vs p x d in_vs) ∙ bits in
          let is : left_of s k value ws p x ≡ joined (get_or ws p x).value.bits value = ap (λ t. weakened t value (get_or ws p x).value.bits) may in
          let default : left_of s k value ws p x ≡ left_of s k value ws p d = ap (λ w. weakened (may_be s k (least s + p)) value w.value.bits) (get_or_default ws p x d inside) in
          now ∙ ⊎_elim (λ e. ap (λ ps. joined ps value) e ∙ sym is ∙ default) (λ e. ap (λ ps. joined ps value) (e ∙ is) ∙ joined_again (get_or ws p x).value.bits value ∙ sym is ∙ default) (part.each p x inside)

      left_here : (q : ℕ) (d : Word) → q ≡ p → (get_or (set vs p x) q d).value.bits ≡ left_of s k value ws q d
      left_here q d here = subst (λ r. (get_or (set vs p x) r d).value.bits ≡ left_of s k value ws r d) (sym here) (left_at d)

      epoch_here : (q : ℕ) (d : Word) → q ≡ p → (get_or (set vs p x) q d).epoch ≡ (get_or ws q d).epoch
      epoch_here q d here =
          subst (λ r. (get_or (set vs p x) r d).epoch ≡ (get_or ws r d).epoch) (sym here)
          (ap (λ w. w.epoch) (get_or-set_same vs p x d in_vs) ∙ same ∙ part.epochs p x inside ∙ ap (λ w. w.epoch) (get_or_default ws p x d inside))

      other : (q : ℕ) (d : Word) → q < length ws → (q ≡ p → ⊥) → ((get_or (set vs p x) q d).value.bits ≡ (get_or ws q d).value.bits) ⊎ ((get_or (set vs p x) q d).value.bits ≡ left_of s k value ws q d)
      other q d l ne =
          let e : (get_or (set vs p x) q d).value.bits ≡ (get_or vs q d).value.bits = ap (λ w. w.value.bits) (get_or-set_other vs p q x d ne) in
          ⊎_elim (λ h. inl (e ∙ h)) (λ h. inr (e ∙ h)) (part.each q d l)

  -- the same of a word that the code computes
  pub part_joined : (v : Partly) (cur x : Word) → v.bits ≡ value → may_be s k (least s + p) ≡ true → length v.bits ≡ s.width → v.signed ≡ s.signed → cur ≡ get_or vs p cur → x.value ≡ with_blame (joined cur.value.bits v.bits) v.signed s.blame → x.epoch ≡ cur.epoch → PartOf s k value ws (set vs p x) (met ++ p ∷ [])
  part_joined v cur x is may wide sign at made same =
      part_named x may fits (same ∙ ap (λ w. w.epoch) here) (ap (λ y. y.bits) made ∙ ap₂ (λ w ps. joined w.value.bits ps) here is)
    where
      in_range : p < length vs
      in_range = let e : length vs ≡ length ws = part.size in omega (arith, inside, e)

      here : cur ≡ get_or vs p x
      here = at ∙ get_or_default vs p cur x in_range

      own : Fits s cur
      own = subst (Fits s) (sym at) (part.fit p cur in_range)

      fits : Fits s x
      fits =
          record {
            width = ap (λ y. length y.bits) made ∙ length-joined cur.value.bits v.bits s.width own.width wide;
            whole = made ∙ ap₂ (λ bs t. with_blame bs t s.blame) (sym (ap (λ y. y.bits) made)) sign;
          }
