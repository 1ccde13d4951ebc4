-- A line that is written in pieces.
use Rattle.std.proofs.Common.{◌≡◌, ℕ, zero, suc, ◌+◌, ◌<◌, List, [], ◌∷◌, ◌++◌, length, take, drop, get_or, Option, None, Some, sym, ap, subst, ◌∙◌, refl, inl, inr, arith, append_assoc, take-append-drop}
use Rattle.std.proofs.Math.Seq.{take-append-add}
use Rattle.std.proofs.lemmas.List.{take_at}
use Rattle.std.specs.List.{flat_map}
use Rattle.cov_host.specs.Outside.{Outside, Told, Appends, AppendsPrefix}
use Rattle.whole_files.specs.Effects.{CountsUp, WarnsLine}
use Rattle.whole_files.proofs.EffectLemmas.{IsCounted-earlier}

-- the first bytes of a list are its first bytes, whatever follows
front_of_first : (first rest : List ℕ) (count : ℕ) → take count first ≡ take (length (take count first)) (first ++ rest)
front_of_first first rest count =
    sym (ap (λ all. take (length (take count first)) (all ++ rest)) (sym (take-append-drop count first)) ∙ ap (take (length (take count first))) (append_assoc (take count first) (drop count first) rest) ∙ take_at (take count first) (drop count first ++ rest) (length (take count first)) refl)

-- whole pieces and the first bytes of the next are the first bytes of all pieces
pub front_of_pieces : {X : Type 0} (text : X → List ℕ) (pieces : List X) (whole : ℕ) (count : ℕ) (default : X) → whole < length pieces → (total : ℕ) × (flat_map text (take whole pieces) ++ take count (text (get_or pieces whole default)) ≡ take total (flat_map text pieces))
front_of_pieces text [] whole count default within = absurd (omega arith)
front_of_pieces text (piece ∷ pieces) zero count default within = (length (take count (text piece)), front_of_first (text piece) (flat_map text pieces) count)
front_of_pieces text (piece ∷ pieces) (suc whole) count default within =
    let rest = front_of_pieces text pieces whole count default (omega arith) in
    (length (text piece) + rest.0, append_assoc (text piece) (flat_map text (take whole pieces)) (take count (text (get_or pieces whole default))) ∙ ap (λ all. text piece ++ all) rest.1 ∙ sym (take-append-add (text piece) (flat_map text pieces) rest.0))

-- what was appended whole, and then the first bytes of the next piece
pub AppendsPrefix-after : (line whole piece : List ℕ) (a b c : Option (List ℕ)) → ((count : ℕ) → (total : ℕ) × (whole ++ take count piece ≡ take total line)) → Told (Appends whole) a b → Told (AppendsPrefix piece) b c → Told (AppendsPrefix line) a c
AppendsPrefix-after line whole piece None None None joins first second = tt
AppendsPrefix-after line whole piece None None (Some z) joins first second = absurd second
AppendsPrefix-after line whole piece None (Some y) c joins first second = absurd first
AppendsPrefix-after line whole piece (Some x) None c joins first second = absurd first
AppendsPrefix-after line whole piece (Some x) (Some y) None joins first second = absurd second
AppendsPrefix-after line whole piece (Some x) (Some y) (Some z) joins first second =
    let joined = joins second.0 in
    (joined.0, second.1 ∙ ap (λ all. all ++ take second.0 piece) first ∙ append_assoc x whole (take second.0 piece) ∙ ap (λ all. x ++ all) joined.1)

-- a line that is warned after work that warned nothing
pub WarnsLine-since : (line : List ℕ) (before middle after : Outside) → middle.warned ≡ before.warned → CountsUp before middle → CountsUp middle after → WarnsLine line middle after → WarnsLine line before after
WarnsLine-since line before middle after same first second (inl whole) = inl (subst (λ warned. Told (Appends line) warned after.warned) same whole)
WarnsLine-since line before middle after same first second (inr front) =
    inr (IsCounted-earlier before.mute middle.mute after.mute first.mute second.mute front.0, subst (λ warned. Told (AppendsPrefix line) warned after.warned) same front.1)

-- a line that was warned, written otherwise
pub WarnsLine-is : (line other : List ℕ) (before after : Outside) → line ≡ other → WarnsLine line before after → WarnsLine other before after
WarnsLine-is line other before after same warned = subst (λ all. WarnsLine all before after) same warned
