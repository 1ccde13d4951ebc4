-- The machines of the words that are drawn, one after the other.
use Rattle.std.proofs.Common.{◌≡◌, ◌⊎◌, ◌<◌, ◌++◌, ℕ, zero, suc, inl, inr, List, [], ◌∷◌, ◌∙◌, length, append_assoc, append-nil, refl, sym, ap, subst, arith}
use Rattle.command_line.specs.DrawingWords.{DrawingNames}
use Rattle.design_model.specs.Design.{Design, In}
use Rattle.drawn_machines.specs.Drawing.{IsDrawing}
use Rattle.state_machines.specs.declared.drawn.Drawn.{Drawn}
use Rattle.covered_cli.specs.Drawing.{IsNoMachineFor, drawing_at}
use Rattle.covered_cli.specs.Fault.{IsDrawingFault, IsDrawingFaultOf}
use Rattle.covered_cli.specs.ScoreMachines.{AreAllDrawn, AreDrawnFor, ArePlaced, IsDrawnFor, IsPlacedFor}
use Rattle.covered_cli.specs.declared.fault.Fault.{Fault}
use Rattle.covered_cli.specs.declared.fault.Fault.TheVariants.{Usage, Source, NoMachine, Points as PointsFault, Dump, Contradiction, Files as FilesFault, Memory, Databases, Selfrun}

in_either : {A : Type 0} (x : A) (xs ys : List A) → In x (xs ++ ys) → In x xs ⊎ In x ys
in_either x [] ys h = inr h
in_either x (y ∷ xs) ys (inl e) = inl (inl e)
in_either x (y ∷ xs) ys (inr h) = further (in_either x xs ys h)
  where
    further : In x xs ⊎ In x ys → In x (y ∷ xs) ⊎ In x ys
    further (inl k) = inl (inr k)
    further (inr k) = inr k

in_left : {A : Type 0} (x : A) (xs ys : List A) → In x xs → In x (xs ++ ys)
in_left x [] ys h = absurd h
in_left x (y ∷ xs) ys (inl e) = inl e
in_left x (y ∷ xs) ys (inr h) = inr (in_left x xs ys h)

in_right : {A : Type 0} (x : A) (xs ys : List A) → In x ys → In x (xs ++ ys)
in_right x [] ys h = h
in_right x (y ∷ xs) ys h = inr (in_right x xs ys h)

-- of all these values the drawing of some is done, what they draw was added to what was there, and these are left
pub record HasDrawn (d : Design) (all rest : List DrawingNames) (old now : List Drawn) : Type 0 where
  pub so_far : List DrawingNames
  pub es : List Drawn
  pub of_all : so_far ++ rest ≡ all
  pub added : now ≡ old ++ es
  pub drawn : AreAllDrawn d so_far es
  pub placed : ArePlaced d so_far

module _ (d : Design) where
  pub none_drawn : AreAllDrawn d [] []
  none_drawn e = (λ h. absurd h, λ h. absurd h.1)

  -- of one value more
  pub more_drawn : (m : DrawingNames) (xs : List DrawingNames) (es new : List Drawn) → AreAllDrawn d xs es → AreDrawnFor d m new → AreAllDrawn d (xs ++ (m ∷ [])) (es ++ new)
  more_drawn m xs es new all own e = (λ h. there (in_either e es new h), λ h. back h.0 h.2 (in_either h.0 xs (m ∷ []) h.1))
    where
      there : In e es ⊎ In e new → IsDrawnFor d (xs ++ (m ∷ [])) e
      there (inl h) = let r = (all e).0 h in (r.0, in_left r.0 xs (m ∷ []) r.1, r.2)
      there (inr h) = (m, in_right m xs (m ∷ []) (inl refl), (own e).0 h)

      back : (n : DrawingNames) → IsDrawing d n.of_module n.current n.next e → In n xs ⊎ In n (m ∷ []) → In e (es ++ new)
      back n is (inl k) = in_left e es new ((all e).1 (n, k, is))
      back n is (inr (inl k)) = in_right e es new ((own e).1 (subst (λ (x : DrawingNames). IsDrawing d x.of_module x.current x.next e) (sym k) is))
      back n is (inr (inr k)) = absurd k

  pub none_placed : ArePlaced d []
  none_placed m h = absurd h

  pub more_placed : (m : DrawingNames) (xs : List DrawingNames) → ArePlaced d xs → IsPlacedFor d m → ArePlaced d (xs ++ (m ∷ []))
  more_placed m xs all own n h = by_one (in_either n xs (m ∷ []) h)
    where
      by_one : In n xs ⊎ In n (m ∷ []) → IsPlacedFor d n
      by_one (inl k) = all n k
      by_one (inr (inl k)) = subst (λ (x : DrawingNames). IsPlacedFor d x) k own
      by_one (inr (inr k)) = absurd k

  at_end : (xs rest : List DrawingNames) (m : DrawingNames) → drawing_at (xs ++ (m ∷ rest)) (length xs) ≡ m
  at_end [] rest m = refl
  at_end (x ∷ xs) rest m = at_end xs rest m

  before_end : (xs ys : List DrawingNames) (j : ℕ) → j < length xs → In (drawing_at (xs ++ ys) j) xs
  before_end [] ys j l = absurd (omega (arith, l))
  before_end (x ∷ xs) ys zero l = inl refl
  before_end (x ∷ xs) ys (suc j) l = inr (before_end xs ys j (omega (arith, l)))

  long : (xs rest : List DrawingNames) (m : DrawingNames) → length xs < length (xs ++ (m ∷ rest))
  long [] rest m = omega arith
  long (x ∷ xs) rest m = let l = long xs rest m in omega (arith, l)

  -- the fault of a value, before which all are placed, is that of the first at fault
  pub first_fault : (xs rest : List DrawingNames) (m : DrawingNames) (f : Fault) → ArePlaced d xs → IsDrawingFaultOf d m f → IsDrawingFault d (xs ++ (m ∷ rest)) f
  first_fault xs rest m (NoMachine name) placed is =
      (length xs, long xs rest m, subst (λ (x : DrawingNames). IsNoMachineFor d x name.now) (sym (at_end xs rest m)) is, λ j l. placed (drawing_at (xs ++ (m ∷ rest)) j) (before_end xs (m ∷ rest) j l))
  first_fault xs rest m Memory placed is = tt
  first_fault xs rest m (Usage usage) placed is = absurd is
  first_fault xs rest m (Source f) placed is = absurd is
  first_fault xs rest m (PointsFault p) placed is = absurd is
  first_fault xs rest m (Dump refusal) placed is = absurd is
  first_fault xs rest m (Contradiction found) placed is = absurd is
  first_fault xs rest m (FilesFault call file) placed is = absurd is
  first_fault xs rest m (Databases f) placed is = absurd is
  first_fault xs rest m (Selfrun f) placed is = absurd is

  -- before the first value
  pub drawn_start : (all : List DrawingNames) (old : List Drawn) → HasDrawn d all all old old
  drawn_start all old = record { so_far = []; es = []; of_all = refl; added = sym (append-nil old); drawn = none_drawn; placed = none_placed }

  whole : (xs all left rest : List DrawingNames) (m : DrawingNames) → xs ++ left ≡ all → left ≡ m ∷ rest → xs ++ (m ∷ rest) ≡ all
  whole xs all left rest m is next = ap (λ (ys : List DrawingNames). xs ++ ys) (sym next) ∙ is

  -- after one value more
  pub drawn_next : (all left rest : List DrawingNames) (old now later : List Drawn) (m : DrawingNames) → HasDrawn d all left old now → left ≡ m ∷ rest
      → ((new : List Drawn) × (later ≡ now ++ new) × AreDrawnFor d m new) → IsPlacedFor d m → HasDrawn d all rest old later
  drawn_next all left rest old now later m has next own placed = record {
    so_far = has.so_far ++ (m ∷ []);
    es = has.es ++ own.0;
    of_all = append_assoc has.so_far (m ∷ []) rest ∙ whole has.so_far all left rest m has.of_all next;
    added = own.1 ∙ (ap (λ (ds : List Drawn). ds ++ own.0) has.added ∙ append_assoc old has.es own.0);
    drawn = more_drawn m has.so_far has.es own.0 has.drawn own.2;
    placed = more_placed m has.so_far has.placed placed;
  }

  -- after the last value
  done : (all left : List DrawingNames) (old now : List Drawn) (has : HasDrawn d all left old now) → left ≡ [] → has.so_far ≡ all
  done all left old now has none = sym (append-nil has.so_far) ∙ (ap (λ (ys : List DrawingNames). has.so_far ++ ys) (sym none) ∙ has.of_all)

  pub all_drawn : (all left : List DrawingNames) (old now : List Drawn) → HasDrawn d all left old now → left ≡ [] → (es : List Drawn) × (now ≡ old ++ es) × AreAllDrawn d all es
  all_drawn all left old now has none = (has.es, has.added, subst (λ (xs : List DrawingNames). AreAllDrawn d xs has.es) (done all left old now has none) has.drawn)

  pub all_placed : (all left : List DrawingNames) (old now : List Drawn) → HasDrawn d all left old now → left ≡ [] → ArePlaced d all
  all_placed all left old now has none = subst (λ (xs : List DrawingNames). ArePlaced d xs) (done all left old now has none) has.placed

  -- the fault of the next value is that of all
  pub next_fault : (all left rest : List DrawingNames) (old now : List Drawn) (m : DrawingNames) (f : Fault) → HasDrawn d all left old now → left ≡ m ∷ rest → IsDrawingFaultOf d m f → IsDrawingFault d all f
  next_fault all left rest old now m f has next own =
      subst (λ (xs : List DrawingNames). IsDrawingFault d xs f) (whole has.so_far all left rest m has.of_all next) (first_fault has.so_far rest m f has.placed own)
