-- The examples of what a run reports.
use Rattle.std.proofs.Common.{◌≡◌, List, [], ◌∷◌, Some, None, length, get_or, refl, sym, ap, subst, ◌∙◌, inl, inr, arith}
use Rattle.std.proofs.lemmas.Bool.{false≢true}
use Rattle.std.proofs.lemmas.List.Elements.{All-cons, All-head, All-nil, All-tail}
use Rattle.body_replay.specs.Contract.{Note}
use Rattle.cover_marks.specs.Marks.{AreMarksOf}
use Rattle.cover_marks.specs.declared.marks.Marks.{Marks}
use Rattle.cover_points.specs.Listed.{points_of}
use Rattle.cover_points.specs.Visits.{AreApart, AreOnce, no_point, point_at}
use Rattle.cover_points.specs.declared.listing.Points.{Points}
use Rattle.design_model.specs.Design.{cell}
use Rattle.design_model.specs.FlipFlop.{flip_flop, line_two}
use Rattle.design_model.specs.Ram.{ram}
use Rattle.mark_laws.specs.Marked.{AreVerdicts}
use Rattle.mark_laws.specs.Numbered.{verdict_view}
use Rattle.point_marks.specs.declared.verdict.Verdict.{Verdict}
use Rattle.point_marks.specs.declared.verdict.Verdict.TheVariants.{Hit, Missed, Undetermined}
use Rattle.mark_laws.specs.replay_model.Marks.{IsVerdict, Marking, markings_by}
use Rattle.run_marks.specs.Reported.{AreNotesOf, HasReported, IsRightStart, IsSpotOf}
use Rattle.run_marks.specs.Example.{IsReportExample, IsSpotExample, doubt_note, hit_note, new_start, other_note, write_note}

pub spots : IsSpotExample
spots =
    let written : IsSpotOf ram 0 write_note.spot = (cell 6 0, refl, inr refl) in
    let not_written : IsSpotOf ram 1 write_note.spot → ⊥ = λ h. elim h.2 [ inl e ↦ false≢true e | inr e ↦ false≢true e ] in
    record {
      read = refl;
      written = written;
      not_read = λ e. false≢true e;
      not_written = not_written;
      notes = All-cons (λ (n : Note). IsSpotOf ram 0 n.spot) hit_note (write_note ∷ []) tt (All-cons (λ (n : Note). IsSpotOf ram 0 n.spot) write_note [] written (All-nil (λ (n : Note). IsSpotOf ram 0 n.spot)));
      not_notes = λ h. not_written (All-head (λ (n : Note). IsSpotOf ram 1 n.spot) write_note [] (All-tail (λ (n : Note). IsSpotOf ram 1 n.spot) hit_note (write_note ∷ []) h));
    }

module _ (ps : Points) (m : Marks) (one : points_of ps ≡ line_two ∷ []) (marks : AreMarksOf ps m) where
  size : length (points_of ps) ≡ 1
  size = ap length one

  apart : AreApart ps
  apart j k v a b = omega (arith, size, a.0, b.0)

  once : AreOnce ps
  once j k l n e = omega (arith, size, l, n)

  -- the verdict of the one point
  verdicts : (ns : List Marking) (v : Verdict) (all : List Verdict) → all ≡ v ∷ [] → IsVerdict flip_flop line_two ns (verdict_view v) → AreVerdicts flip_flop ps ns all
  verdicts ns v all e is =
      record {
        count = ap length e ∙ sym size;
        each = λ k l.
            subst (λ i. IsVerdict flip_flop (point_at ps i) ns (verdict_view (get_or all i Missed))) (let z : 0 ≡ k = omega (arith, size, l) in z)
            (subst (λ xs. IsVerdict flip_flop (get_or xs 0 no_point) ns (verdict_view (get_or all 0 Missed))) (sym one) (subst (λ vs. IsVerdict flip_flop line_two ns (verdict_view (get_or vs 0 Missed))) (sym e) is));
      }

  right : IsRightStart (new_start ps)
  right = record { apart = apart; once = once; verdicts = verdicts [] Missed (Missed ∷ []) refl tt }

  verdict_of : (ns : List Marking) (v : Verdict) → m.verdicts ≡ v ∷ [] → AreVerdicts flip_flop ps ns m.verdicts → IsVerdict flip_flop line_two ns (verdict_view v)
  verdict_of ns v e h =
      subst (λ vs. IsVerdict flip_flop line_two ns (verdict_view (get_or vs 0 Missed))) e
      (subst (λ xs. IsVerdict flip_flop (get_or xs 0 no_point) ns (verdict_view (get_or m.verdicts 0 Missed))) one (h.each 0 (omega (arith, size))))

  reported : (ns : List Note) (v : Verdict) → m.verdicts ≡ v ∷ [] → IsVerdict flip_flop line_two (markings_by 0 ns) (verdict_view v) → HasReported (new_start ps) ns 0 ps m
  reported ns v e is = record { process = refl; points = refl; marks = marks; verdicts = λ begun own. verdicts (markings_by 0 ns) v m.verdicts e is }

  of_lines : (n : Note) → IsSpotOf flip_flop 0 n.spot → AreNotesOf flip_flop 0 (n ∷ [])
  of_lines n own = All-cons (λ (x : Note). IsSpotOf flip_flop 0 x.spot) n [] own (All-nil (λ (x : Note). IsSpotOf flip_flop 0 x.spot))

  pub reports : IsReportExample ps m
  reports =
      record {
        none = λ e. reported [] Missed e tt;
        doubt = λ e. reported (doubt_note ∷ []) (Undetermined (record { thing = 1; time = 5 })) e
            ((λ h. elim h [ inl a ↦ absurd (let q : Some _ ≡ None = a.1 in cc) | inr a ↦ absurd a ]), ([], record { key = _; doubt = _ }, [], refl, tt, (refl, refl), refl));
        hit = λ e. reported (doubt_note ∷ hit_note ∷ []) Hit e (inr (inl ((refl, refl), refl)));
        other = λ e. reported (other_note ∷ []) Missed e ((λ key. absurd (let q : Some _ ≡ Some _ = key.0 in cc)), tt);
        not_hit = λ e h. elim (verdict_of (markings_by 0 (other_note ∷ [])) Hit e (h.verdicts right (of_lines other_note tt))) [ inl a ↦ (let q : Some _ ≡ Some _ = a.0.0 in cc) | inr a ↦ a ];
        not_missed = λ e h. (verdict_of (markings_by 0 (hit_note ∷ [])) Missed e (h.verdicts right (of_lines hit_note tt))).0 (refl, refl);
      }
