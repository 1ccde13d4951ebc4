-- Where both files are known and no call of the host failed, the texts decide how a command ends.
use Rattle.std.proofs.Common.{◌≡◌, inl, inr, ℕ, List, Option, None, Some, refl, sym, ap, subst, ◌∙◌}
use Rattle.std.specs.Prelude.{IfSome, IsSome, IsSomeAnd, MatchOption}
use Rattle.command_line.proofs.OneCommand.{one_command, one_of_all}
use Rattle.command_line.specs.Command.{AreWordsOf, CommandValues, score as of_score, merge as of_merge, report as of_report, lcov as of_lcov, rank as of_rank, exclude as of_exclude, restore as of_restore, selfrun as of_selfrun}
use Rattle.command_line.specs.CommandWords.{IsScore, ScoreValues}
use Rattle.cov_host.specs.Outside.{Files, Outside, IsCounted}
use Rattle.design_model.specs.Run.{Run}
use Rattle.design_model.specs.View.{design_view}
use Rattle.design_model.specs.declared.design.Design.{Design}
use Rattle.design_points.proofs.Faults.{no_points_fault}
use Rattle.design_points.specs.Counted.{HasFewPoints}
use Rattle.design_points.specs.cover_points.Faults.{IsPointFault}
use Rattle.design_points.specs.cover_points.declared.fault.PointFault.{PointFault}
use Rattle.design_points.specs.cover_points.declared.fault.PointFault.TheVariants as point_fault
use Rattle.shown_dumps.specs.Bound.{IsBound}
use Rattle.shown_dumps.specs.Shown.{bound_dump}
use Rattle.signal_binding.specs.Binding.{HasInstance}
use Rattle.vcd_reader.proofs.OneHeader.{one_header}
use Rattle.vcd_reader.specs.Dump.{Dump, IsDump, SaysBody}
use Rattle.vcd_reader.specs.Reading.{Body}
use Rattle.dump_score.specs.verdict_laws.Sound.{IsShownBy}
use Rattle.verilog_lexer.specs.Sources.{SourceText}
use Rattle.whole_files.specs.Effects.{CountsUp, IsMissing, WarnsLine}
use Rattle.whole_files.proofs.EffectLemmas.{IsCounted-later}
use Rattle.whole_files.specs.declared.call.Call.{Call}
use Rattle.whole_files.specs.declared.call.Call.TheVariants.{OpenRead, Read, OpenWrite, Write, CloseWrite}
use Rattle.source_design.proofs.Told.{IsOfSources, design_or_fault, files_read, one_design, one_sources}
use Rattle.source_design.specs.Accepted.{StandFor}
use Rattle.source_design.specs.Reading.{HasSources, IsSourceFault}
use Rattle.source_design.specs.declared.fault.SourceFault.{SourceFault}
use Rattle.source_design.specs.declared.fault.SourceFault.TheVariants as source_fault
use Rattle.covered_cli.proofs.Causes.{command_or_fault, score_or_databases, score_or_selfrun}
use Rattle.covered_cli.proofs.GoodDumps.{not_contradicted, not_refused, same_bound, same_shown}
use Rattle.covered_cli.specs.Complete.{EndsWith, HasBadDump, HasBadSource, HasText, HasUnboundDump, HaveTexts, IsCommandWith, IsGoodScore, IsOfBinding, LacksPoints, NoFaults, RefusesBinding, RefusesDump, RefusesPoints}
use Rattle.covered_cli.specs.Drawing.{IsNoMachineOf}
use Rattle.covered_cli.specs.FaultStatus.{points_status, source_status}
use Rattle.covered_cli.specs.Fault.{NamesFile, Stands, line_of, status_of}
use Rattle.whole_files.specs.Refusals.{IsRefused}
use Rattle.covered_cli.proofs.Designs.{lawful_design}
use Rattle.covered_cli.specs.PointsMessage.{points_line}
use Rattle.covered_cli.specs.ScoreMachines.{AreMachinesOf, habit_in}
use Rattle.covered_cli.proofs.Machines.{alike_machines, none_refused}
use Rattle.covered_cli.specs.ScoreSources.{sources_in}
use Rattle.covered_cli.specs.Scoring.{HasDesign, HasNoMachine, HasNoScore, HasPointsFault, HasSomeDesign, IsContradictedDump, IsContradictedText, IsDone, IsDoneBy, IsDoneIn, IsDumpRefusal, IsRefusedDump}
use Rattle.covered_cli.specs.declared.contradiction.Contradiction.{Contradiction}
use Rattle.covered_cli.specs.declared.dump_refusal.DumpRefusal.{DumpRefusal}
use Rattle.covered_cli.specs.declared.dump_refusal.DumpRefusal.TheVariants as refusal
use Rattle.covered_cli.specs.declared.fault.Fault.{Fault}
use Rattle.covered_cli.specs.declared.fault.Fault.TheVariants as fault
use Rattle.covered_cli.specs.declared.status.Status.{Status}
use Rattle.covered_cli.specs.declared.status.Status.TheVariants.{Done, Contradiction as contradiction_status, Dump as dump_status, Memory as memory_status, Source as source_status_of}

-- a known file has one text
one_text_at : (files : Option Files) (name a b : List ℕ) → IsSomeAnd files (λ files. files name ≡ Some a) → IfSome files (λ files. files name ≡ Some b) → a ≡ b
one_text_at None name a b told is = absurd told
one_text_at (Some files) name a b told is = let e : Some a ≡ Some b = sym told ∙ is in cc

not_missing_at : (files : Option Files) (name text : List ℕ) (P : Type 0) → IsSomeAnd files (λ files. files name ≡ Some text) → MatchOption files P (λ files. files name ≡ None) → ⊥
not_missing_at None name text P told missing = told
not_missing_at (Some files) name text P told missing = let e : Some text ≡ None = sym told ∙ missing in cc

is_told : (files : Option Files) (name text : List ℕ) → IsSomeAnd files (λ files. files name ≡ Some text) → IsSome files
is_told None name text told = absurd told
is_told (Some files) name text told = refl

-- a call that gave nothing was counted as a fault, since the dump is there
refused_call : (score : ScoreValues) (before after : Outside) (text : List ℕ) → HasText before score.dump text → (call : Call) (file : List ℕ) → NamesFile score call file → IsRefused call file before after → IsCounted before.faults after.faults
refused_call score before after text is OpenRead file named refused = elim refused.cause [ inl counted ↦ counted | inr missing ↦ absurd (not_missing_at before.files score.dump text _ is (subst (λ name. IsMissing name before after) named missing)) ]
refused_call score before after text is Read file named refused = refused.cause
refused_call score before after text is OpenWrite file named refused = refused.cause
refused_call score before after text is Write file named refused = refused.cause
refused_call score before after text is CloseWrite file named refused = refused.cause

-- the sources of a command that are known
module _ (score : ScoreValues) (before : Outside) (sources : List SourceText) (told : IsSome before.files) (gathered : HasSources (sources_in score) before sources) where
  -- the design that other words find is that of the sources, as it is seen
  one_found : (design : Design) → StandFor sources (sources_in score).defines score.top design → (others : List SourceText) (other : Design) → HasSources (sources_in score) before others → StandFor others (sources_in score).defines score.top other → design_view design ≡ design_view other
  one_found design stands others other found stand =
      one_design sources (sources_in score).defines score.top design other stands
      (subst (λ ss. StandFor ss (sources_in score).defines score.top other) (sym (one_sources (sources_in score) before sources told gathered others found)) stand)

  -- the design that a relation finds is that of the sources
  same_design : (design : Design) → StandFor sources (sources_in score).defines score.top design → (others : List SourceText) (other : Design) → HasDesign score before others other → design_view design ≡ design_view other
  same_design design stands others other has = one_found design stands others other has.gathered has.stands

  -- where the sources represent no design, there is no design
  no_some_design : ((design : Design) → StandFor sources (sources_in score).defines score.top design → ⊥) → HasSomeDesign score before → ⊥
  no_some_design none (others, other, has) =
      none other (subst (λ ss. StandFor ss (sources_in score).defines score.top other) (sym (one_sources (sources_in score) before sources told gathered others has.gathered)) has.stands)

  -- what is done has a design
  source_done : (after : Outside) → ((design : Design) → StandFor sources (sources_in score).defines score.top design → ⊥) → IsDoneIn score before after → ⊥
  source_done after none done = no_some_design none (done.scored.sources, done.scored.design, done.scored.has_design)

  no_design : ((design : Design) → StandFor sources (sources_in score).defines score.top design → ⊥) → (r : DumpRefusal) → IsRefusedDump score before r → ⊥
  no_design none r refused = no_some_design none (refused.sources, refused.design, refused.has_design)

  no_shown_design : ((design : Design) → StandFor sources (sources_in score).defines score.top design → ⊥) → (x : Contradiction) → IsContradictedDump score before x → ⊥
  no_shown_design none x refuted = no_some_design none (refuted.sources, refuted.design, refuted.has_design)

module _ (score : ScoreValues) (before : Outside) (design : Design) (text : List ℕ) (texts : HaveTexts score before design text) where
  told : IsSome before.files
  told = is_told before.files score.dump text texts.dump_is

  -- its points are listed, so their fault is want of memory
  points_listed : (p : PointFault) → HasPointsFault score before p → p ≡ point_fault.NoMemory
  points_listed p has =
      let same = one_found score before texts.sources told texts.has_design.gathered design texts.has_design.stands has.sources has.design has.gathered has.stands in
      let own = texts.has_design in
      let there : AreMachinesOf score (design_view design) has.machines = subst (λ d. AreMachinesOf score d has.machines) (sym same) has.are_machines in
      no_points_fault (design_view design) own.machines has.machines p (lawful_design texts.sources (sources_in score).defines score.top design own.stands) (alike_machines score (design_view design) own.machines has.machines own.are_machines there) own.few (subst (λ d. IsPointFault d has.machines p) (sym same) has.is)

  -- its machines can be drawn
  machines_drawn : (name : List ℕ) → HasNoMachine score before name → ⊥
  machines_drawn name has =
      let same = one_found score before texts.sources told texts.has_design.gathered design texts.has_design.stands has.sources has.design has.gathered has.stands in
      none_refused score (design_view design) (lawful_design texts.sources (sources_in score).defines score.top design texts.has_design.stands) texts.has_design.machines texts.has_design.are_machines name (subst (λ d. IsNoMachineOf d score.drawings name) (sym same) has.is)

  -- the dump that a relation finds is the one that is known
  same_text : (other : List ℕ) → IfSome before.files (λ files. files score.dump ≡ Some other) → text ≡ other
  same_text other is = one_text_at before.files score.dump text other texts.dump_is is

  design_found : (others : List SourceText) (other : Design) → HasDesign score before others other → design_view design ≡ design_view other
  design_found others other has = same_design score before texts.sources told texts.has_design.gathered design texts.has_design.stands others other has

  -- what has a score is not refused
  dump_stands : (dump : Dump) → IsDump text dump → IsBound design dump score.instance → (r : DumpRefusal) → IsRefusedDump score before r → ⊥
  dump_stands dump is_dump bound r refused =
      not_refused refused.design dump score.instance refused.text (subst (λ text. IsDump text dump) (same_text refused.text refused.is) is_dump)
      (same_bound design refused.design dump score.instance (design_found refused.sources refused.design refused.has_design) bound)
      r refused.holds

  -- where a run shows the dump it is not contradicted
  dump_shown : (dump : Dump) → IsDump text dump → (run : Run) → IsShownBy (design_view design) (habit_in score) (bound_dump design dump score.instance) run → (x : Contradiction) → IsContradictedDump score before x → ⊥
  dump_shown dump is_dump run shown x refuted =
      not_contradicted refuted.design dump score.instance refuted.text (subst (λ text. IsDump text dump) (same_text refuted.text refuted.is) is_dump) (habit_in score) run
      (same_shown (habit_in score) design refuted.design dump score.instance (design_found refuted.sources refuted.design refuted.has_design) run shown) x refuted.holds

  -- where the header is read and binds nothing, the refusal is one of the binding
  module _ (b : Body) (says : SaysBody text b) (unbound : HasInstance b.vars score.instance → ⊥) where
    not_bound : (body : Body) → SaysBody text body → HasInstance body.vars score.instance → ⊥
    not_bound body said bound = unbound (subst (λ vars. HasInstance vars score.instance) (sym (one_header text body b said says)) bound)

    of_binding : (r : DumpRefusal) → IsRefusedDump score before r → IsOfBinding r
    of_binding r refused = go r (subst (λ t. IsDumpRefusal refused.design score.instance t r) (sym (same_text refused.text refused.is)) refused.holds)
      where
        go : (r : DumpRefusal) → IsDumpRefusal refused.design score.instance text r → IsOfBinding r
        go (refusal.At kind byte) (first, inl none) = none b says
        go (refusal.At kind byte) (first, inr (binds, none)) = not_bound binds.0 binds.1 binds.2
        go (refusal.NoInstance path) is = tt
        go (refusal.NoBaseline path) is = let some = is.2 in not_bound some.0 some.1 some.2.there

    -- and it is not contradicted
    none_contradicted : (x : Contradiction) → IsContradictedDump score before x → ⊥
    none_contradicted x refuted =
        let some = (subst (λ t. IsContradictedText (habit_in score) refuted.design score.instance t x) (sym (same_text refuted.text refuted.is)) refuted.holds).2 in
        not_bound some.0 some.1 some.2.there

  -- a design that has no score is not done
  dump_done : (after : Outside) → HasNoScore design score.instance text → IsDoneIn score before after → ⊥
  dump_done after none done =
      let s = done.scored in
      none s.scores.dump (subst (λ text. IsDump text s.scores.dump) (sym (same_text s.dump s.dump_is)) s.scores.is_dump)
      (same_bound s.design design s.scores.dump score.instance (sym (design_found s.sources s.design s.has_design)) s.scores.scores.accepted.bound)

-- a design whose points are not listed has no score
module _ (score : ScoreValues) (before : Outside) (lacks : LacksPoints score before) where
  not_listed : (others : List SourceText) (other : Design) → HasDesign score before others other → ⊥
  not_listed others other has =
      let same = same_design score before lacks.sources lacks.told lacks.gathered lacks.design lacks.stands others other has in
      lacks.refused has.machines (subst (λ d. AreMachinesOf score d has.machines) (sym same) has.are_machines) (subst (λ d. HasFewPoints d has.machines) (sym same) has.few)

-- how the faults of a score end
record End (score : ScoreValues) (before middle : Outside) (Ends : Status → Type 0) : Type 0 where
  of_source : (f : SourceFault) → IsSourceFault (sources_in score) before middle f → Ends (source_status f)
  of_machine : (name : List ℕ) → HasNoMachine score before name → Ends source_status_of
  of_points : (p : PointFault) → HasPointsFault score before p → Ends (points_status p)
  of_dump : (r : DumpRefusal) → IsRefusedDump score before r → Ends dump_status
  of_contradiction : (x : Contradiction) → IsContradictedDump score before x → Ends contradiction_status
  of_file : (call : Call) (file : List ℕ) → NamesFile score call file → IsRefused call file before middle → HasSomeDesign score before → ⊥
  of_memory : Ends memory_status

-- so ends each fault of a command that is a score
module _ (words : List (List ℕ)) (score : ScoreValues) (is_score : IsScore words score) (before middle : Outside) (Ends : Status → Type 0) (end : End score before middle Ends) where
  ends_with : (f : Fault) → Stands words before middle f → Ends (status_of f)
  ends_with (fault.Usage usage) stands = absurd (command_or_fault words (of_score score, is_score) (usage, stands))
  ends_with (fault.Source f) stands = end.of_source f (subst (λ score. IsSourceFault (sources_in score) before middle f) (one_command words stands.0 score stands.1 is_score) stands.2)
  ends_with (fault.NoMachine name) stands = end.of_machine name.now (subst (λ score. HasNoMachine score before name.now) (one_command words stands.0 score stands.1 is_score) stands.2)
  ends_with (fault.Points p) stands = end.of_points p (subst (λ score. HasPointsFault score before p) (one_command words stands.0 score stands.1 is_score) stands.2)
  ends_with (fault.Dump r) stands = end.of_dump r (subst (λ score. IsRefusedDump score before r) (one_command words stands.0 score stands.1 is_score) stands.2)
  ends_with (fault.Contradiction x) stands = end.of_contradiction x (subst (λ score. IsContradictedDump score before x) (one_command words stands.0 score stands.1 is_score) stands.2)
  ends_with (fault.Files call file) stands =
      let same = one_command words stands.0 score stands.1 is_score in
      absurd (end.of_file call file.now (subst (λ score. NamesFile score call file.now) same stands.2.0) stands.2.1 (subst (λ score. HasSomeDesign score before) same stands.2.2))
  ends_with fault.Memory stands = end.of_memory
  ends_with (fault.Databases f) stands = absurd (score_or_databases words score before middle f is_score stands)
  ends_with (fault.Selfrun f) stands = absurd (score_or_selfrun words score stands.0 is_score stands.1)

-- a dump that does not bind the design is a bad one
unbound_is_bad : (score : ScoreValues) (before : Outside) → HasUnboundDump score before → HasBadDump score before
unbound_is_bad score before u = record {
  text = u.text;
  design = u.design;
  texts = u.texts;
  refused = λ dump is bound.
      let same : dump.vars ≡ u.b.vars = is.vars ∙ one_header u.text u.b is.b u.says (inr is.ends) in
      u.refused (subst (λ vars. HasInstance vars score.instance) same bound.there);
}

bad_command : (words : List (List ℕ)) (before : Outside) → IsCommandWith HasUnboundDump words before → IsCommandWith HasBadDump words before
bad_command words before u = (u.0, u.1, unbound_is_bad u.0 before u.2)

module _ (words : List (List ℕ)) (before middle after : Outside) (first : CountsUp before middle) (second : CountsUp middle after) (none : NoFaults before after) (f : Fault) (stands : Stands words before middle f) where
  none_yet : IsCounted before.faults middle.faults → ⊥
  none_yet counted = none (IsCounted-later before.faults middle.faults after.faults first.faults second.faults counted)

  -- where the sources have a design, their fault is want of memory
  design_ends : (score : ScoreValues) (design : Design) (text : List ℕ) → HaveTexts score before design text → (Ends : Status → Type 0) → Ends memory_status → (g : SourceFault) → IsSourceFault (sources_in score) before middle g → Ends (source_status g)
  design_ends score design text texts Ends of_memory g is =
      subst Ends (sym (ap source_status (design_or_fault (sources_in score) before texts.sources (told score before design text texts) texts.has_design.gathered design texts.has_design.stands middle none_yet g is))) of_memory

  file_counted : (score : ScoreValues) (text : List ℕ) → HasText before score.dump text → (call : Call) (file : List ℕ) → NamesFile score call file → IsRefused call file before middle → HasSomeDesign score before → ⊥
  file_counted score text is call file named refused has = none_yet (refused_call score before middle text is call file named refused)

  pub good_ends : IsCommandWith IsGoodScore words before → EndsWith Done (status_of f)
  good_ends (score, is, good) =
      ends_with words score is before middle (EndsWith Done)
      (record {
        of_source = design_ends score good.design good.text good.texts (EndsWith Done) (inr refl);
        of_machine = λ name has. absurd (machines_drawn score before good.design good.text good.texts name has);
        of_points = λ p has. subst (λ q. EndsWith Done (points_status q)) (sym (points_listed score before good.design good.text good.texts p has)) (inr refl);
        of_dump = λ r refused. absurd (dump_stands score before good.design good.text good.texts good.dump good.is_dump good.bound r refused);
        of_contradiction = λ x refuted. absurd (dump_shown score before good.design good.text good.texts good.dump good.is_dump good.run good.shown x refuted);
        of_file = file_counted score good.text good.texts.dump_is;
        of_memory = inr refl;
      }) f stands

  pub bad_dump_ends : IsCommandWith HasBadDump words before → RefusesDump (status_of f)
  bad_dump_ends (score, is, bad) =
      ends_with words score is before middle RefusesDump
      (record {
        of_source = design_ends score bad.design bad.text bad.texts RefusesDump (inr (inr refl));
        of_machine = λ name has. absurd (machines_drawn score before bad.design bad.text bad.texts name has);
        of_points = λ p has. subst (λ q. RefusesDump (points_status q)) (sym (points_listed score before bad.design bad.text bad.texts p has)) (inr (inr refl));
        of_dump = λ r refused. inl refl;
        of_contradiction = λ x refuted. inr (inl refl);
        of_file = file_counted score bad.text bad.texts.dump_is;
        of_memory = inr (inr refl);
      }) f stands

  bad_ends : (g : SourceFault) → IsOfSources g → EndsWith source_status_of (source_status g)
  bad_ends source_fault.NoMemory is = inr refl
  bad_ends (source_fault.File call file) is = absurd is
  bad_ends (source_fault.Included call path) is = absurd is
  bad_ends (source_fault.Refused refusal) is = inl refl

  points_end_so : (p : PointFault) → EndsWith source_status_of (points_status p)
  points_end_so point_fault.NoMemory = inr refl
  points_end_so (point_fault.NoState name) = inl refl
  points_end_so (point_fault.SameState name) = inl refl
  points_end_so point_fault.TooManyPoints = inl refl
  points_end_so (point_fault.TooManyStates name) = inl refl

  pub bad_source_ends : IsCommandWith HasBadSource words before → EndsWith source_status_of (status_of f)
  bad_source_ends (score, is, bad) =
      ends_with words score is before middle (EndsWith source_status_of)
      (record {
        of_source = λ g stands. bad_ends g (files_read (sources_in score) before bad.sources bad.told bad.gathered middle none_yet g stands);
        of_machine = λ name has. inl refl;
        of_points = λ p has. points_end_so p;
        of_dump = λ r refused. absurd (no_design score before bad.sources bad.told bad.gathered bad.refused r refused);
        of_contradiction = λ x refuted. absurd (no_shown_design score before bad.sources bad.told bad.gathered bad.refused x refuted);
        of_file = λ call file named refused has. no_some_design score before bad.sources bad.told bad.gathered bad.refused has;
        of_memory = inr refl;
      }) f stands

  pub unbound_ends : IsCommandWith HasUnboundDump words before → WarnsLine (line_of f) before after → RefusesBinding words (status_of f) before after
  unbound_ends (score, is, u) warned = go f stands warned
    where
      memory_alone : (g : SourceFault) → IsSourceFault (sources_in score) before middle g → status_of (fault.Source g) ≡ memory_status
      memory_alone g is = ap source_status (design_or_fault (sources_in score) before u.texts.sources (told score before u.design u.text u.texts) u.texts.has_design.gathered u.design u.texts.has_design.stands middle none_yet g is)

      go : (f : Fault) → Stands words before middle f → WarnsLine (line_of f) before after → RefusesBinding words (status_of f) before after
      go (fault.Usage usage) stands warned = absurd (command_or_fault words (of_score score, is) (usage, stands))
      go (fault.Source g) stands warned = inr (memory_alone g (subst (λ score. IsSourceFault (sources_in score) before middle g) (one_command words stands.0 score stands.1 is) stands.2))
      go (fault.NoMachine name) stands warned = absurd (machines_drawn score before u.design u.text u.texts name.now (subst (λ score. HasNoMachine score before name.now) (one_command words stands.0 score stands.1 is) stands.2))
      go (fault.Points p) stands warned =
          let none = points_listed score before u.design u.text u.texts p (subst (λ score. HasPointsFault score before p) (one_command words stands.0 score stands.1 is) stands.2) in
          inr (ap points_status none)
      go (fault.Dump r) stands warned =
          let refused = subst (λ score. IsRefusedDump score before r) (one_command words stands.0 score stands.1 is) stands.2 in
          inl (refl, record { score = score; refusal = r; is_score = is; refused = refused; of_binding = of_binding score before u.design u.text u.texts u.b u.says u.refused r refused; warned = warned })
      go (fault.Contradiction x) stands warned =
          let refuted = subst (λ score. IsContradictedDump score before x) (one_command words stands.0 score stands.1 is) stands.2 in
          absurd (none_contradicted score before u.design u.text u.texts u.b u.says u.refused x refuted)
      go (fault.Files call file) stands warned =
          let same = one_command words stands.0 score stands.1 is in
          absurd (file_counted score u.text u.texts.dump_is call file.now (subst (λ score. NamesFile score call file.now) same stands.2.0) stands.2.1 (subst (λ score. HasSomeDesign score before) same stands.2.2))
      go fault.Memory stands warned = inr refl
      go (fault.Databases f) stands warned = absurd (score_or_databases words score before middle f is stands)
      go (fault.Selfrun f) stands warned = absurd (score_or_selfrun words score stands.0 is stands.1)

  -- of a design whose points are not listed there is no other fault
  pub points_end : IsCommandWith LacksPoints words before → WarnsLine (line_of f) before after → RefusesPoints words (status_of f) before after
  points_end (score, is, lacks) warned = go f stands warned
    where
      so : (p : PointFault) → HasPointsFault score before p → WarnsLine (points_line p) before after → RefusesPoints words (points_status p) before after
      so point_fault.NoMemory has warned = inr refl
      so (point_fault.NoState name) has warned = inl (refl, inr (record { score = score; fault = point_fault.NoState name; is_score = is; stands = has; warned = warned }))
      so (point_fault.SameState name) has warned = inl (refl, inr (record { score = score; fault = point_fault.SameState name; is_score = is; stands = has; warned = warned }))
      so point_fault.TooManyPoints has warned = inl (refl, inr (record { score = score; fault = point_fault.TooManyPoints; is_score = is; stands = has; warned = warned }))
      so (point_fault.TooManyStates name) has warned = inl (refl, inr (record { score = score; fault = point_fault.TooManyStates name; is_score = is; stands = has; warned = warned }))

      go : (f : Fault) → Stands words before middle f → WarnsLine (line_of f) before after → RefusesPoints words (status_of f) before after
      go (fault.Usage usage) stands warned = absurd (command_or_fault words (of_score score, is) (usage, stands))
      go (fault.Source g) stands warned =
          inr (ap source_status (design_or_fault (sources_in score) before lacks.sources lacks.told lacks.gathered lacks.design lacks.stands middle none_yet g (subst (λ score. IsSourceFault (sources_in score) before middle g) (one_command words stands.0 score stands.1 is) stands.2)))
      go (fault.NoMachine name) stands warned =
          let has = subst (λ score. HasNoMachine score before name.now) (one_command words stands.0 score stands.1 is) stands.2 in
          inl (refl, inl (record { score = score; name = name.now; is_score = is; stands = has; warned = warned }))
      go (fault.Points p) stands warned = so p (subst (λ score. HasPointsFault score before p) (one_command words stands.0 score stands.1 is) stands.2) warned
      go (fault.Dump r) stands warned =
          let refused = subst (λ score. IsRefusedDump score before r) (one_command words stands.0 score stands.1 is) stands.2 in
          absurd (not_listed score before lacks refused.sources refused.design refused.has_design)
      go (fault.Contradiction x) stands warned =
          let refuted = subst (λ score. IsContradictedDump score before x) (one_command words stands.0 score stands.1 is) stands.2 in
          absurd (not_listed score before lacks refuted.sources refuted.design refuted.has_design)
      go (fault.Files call file) stands warned =
          let has = subst (λ score. HasSomeDesign score before) (one_command words stands.0 score stands.1 is) stands.2.2 in
          absurd (not_listed score before lacks has.0 has.1 has.2)
      go fault.Memory stands warned = inr refl
      go (fault.Databases f) stands warned = absurd (score_or_databases words score before middle f is stands)
      go (fault.Selfrun f) stands warned = absurd (score_or_selfrun words score stands.0 is stands.1)

module _ (words : List (List ℕ)) (before after : Outside) (done : IsDone words before after) where
  -- what was done is done by the one command that the words are
  pub done_by : (score : ScoreValues) → IsScore words score → IsDoneIn score before after
  done_by score is = by_values done.0 done.1 done.2
    where
      by_values : (values : CommandValues) → AreWordsOf values words → IsDoneBy values before after → IsDoneIn score before after
      by_values (of_score other) is_other by = subst (λ score. IsDoneIn score before after) (one_command words other score is_other is) by
      by_values (of_merge other) is_other by = let e = one_of_all words (of_merge other) (of_score score) is_other is in absurd (cc)
      by_values (of_report other) is_other by = let e = one_of_all words (of_report other) (of_score score) is_other is in absurd (cc)
      by_values (of_lcov other) is_other by = let e = one_of_all words (of_lcov other) (of_score score) is_other is in absurd (cc)
      by_values (of_rank other) is_other by = let e = one_of_all words (of_rank other) (of_score score) is_other is in absurd (cc)
      by_values (of_exclude other) is_other by = let e = one_of_all words (of_exclude other) (of_score score) is_other is in absurd (cc)
      by_values (of_restore other) is_other by = let e = one_of_all words (of_restore other) (of_score score) is_other is in absurd (cc)
      by_values (of_selfrun other) is_other by = absurd (score_or_selfrun words score other is is_other)

  pub bad_source_not_done : IsCommandWith HasBadSource words before → ⊥
  bad_source_not_done (score, is, bad) = source_done score before bad.sources bad.told bad.gathered after bad.refused (done_by score is)

  pub bad_dump_not_done : IsCommandWith HasBadDump words before → ⊥
  bad_dump_not_done (score, is, bad) = dump_done score before bad.design bad.text bad.texts after bad.refused (done_by score is)

  pub unbound_not_done : IsCommandWith HasUnboundDump words before → ⊥
  unbound_not_done unbound = bad_dump_not_done (bad_command words before unbound)

  pub points_not_done : IsCommandWith LacksPoints words before → ⊥
  points_not_done (score, is, lacks) = let by = (done_by score is).scored in not_listed score before lacks by.sources by.design by.has_design
