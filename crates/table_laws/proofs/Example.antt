-- A register with a test is a written design.
use Rattle.std.proofs.Common.{◌<◌, ◌^◌, ℕ, zero, suc, [], ◌∷◌, inl, inr, refl, subst, arith}
use Rattle.std.specs.Prelude.{IsTrue, codes}
use Rattle.std.proofs.lemmas.List.Elements.{All-cons, All-nil}
use Rattle.cov_host.specs.Identifier.{is_reserved}
use Rattle.coverage_db.specs.Table.{IsIdentifier, IsNumber, IsSourceLine, is_file_name, is_path}
use Rattle.design_model.specs.declared.design.Instance.{Instance}
use Rattle.design_model.specs.declared.design.Signal.{Signal}
use Rattle.design_model.specs.Design.{In, process_at}
use Rattle.design_model.specs.FlipFlop.{flip_flop}
use Rattle.design_model.specs.Numbered.{LineAt, NodeAt, lines_of, nodes_of}
use Rattle.point_table.specs.Addresses.{source_line}
use Rattle.table_laws.specs.Written.{IsWritten}

abbrev IsGoodLine : LineAt → Type 0
IsGoodLine x = IsNumber x.line × IsSourceLine 1 (source_line x.place)

abbrev IsGoodNode : NodeAt → Type 0
IsGoodNode x = IsNumber x.node × IsSourceLine 1 (source_line x.place)

lines_good : (p : ℕ) (x : LineAt) → In x (lines_of (process_at flip_flop p)) → IsGoodLine x
lines_good zero x (inl e) = subst IsGoodLine e ((omega arith, omega arith), record { source = (omega arith, omega arith); line = (omega arith, omega arith) })
lines_good zero x (inr (inl e)) = subst IsGoodLine e ((omega arith, omega arith), record { source = (omega arith, omega arith); line = (omega arith, omega arith) })
lines_good zero x (inr (inr (inl e))) = subst IsGoodLine e ((omega arith, omega arith), record { source = (omega arith, omega arith); line = (omega arith, omega arith) })
lines_good zero x (inr (inr (inr h))) = absurd h
lines_good (suc p) x h = absurd h

nodes_good : (p : ℕ) (x : NodeAt) → In x (nodes_of (process_at flip_flop p)) → IsGoodNode x
nodes_good zero x (inl e) = subst IsGoodNode e ((omega arith, omega arith), record { source = (omega arith, omega arith); line = (omega arith, omega arith) })
nodes_good zero x (inr h) = absurd h
nodes_good (suc p) x h = absurd h

abbrev IsGoodSignal : Signal → Type 0
IsGoodSignal s = IsIdentifier s.name × (s.high < 2 ^ 32) × (s.low < 2 ^ 32)

signals_good : (s : Signal) → In s flip_flop.signals → IsGoodSignal s
unfolding is_reserved
signals_good s (inl e) = subst IsGoodSignal e (refl, omega arith, omega arith)
signals_good s (inr (inl e)) = subst IsGoodSignal e (refl, omega arith, omega arith)
signals_good s (inr (inr (inl e))) = subst IsGoodSignal e (refl, omega arith, omega arith)
signals_good s (inr (inr (inr h))) = absurd h

abbrev IsGoodInstance : Instance → Type 0
IsGoodInstance i = IsTrue (is_path i.path) × IsIdentifier i.«module»

instances_good : (i : Instance) → In i flip_flop.instances → IsGoodInstance i
unfolding is_reserved
instances_good i (inl e) = subst IsGoodInstance e (refl, refl)
instances_good i (inr h) = absurd h

pub flip_flop_written : IsWritten (codes "ff.v" ∷ []) flip_flop
unfolding is_reserved
flip_flop_written =
    record {
      top = refl;
      files = All-cons (λ name. IsTrue (is_file_name name)) (codes "ff.v") [] refl (All-nil (λ name. IsTrue (is_file_name name)));
      some_file = omega arith;
      few_files = omega arith;
      some_instance = omega arith;
      instances = instances_good;
      signals = signals_good;
      memories = λ m h. absurd h;
      lines = lines_good;
      nodes = nodes_good;
    }
