use Rattle.std.proofs.Common.{◌≡◌, None, inl, inr, sym, arith}
use Rattle.std.proofs.lemmas.Result.{IfErr-weaker, IfOk-weaker}
use Rattle.db_tools.specs.Faults.{IsExcludedVersion}
use Rattle.db_tools.specs.Reading.{version_parts}
use Rattle.db_tools.proofs.HeadLaws.{no_version, plain_of, plain_text, version_shorter, version_takes}
use Rattle.db_tools.proofs.read.read_excluded.Goals as goal

pub read_version-requires : goal.read_version-requires
read_version-requires c =
    let version : IsExcludedVersion c.args.bytes.now c.in-Some.digits.now c.in-Some.rest.now = version_takes c.args.bytes.now c.in-Some.digits.now c.in-Some.rest.now (sym (rw c.in-Some.is at c.version_of.ensures)) in
    let shorter = version_shorter c.args.bytes.now c.in-Some.digits.now c.in-Some.rest.now version in
    omega (arith, shorter)

pub returns-in-Some-clause-spelled : goal.returns-in-Some-clause-spelled
returns-in-Some-clause-spelled c =
    let version : IsExcludedVersion c.args.bytes.now c.in-Some.digits.now c.in-Some.rest.now = version_takes c.args.bytes.now c.in-Some.digits.now c.in-Some.rest.now (sym (rw c.in-Some.is at c.version_of.ensures)) in
    IfOk-weaker c.read_version.result _ _ (λ e is. is c.args.bytes.now version) c.read_version.ensures.spelled

pub returns-in-Some-clause-only : goal.returns-in-Some-clause-only
returns-in-Some-clause-only c =
    let version : IsExcludedVersion c.args.bytes.now c.in-Some.digits.now c.in-Some.rest.now = version_takes c.args.bytes.now c.in-Some.digits.now c.in-Some.rest.now (sym (rw c.in-Some.is at c.version_of.ensures)) in
    λ e is text short. c.read_version.ensures.only e c.args.bytes.now version is text

pub returns-in-Some-clause-fault : goal.returns-in-Some-clause-fault
returns-in-Some-clause-fault c =
    let version : IsExcludedVersion c.args.bytes.now c.in-Some.digits.now c.in-Some.rest.now = version_takes c.args.bytes.now c.in-Some.digits.now c.in-Some.rest.now (sym (rw c.in-Some.is at c.version_of.ensures)) in
    IfErr-weaker c.read_version.result _ _ (λ fault is. inr (inl (c.in-Some.digits.now, c.in-Some.rest.now, version, is c.args.bytes.now version))) c.read_version.ensures.fault

pub returns-in-None-clause-spelled : goal.returns-in-None-clause-spelled
returns-in-None-clause-spelled c = IfOk-weaker c.read_plain.result _ _ (λ e is. plain_text e c.args.bytes.now is.0 is.1) c.read_plain.ensures.plain

pub returns-in-None-clause-only : goal.returns-in-None-clause-only
returns-in-None-clause-only c =
    let none : version_parts c.args.bytes.now ≡ None = sym (rw c.in-None.is at c.version_of.ensures) in
    λ e is text short.
    let plain = plain_of e c.args.bytes.now is text (λ digits rest version. no_version c.args.bytes.now digits rest none version) in
    c.read_plain.ensures.only e is plain.0 plain.1

pub returns-in-None-clause-fault : goal.returns-in-None-clause-fault
returns-in-None-clause-fault c =
    let none : version_parts c.args.bytes.now ≡ None = sym (rw c.in-None.is at c.version_of.ensures) in
    IfErr-weaker c.read_plain.result _ _ (λ fault is. inr (inr ((λ digits rest version. no_version c.args.bytes.now digits rest none version), is))) c.read_plain.ensures.fault
