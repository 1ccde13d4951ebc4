use Rattle.body_store.proofs.BlocksLaws.{held_law, kept_own_law, read_own_law, same_law, shown_own_law, veiled_own_law}
use Rattle.body_store.proofs.laws.own_law.Goals as goal

pub returns-clause-kept : goal.returns-clause-kept
returns-clause-kept c = kept_own_law

pub returns-clause-read : goal.returns-clause-read
returns-clause-read c = read_own_law

pub returns-clause-held : goal.returns-clause-held
returns-clause-held c = held_law

pub returns-clause-same : goal.returns-clause-same
returns-clause-same c = same_law

pub returns-clause-shown : goal.returns-clause-shown
returns-clause-shown c = shown_own_law

pub returns-clause-veiled : goal.returns-clause-veiled
returns-clause-veiled c = veiled_own_law
