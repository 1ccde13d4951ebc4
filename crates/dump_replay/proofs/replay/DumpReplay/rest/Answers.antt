use Rattle.dump_replay.proofs.Closing.{begun_not_new, rest_follows, rest_refutes, rest_starts}
use Rattle.dump_replay.proofs.replay.DumpReplay.rest.Goals as goal

pub rest-requires-clause-started : goal.rest-requires-clause-started
rest-requires-clause-started g c = begun_not_new c.args.self.now.replay c.requires.started

pub returns-clause-started : goal.returns-clause-started
returns-clause-started g c = rest_starts c.rest.result c.args.self.now.replay c.rest.new.self c.requires.started c.rest.ensures.started

pub returns-clause-followed : goal.returns-clause-followed
returns-clause-followed g c = rest_follows c.args.self.now.replay c.rest.new.self c.args.last c.args.time c.rest.ensures.made c.rest.result c.rest.ensures.followed

pub returns-clause-fault : goal.returns-clause-fault
returns-clause-fault g c = rest_refutes c.args.self.now.replay c.rest.new.self c.args.last c.args.time c.rest.ensures.made c.rest.result c.rest.ensures.contradiction
