use Rattle.text_streams.proofs.Prefixes.{passes}
use Rattle.text_streams.proofs.ahead.ReadAhead.pass.Goals as goal

pub returns-clause-taken : goal.returns-clause-taken
returns-clause-taken g c = let s = c.args.self.now in (passes s.at s.end c.args.count s.buffer.items (g.S.Source.left s.inner) c.requires.inside).0

pub returns-clause-rest : goal.returns-clause-rest
returns-clause-rest g c = let s = c.args.self.now in (passes s.at s.end c.args.count s.buffer.items (g.S.Source.left s.inner) c.requires.inside).1
