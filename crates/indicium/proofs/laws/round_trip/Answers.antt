use Rattle.indicium.proofs.Readings as laws
use Rattle.indicium.proofs.laws.round_trip.Goals as goal

pub returns-clause-reads_back : goal.returns-clause-reads_back
returns-clause-reads_back c = laws.read_spell

pub returns-clause-spells_back : goal.returns-clause-spells_back
returns-clause-spells_back c bytes key mark code h e k = let back = laws.spell_back bytes key (mark, code) h e k in back.1
