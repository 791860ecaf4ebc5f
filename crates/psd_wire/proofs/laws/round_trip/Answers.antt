use Rattle.std.proofs.Common.{refl}
use Rattle.psd_wire.specs.Grammar.{spell}
use Rattle.psd_wire.proofs.Readings as laws
use Rattle.psd_wire.proofs.laws.round_trip.Goals as goal

pub returns-clause-reads_back : goal.returns-clause-reads_back
returns-clause-reads_back c = laws.read_spell

pub returns-clause-writes_code : goal.returns-clause-writes_code
returns-clause-writes_code c x key coded = laws.matches_spell x key (spell x key) coded refl

pub returns-clause-spells_back : goal.returns-clause-spells_back
returns-clause-spells_back c x key bytes h coded read code = let back = laws.spell_back x key bytes coded h read code in back.1

pub returns-clause-uncoded : goal.returns-clause-uncoded
returns-clause-uncoded c x key bytes h coded read = laws.spell_uncoded x key bytes coded h read

pub returns-clause-reads_body : goal.returns-clause-reads_body
returns-clause-reads_body c = laws.reads_body
