use Rattle.indicium.proofs.Readings as laws
use Rattle.indicium.proofs.laws.one_spelling.Goals as goal

pub returns-clause-one_spelling : goal.returns-clause-one_spelling
returns-clause-one_spelling c = laws.one_spelling

pub returns-clause-one_reading : goal.returns-clause-one_reading
returns-clause-one_reading c = laws.one_reading
