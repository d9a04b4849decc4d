-- `siljuvatt::promised`: the proof of each claim.
use Rattle.siljuvatt.proofs.OneWord.{one_word}
use Rattle.siljuvatt.proofs.Small.{small}
use Rattle.siljuvatt.proofs.Bounds.{library_bounds}
use Rattle.siljuvatt.proofs.Reading.{reads_there}
use Rattle.siljuvatt.proofs.promised.Goals as goal

pub returns-clause-one_word : goal.returns-clause-one_word
returns-clause-one_word c = one_word

pub returns-clause-small : goal.returns-clause-small
returns-clause-small c = small

pub returns-clause-reads_there : goal.returns-clause-reads_there
returns-clause-reads_there c = reads_there

pub returns-clause-library_bounds : goal.returns-clause-library_bounds
returns-clause-library_bounds c = library_bounds
