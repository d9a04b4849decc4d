-- `station_bytes::word_at` meets its contract: the four bytes are there.
use Rattle.words.specs.Words.{word_at}
use Rattle.station_bytes.proofs.word_at.Goals as goal

pub returns : goal.returns
unfolding word_at
returns c = c.word_of.ensures
