-- `station_bytes::SoundState::first_closed` meets its contract: no slot before the one that is found is closed (Places).
use Rattle.std.proofs.Common.{◌≡◌, ◌*◌, ◌+◌, rules, true, false, eqb}
use Rattle.std.proofs.lemmas.Iterator.{first_from_Range}
use Rattle.words.specs.Words.{word_at}
use Rattle.station_bytes.proofs.Places.{first_closed_is, found_within}
use Rattle.station_bytes.specs.States.{format_at}
use Rattle.station_bytes.proofs.SoundState.first_closed.Goals as goal

pub returns : goal.returns
returns c =
    let state = c.args.self.now.state.now in
    let first = first_from_Range _ _ _ _ (λ i. eqb (word_at state (8 * i + 4)) 0 ≡ true) (λ i. eqb (word_at state (8 * i + 4)) 0 ≡ false) c.find.ensures.ran
    (λ x q k. search rules) (λ x q k. (search rules, search rules)) in
    let found = first_closed_is (format_at state) state _ first in
    record { found = found; within = found_within (format_at state) state _ _ found }
