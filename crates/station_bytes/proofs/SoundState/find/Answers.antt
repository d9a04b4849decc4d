-- `station_bytes::SoundState::find` meets its contract: where a key is among the codes it is among the slots (Calling).
use Rattle.std.proofs.Common.{refl}
use Rattle.station_bytes.proofs.Calling.{sound_of, key_found}
use Rattle.station_bytes.specs.States.{format_at}
use Rattle.station_bytes.proofs.Places.{found_within}
use Rattle.station_bytes.proofs.SoundState.find.Goals as goal

pub returns : goal.returns
returns c =
    let s = c.args.self.now in
    let found = key_found s.state.now (sound_of s.is_station s.same refl) s.format s.its_format s.codes s.its_codes c.args.key _ c.find_key.ensures in
    record { found = found; within = found_within (format_at s.state.now) s.state.now _ _ found }
