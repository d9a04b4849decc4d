-- The examples, computed.
use mathlib.Core.Path.{refl}
use Rattle.format.specs.Refusals.{guarded}
use Rattle.format.specs.Tests.{all_after, all_true}
use Rattle.master.specs.Masters.{chosen_bus, switched, buses_in_range, chosen_sound, exchange_sound, sound}
use Rattle.master.specs.Exchanges as exchanges
use Rattle.master_bytes.specs.States.{state_bytes, master_in, activity_written, is_state}
use Rattle.master_bytes.specs.Calls.{renew, starting, replying, timing_out}
use Rattle.master_bytes.specs.Examples.{Examples}

pub examples : Examples
unfolding all_after all_true guarded chosen_bus switched buses_in_range chosen_sound exchange_sound sound exchanges.starting exchanges.counts exchanges.replying exchanges.chosen_after exchanges.expired exchanges.timing_out state_bytes master_in activity_written is_state renew starting replying timing_out
examples =
    record {
      lengths = (refl, refl, refl, refl, refl, refl);
      layouts = (refl, refl, refl);
      kinds = (refl, refl, refl, refl, refl);
      written = (refl, refl, refl, refl, refl, refl, refl);
      in_order = (refl, refl, refl, refl);
    }
