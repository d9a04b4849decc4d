-- The examples, computed.
use mathlib.Core.Path.{refl}
use Rattle.format.specs.Refusals.{guarded}
use Rattle.format.specs.Tests.{all_after, all_true}
use Rattle.master.specs.Masters.{chosen_bus, switched, buses_in_range, chosen_sound, exchange_sound, sound}
use Rattle.master.specs.Exchanges.{starting, counts, replying, chosen_after, expired, timing_out}
use Rattle.master.specs.Examples.{Examples}

pub examples : Examples
unfolding all_after all_true guarded chosen_bus switched buses_in_range chosen_sound exchange_sound sound starting counts replying chosen_after expired timing_out
examples =
    record {
      chosen_buses = (refl, refl, refl, refl, refl, refl);
      nodes = (refl, refl, refl);
      send_counts = (refl, refl, refl, refl, refl, refl, refl, refl, refl, refl, refl);
      fields = (refl, refl, refl, refl, refl, refl);
      starts_in_order = (refl, refl, refl);
      replies_in_order = (refl, refl, refl, refl);
      awaited = (refl, refl, refl, refl);
      switches = (refl, refl, refl, refl);
    }
