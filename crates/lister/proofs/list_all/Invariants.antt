-- What is still to be listed from where a round begins is what was to be listed at first (Rounds).
use Rattle.std.proofs.Common.{◌-◌, length}
use Rattle.lister.proofs.Rounds.{Midst}
use Rattle.lister.proofs.list_all.Given as goal

abbrev pub invariant-loop-bus : goal.invariant-loop-bus
invariant-loop-bus l =
    Midst l.fn.receiver.station.slots l.fn.count l.fn.store l.fn.input l.fn.output l.receiver.station.slots l.count l.store l.output l.used l.written

abbrev pub decreases-loop-bus : goal.decreases-loop-bus
decreases-loop-bus l = length l.input - l.used
