-- `station_bytes::new` meets its contract: all bytes are written.
use Rattle.std.proofs.Common.{ℕ, List, ap, rules, eq-eqb, ne_eqb}
use Rattle.format.specs.Refusals.{value}
use Rattle.station_bytes.specs.Calls.{renewed}
use Rattle.station_bytes.proofs.Places.{new_bytes}
use Rattle.station_bytes.proofs.new.Goals as goal

pub returns-then-state-ne-SIZE : goal.returns-then-state-ne-SIZE
unfolding renewed
returns-then-state-ne-SIZE c = rw (ne_eqb _ _ c.if-state-ne-SIZE.true)

pub returns : goal.returns
unfolding renewed
returns c =
    rw (eq-eqb _ _ c.if-state-ne-SIZE.false, c.fill.ensures.after (λ y e. e), c.if-state-ne-SIZE.false)
    (ap (λ (l : List ℕ). record { answer = value 0; state = l }) (new_bytes c.args.format _ (search rules)))
