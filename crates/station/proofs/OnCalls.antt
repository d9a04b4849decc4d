-- Calls of the code one after the other end as the run does; so what is proved of runs holds of them.
use Prim.Native.Nat.{ℕ}
use mathlib.Core.Path.{◌≡◌, refl, sym, ap, ◌∙◌}
use mathlib.Core.List.{List, [], ◌∷◌}
use Rattle.station.specs.declared.Station.{Station}
use Rattle.station.specs.Receive.{After, after}
use Rattle.station.specs.Run.{Call, Ran, run_on, run}
use Rattle.station.specs.Demands.{Given, Chained, ended, AsRun, Demand3OnCalls, RoundTripOnCalls}
use Rattle.station.proofs.Isolation.{demand3_of}
use Rattle.station.proofs.RoundTrip.{round_trip_of}

chained : (calls : List Call) (station : Station) (store : List ℕ) (givens : List Given) → Chained station store calls givens
    → ended station store givens ≡ run station store calls
unfolding Chained ended run_on
chained [] station store [] c = refl
chained [] station store (given ∷ givens) c = absurd c
chained (call ∷ calls) station store [] c = absurd c
chained (call ∷ calls) station store (given ∷ givens) c =
    let rest = chained calls given.received.station given.store givens c.1 in
    let on : Ran → After → Ran = λ ran first. record { answers = first.answer ∷ ran.answers; station = ran.station; store = ran.store } in
    ap (λ (ran : Ran). on ran (after given.received given.store)) rest
    ∙ ap (λ (first : After). on (run first.station first.store calls) first) c.0

pub as_run : AsRun
unfolding AsRun
as_run station store calls ran e = sym (chained calls station store e.givens e.chained) ∙ e.ends

pub demand3_on_calls : Demand3OnCalls
unfolding Demand3OnCalls AsRun
demand3_on_calls station store s w = demand3_of station store s w _ (as_run station store)

pub round_trip_on_calls : RoundTripOnCalls
unfolding RoundTripOnCalls AsRun
round_trip_on_calls station store s w = round_trip_of station store s w _ (as_run station store)
