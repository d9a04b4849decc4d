-- Calls on the bytes of a sound station are the station's own, and so are calls one after the other: `as_run` has the only induction over
-- calls.
use Prim.Native.Nat.{ℕ}
use mathlib.Core.Path.{◌≡◌, refl, sym, ap, ◌∙◌, subst}
use mathlib.Core.Bool.{Bool, true, false, cond, ◌||◌}
use native.Mathlib.Omega.{arith}
use lib.Dec.{eqb}
use mathlib.Core.List.{List, [], ◌∷◌}
use lib.ListN.{length}
use borrow.Author.Tests.{eq-eqb}
use Rattle.format.specs.declared.Format.{Format}
use Rattle.format.specs.declared.Refusal.TheVariants.{Step, Long, State}
use Rattle.format.specs.Refusals.{value, refused, number}
use Rattle.frame.specs.Claims.{Bytes}
use Rattle.slot.specs.declared.Key.{Key}
use Rattle.station.specs.declared.Station.{Station}
use Rattle.station.specs.Stations.{new_station, sound_station}
use Rattle.station.specs.Receive.{receive, concerned}
use Rattle.station.specs.Open.{StationAfter, opening, closing}
use Rattle.station.specs.Read.{reading}
use Rattle.station.specs.Run.{Call, Ran, run_on, run}
use Rattle.station.specs.Demands.{left_by}
use Rattle.station.proofs.Soundness.{stays, met}
use Rattle.station.proofs.Isolation.{demand3_of}
use Rattle.station.proofs.RoundTrip.{round_trip_of}
use Rattle.station.proofs.Refusals.{refused_keeps as refusals}
use Rattle.station_bytes.specs.States.{state_bytes, station_in, is_state}
use Rattle.station_bytes.specs.Calls.{BytesAfter, in_bytes, receive_in, StateAfter, as_state, not_state, renewed, open_in, close_in, read_in}
use Rattle.station_bytes.specs.Claims.{ReadBack, WrittenBack, AsFirst, AreSound, StaySound, left_in, RefusedKeeps, Chained, last_of, ended, AsRun, Demand3OnBytes, RoundTripOnBytes, ReadAtEnd}
use Rattle.station_bytes.proofs.ReadBack.{read_back, written_back}

-- ---- one call

module _ (station : Station) (s : sound_station station ≡ true) where
  is : is_state (state_bytes station) ≡ true
  unfolding ReadBack
  is = (read_back station s).0

  back : station_in (state_bytes station) ≡ station
  unfolding ReadBack
  back = (read_back station s).1

  are_sound : AreSound (state_bytes station)
  are_sound = (is, ap sound_station back ∙ s)

pub as_first : AsFirst
unfolding AsFirst receive_in open_in close_in read_in
as_first station s =
    let i = is station s in
    let b = back station s in
    record {
      receives = λ store bus image. rw i (ap (λ (x : Station). in_bytes (receive x store bus image)) b);
      opens = λ key. rw i (ap (λ (x : Station). as_state (opening x key)) b);
      closes = λ n. rw i (ap (λ (x : Station). as_state (closing x n)) b);
      reads = λ store n. rw i (ap (λ (x : Station). reading x store n) b);
    }

pub stay_sound : StaySound
unfolding AsFirst renewed
stay_sound =
    record {
      receives = λ station s store bus image.
          subst (λ (r : BytesAfter). AreSound r.state) (sym ((as_first station s).receives store bus image))
          (are_sound (receive station store bus image).station (stays.receives station s store bus image));
      opens = λ station s key.
          subst (λ (r : StateAfter). AreSound r.state) (sym ((as_first station s).opens key)) (are_sound (opening station key).station (stays.opens station s key));
      closes = λ station s i.
          subst (λ (r : StateAfter). AreSound r.state) (sym ((as_first station s).closes i)) (are_sound (closing station i).station (stays.closes station s i));
      new = λ state n format. rw (eq-eqb (length state) 130 n) (are_sound (new_station format) (met.new format));
    }

-- ---- calls one after the other

record IsRun (station : Station) (store : List ℕ) (calls : List Call) (givens : List BytesAfter) : Type 0 where
  pub same : ended (state_bytes station) store givens ≡ run station store calls
  pub last : last_of (state_bytes station) givens ≡ state_bytes (run station store calls).station
  pub ok : sound_station (run station store calls).station ≡ true

is_run : (station : Station) → sound_station station ≡ true → (calls : List Call) (store : List ℕ) (givens : List BytesAfter)
    → Chained (state_bytes station) store calls givens → IsRun station store calls givens
unfolding Chained ended last_of run_on AsFirst
is_run station s [] store [] c =
    record { same = ap (λ (x : Station). record { answers = []; station = x; store = store }) (back station s); last = refl; ok = s }
is_run station s [] store (given ∷ givens) c = absurd c
is_run station s (call ∷ calls) store [] c = absurd c
is_run station s (call ∷ calls) store (given ∷ givens) c =
    let first = receive station store call.bus call.image in
    let of : BytesAfter → Type 0 = λ g. Chained g.state g.store calls givens → IsRun station store (call ∷ calls) (g ∷ givens) in
    subst of (sym (c.0 ∙ (as_first station s).receives store call.bus call.image))
    (λ d.
    let rest = is_run first.station (stays.receives station s store call.bus call.image) calls first.store givens d in
    record {
      same = ap (λ (ran : Ran). record { answers = first.answer ∷ ran.answers; station = ran.station; store = ran.store }) rest.same;
      last = rest.last;
      ok = rest.ok;
    })
    c.1

pub as_run : AsRun
unfolding AsRun
as_run station store s calls ran end =
    let r = is_run station s calls store end.givens end.chained in
    let same : run station store calls ≡ ran = sym r.same ∙ end.ends in
    record { same = same; last = r.last ∙ ap (λ (x : Ran). state_bytes x.station) same }

pub demand3_on_bytes : Demand3OnBytes
unfolding Demand3OnBytes AsRun
demand3_on_bytes station store s w = demand3_of station store s w _ (λ calls ran end. (as_run station store s calls ran end).same)

pub round_trip_on_bytes : RoundTripOnBytes
unfolding RoundTripOnBytes AsRun
round_trip_on_bytes station store s w = round_trip_of station store s w _ (λ calls ran end. (as_run station store s calls ran end).same)

pub read_at_end : ReadAtEnd
unfolding ReadAtEnd AsRun AsFirst
read_at_end station store s calls ran end i =
    let r = as_run station store s calls ran end in
    let ok : sound_station ran.station ≡ true =
    subst (λ (x : Ran). sound_station x.station ≡ true) r.same (is_run station s calls store end.givens end.chained).ok in
    ap (λ (x : List ℕ). read_in x ran.store i) r.last ∙ (as_first ran.station ok).reads ran.store i

-- ---- refusals

module _ (state : List ℕ) where
  -- bytes that are no station's, and those that are
  by_state : {A : Type 0} (else then : A) (Holds : A → Type 0) → Holds else → (is_state state ≡ true → Holds then) → Holds (cond (is_state state) then else)
  by_state else then Holds a b = go (is_state state) refl
    where
      go : (o : Bool) → is_state state ≡ o → Holds (cond o then else)
      go true e = b e
      go false e = a

  module _ (bytes : Bytes state) where
    back-again : is_state state ≡ true → state_bytes (station_in state) ≡ state
    unfolding WrittenBack
    back-again e = written_back state bytes e

    -- what a refusal by n leaves of a state's bytes, by whether it drops a packet
    left : is_state state ≡ true → (n i : ℕ) (b : Bool) → (eqb n (number Step) || eqb n (number Long)) ≡ b
        → state_bytes (left_by n (station_in state) i) ≡ cond b (state_bytes (left_by n (station_in state) i)) state
    unfolding left_by
    left e n i true q = refl
    left e n i false q = rw q (back-again e)

    refused_receives : (store : List ℕ) (bus : ℕ) (image : List ℕ) (n : ℕ) → (receive_in state store bus image).answer ≡ refused n
        → receive_in state store bus image
        ≡ record { answer = refused n; state = left_in n state (concerned (station_in state) store bus image); store = store }
    unfolding receive_in left_in
    refused_receives store bus image n =
        by_state _ (in_bytes (receive (station_in state) store bus image))
        (λ r. r.answer ≡ refused n
        → r ≡ record { answer = refused n; state = left_in n state (concerned (station_in state) store bus image); store = store })
        (λ e.
        let z : number State ≡ n = cc in
        subst
        (λ (m : ℕ). ◌≡◌ {A = BytesAfter} (record { answer = refused (number State); state = state; store = store })
        (record { answer = refused m; state = left_in m state (concerned (station_in state) store bus image); store = store })) z refl)
        (λ e q. ap in_bytes (refusals.receives (station_in state) store bus image n q)
        ∙ ap (λ (x : List ℕ). record { answer = refused n; state = x; store = store }) (left e n (concerned (station_in state) store bus image) _ refl))

    -- of a call that hands back the state
    handed-back : (after : StationAfter) (n : ℕ) → (after.answer ≡ refused n → after.station ≡ station_in state)
        → (cond (is_state state) (as_state after) (not_state state)).answer ≡ refused n
        → (cond (is_state state) (as_state after) (not_state state)).state ≡ state
    handed-back after n kept =
        by_state (not_state state) (as_state after) (λ r. r.answer ≡ refused n → r.state ≡ state) (λ e. refl)
        (λ e q. ap state_bytes (kept q) ∙ back-again e)

    refused_opens : (key : Key) (n : ℕ) → (open_in state key).answer ≡ refused n → (open_in state key).state ≡ state
    unfolding open_in
    refused_opens key n = handed-back (opening (station_in state) key) n (refusals.opens (station_in state) key n)

    refused_closes : (i n : ℕ) → (close_in state i).answer ≡ refused n → (close_in state i).state ≡ state
    unfolding close_in
    refused_closes i n = handed-back (closing (station_in state) i) n (refusals.closes (station_in state) i n)

  refused_renews : (format : Format) (n : ℕ) → (renewed state format).answer ≡ refused n → (renewed state format).state ≡ state
  unfolding renewed
  refused_renews format n = go (eqb (length state) 130)
    where
      go : (b : Bool) → (cond b (record { answer = value 0; state = state_bytes (new_station format) }) (not_state state)).answer ≡ refused n
          → (cond b (record { answer = value 0; state = state_bytes (new_station format) }) (not_state state)).state ≡ state
      go true e = let z : ◌≡◌ {A = ℕ} 0 1 = cc in absurd (omega arith)
      go false e = refl

pub refused_keeps : RefusedKeeps
refused_keeps = record { receives = refused_receives; opens = refused_opens; closes = refused_closes; renews = refused_renews }
