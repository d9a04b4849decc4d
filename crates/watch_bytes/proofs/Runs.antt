-- Calls on the bytes of a watch are the watch's own, and so are calls one after the other: `as_run` has the only induction over calls.
use Prim.Native.Nat.{ℕ, ◌^◌, ◌<◌}
use mathlib.Core.Path.{◌≡◌, refl, sym, ap, ◌∙◌, subst}
use mathlib.Core.Bool.{Bool, true, false, cond}
use mathlib.Core.List.{List, [], ◌∷◌, map}
use Rattle.format.specs.Refusals.{Result}
use Rattle.watch.specs.declared.Watch.{Watch}
use Rattle.watch.specs.Runs.{Call, hear, check, Said, call, answers, run, time_of, sets_a, sets_b}
use Rattle.watch.specs.Claims as watches
use Rattle.watch.proofs.Claims.{one_call, last_times}
use Rattle.watch_bytes.specs.States.{WatchBytesAfter, state_bytes, watch_in, on_state, hearing, checking}
use Rattle.watch_bytes.specs.Runs.{call_in, as_number, Fit, AllFit, Chained, answers_given, last_of}
use Rattle.watch_bytes.specs.Claims.{ReadBack, WrittenIsState, AsRun, LastTimesOnBytes}
use Rattle.watch_bytes.proofs.Claims.{read_back, written_is_state}

-- ---- one call

-- what the watch's own call gives, in bytes
abbrev turned : Watch → Call → WatchBytesAfter
turned watch c = record { answer = as_number (call watch c).answer; state = state_bytes (call watch c).watch }

module _ (watch : Watch) (f : Fit watch) where
  back : watch_in (state_bytes watch) ≡ watch
  unfolding ReadBack
  back = read_back watch f.0 f.1

  is : (given : WatchBytesAfter) → on_state (state_bytes watch) given ≡ given
  unfolding WrittenIsState
  is given = rw (written_is_state watch)

  as_first : (c : Call) → call_in (state_bytes watch) c ≡ turned watch c
  unfolding hearing checking
  as_first (hear bus time) = is _ ∙ ap (λ (w : Watch). turned w (hear bus time)) back
  as_first (check time) = is _ ∙ ap (λ (w : Watch). turned w (check time)) back

  still_fit : (c : Call) → time_of c < 2 ^ 32 → Fit (call watch c).watch
  still_fit c t = subst Fit (sym (one_call watch c)) (either (sets_a said) f.0, either (sets_b said) f.1)
    where
      said : Said
      said = (call watch c).answer

      either : (b : Bool) {n : ℕ} → n < 2 ^ 32 → cond b (time_of c) n < 2 ^ 32
      either true h = t
      either false h = h

-- ---- calls one after the other

record IsRun (watch : Watch) (calls : List Call) (givens : List WatchBytesAfter) : Type 0 where
  pub same : answers_given givens ≡ map as_number (answers watch calls)
  pub last : last_of (state_bytes watch) givens ≡ state_bytes (run watch calls)
  pub fit : Fit (run watch calls)

is_run : (watch : Watch) → Fit watch → (calls : List Call) → AllFit calls → (givens : List WatchBytesAfter)
    → Chained (state_bytes watch) calls givens → IsRun watch calls givens
unfolding Chained last_of
is_run watch f [] t [] c = record { same = refl; last = refl; fit = f }
is_run watch f [] t (given ∷ givens) c = absurd c
is_run watch f (made ∷ calls) t [] c = absurd c
is_run watch f (made ∷ calls) t (given ∷ givens) c =
    let of : WatchBytesAfter → Type 0 = λ g. Chained g.state calls givens → IsRun watch (made ∷ calls) (g ∷ givens) in
    subst of (sym (c.0 ∙ as_first watch f made))
    (λ d.
    let rest = is_run (call watch made).watch (still_fit watch f made t.0) calls t.1 givens d in
    record { same = ap (λ (l : List (Result ℕ)). as_number (call watch made).answer ∷ l) rest.same; last = rest.last; fit = rest.fit })
    c.1

pub as_run : AsRun
unfolding AsRun
as_run watch f calls t givens c = let r = is_run watch f calls t givens c in (r.same, r.last)

pub last_times_on_bytes : LastTimesOnBytes
unfolding LastTimesOnBytes watches.LastTimes
last_times_on_bytes watch f calls t givens c =
    let r = is_run watch f calls t givens c in
    ap watch_in r.last ∙ back (run watch calls) r.fit ∙ last_times watch calls
