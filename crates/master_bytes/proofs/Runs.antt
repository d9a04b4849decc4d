-- Calls on the bytes of a sound master are the master's own, and so are calls one after the other: `as_run` has the only induction over
-- calls.
use mathlib.Core.Path.{◌≡◌, refl, sym, ap, ◌∙◌, subst}
use mathlib.Core.Bool.{true}
use mathlib.Core.List.{List, [], ◌∷◌, map}
use lib.ListN.{length}
use borrow.Author.Tests.{eqb-true}
use Rattle.format.specs.Refusals.{Result}
use Rattle.format.proofs.Tests.{each}
use Rattle.master.specs.declared.Master.{Master}
use Rattle.master.specs.Masters.{chosen_sound, sound}
use Rattle.master.specs.Exchanges as exchanges
use Rattle.master.specs.Exchanges.{Told}
use Rattle.master.specs.Runs.{call, answers, run, latest}
use Rattle.master.specs.Claims as masters
use Rattle.master.proofs.Claims.{stays_sound, late_reply}
use Rattle.master_bytes.specs.States.{state_bytes, master_in}
use Rattle.master_bytes.specs.Calls.{MasterBytesAfter, moved_in_bytes, on_state, starting, replying, timing_out}
use Rattle.master_bytes.specs.Runs.{BytesCall, start, reply, timeout, call_in, call_of, Chained, answers_given, last_of}
use Rattle.master_bytes.specs.Claims.{ReadBack, WrittenIsState, AsRun, LateReplyOnBytes}
use Rattle.master_bytes.proofs.Laws.{a-master, asked_for}
use Rattle.master_bytes.proofs.Claims.{read_back, written_is_state}

-- ---- one call

sixty_four : (master : Master) → sound master ≡ true → length master.chosen ≡ 64
unfolding sound chosen_sound
sixty_four master s = eqb-true _ _ (each _ (each _ s).0).0

module _ (master : Master) (s : sound master ≡ true) where
  back : master_in (state_bytes master) ≡ master
  unfolding ReadBack
  back = read_back master (sixty_four master s)

  is : (given : exchanges.MasterAfter) → on_state (state_bytes master) given ≡ moved_in_bytes given
  unfolding WrittenIsState
  is given = sym (a-master (state_bytes master) given (written_is_state master (sixty_four master s)))

  as_first : (c : BytesCall) → call_in (state_bytes master) c ≡ moved_in_bytes (call master (call_of c))
  unfolding starting replying timing_out
  as_first (start kind node) =
      is _
      ∙ ap moved_in_bytes (sym (asked_for (master_in (state_bytes master)) kind node) ∙ ap (λ (m : Master). call m (call_of (start kind node))) back)
  as_first (reply bus node function) = is _ ∙ ap (λ (m : Master). moved_in_bytes (call m (call_of (reply bus node function)))) back
  as_first timeout = is _ ∙ ap (λ (m : Master). moved_in_bytes (call m (call_of timeout))) back

-- ---- calls one after the other

record IsRun (master : Master) (calls : List BytesCall) (givens : List (MasterBytesAfter Told)) : Type 0 where
  pub same : answers_given givens ≡ answers master (map call_of calls)
  pub last : last_of (state_bytes master) givens ≡ state_bytes (run master (map call_of calls))
  pub ok : sound (run master (map call_of calls)) ≡ true

is_run : (master : Master) → sound master ≡ true → (calls : List BytesCall) (givens : List (MasterBytesAfter Told))
    → Chained (state_bytes master) calls givens → IsRun master calls givens
unfolding Chained last_of masters.StaysSound
is_run master s [] [] c = record { same = refl; last = refl; ok = s }
is_run master s [] (given ∷ givens) c = absurd c
is_run master s (made ∷ calls) [] c = absurd c
is_run master s (made ∷ calls) (given ∷ givens) c =
    let first = call master (call_of made) in
    let of : MasterBytesAfter Told → Type 0 = λ g. Chained g.state calls givens → IsRun master (made ∷ calls) (g ∷ givens) in
    subst of (sym (c.0 ∙ as_first master s made))
    (λ d.
    let rest = is_run first.master (stays_sound master (call_of made) s) calls givens d in
    record { same = ap (λ (l : List (Result Told)). first.answer ∷ l) rest.same; last = rest.last; ok = rest.ok })
    c.1

pub as_run : AsRun
unfolding AsRun
as_run master s calls givens c = let r = is_run master s calls givens c in (r.same, r.last)

pub late_reply_on_bytes : LateReplyOnBytes
unfolding LateReplyOnBytes masters.LateReply
late_reply_on_bytes master s i calls givens c bus node function none other =
    let r = is_run master s calls givens c in
    let of-run = late_reply master (map call_of calls) bus node function none i (λ e. other (e ∙ ap (latest none) (sym r.same))) in
    let given = as_first _ r.ok (reply bus node function) in
    rw r.last (
      (λ e. of-run.0 (ap (λ (g : MasterBytesAfter Told). g.answer) (sym given) ∙ e)),
      ap (λ (g : MasterBytesAfter Told). g.state) given ∙ ap state_bytes of-run.1,
    )
