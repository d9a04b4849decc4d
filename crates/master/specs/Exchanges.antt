-- Document 01, "Filters, exchanges and watch", second paragraph: "Its calls answer "send" with the bus, "done" or "gave up"; the last
-- two end the exchange. [..] A start sends on the chosen bus. A reply counts only from that node, with that function, on the bus of the
-- latest send. A timeout sends again or, with the sends used up, gives up. When the sends on the first bus are used up unanswered, the
-- chosen bus becomes the other one, and stays so." "Refusal numbers", order: 21, 9, then 18, or 19 then 20. The bus of the latest send is
-- the bus chosen for the node (claim LatestSend): each send goes out on it, and it changes only at a timeout, which sends again on the
-- new one or ends the exchange.
use Rattle.std.specs.Prelude.{ℕ, ◌+◌, Bool, true, false, not, cond, List, [], ◌∷◌, leb, ltb, eqb, Option, None, Some, Ok, Err}
use Rattle.format.specs.declared.Refusal.TheVariants as refusal
use Rattle.format.specs.Refusals.{Result, value, refused, number, check, guarded, Returned}
use Rattle.format.specs.Tests.{all_true}
use Rattle.master.specs.declared.Kind.{Kind}
use Rattle.master.specs.declared.Exchange.{Exchange}
use Rattle.master.specs.declared.Master.{Master}
use Rattle.master.specs.declared.Answer.{Answer}
use Rattle.master.specs.declared.Answer.TheVariants as answered
use Rattle.master.specs.declared.Moved.{Moved}
use Rattle.master.specs.Masters.{plan_of, chosen_bus, switched, sound}

-- what a call that is not refused answers
pub data Told : Type 0 where
  send : (bus : ℕ) → Told
  done : Told
  gave_up : Told

-- the answer, and the master handed back
pub record MasterAfter : Type 0 where
  pub answer : Result Told
  pub master : Master

-- what a call that is not refused gives: its answer, and the next master
pub record Step : Type 0 where
  pub told : Told
  pub next : Master

abbrev pub given : Step → MasterAfter
given step = record { answer = value step.told; master = step.next }

-- a refusal hands back the master handed in
abbrev pub handed_back : Master → Result Step → MasterAfter
handed_back master (value step) = given step
handed_back master (refused n) = record { answer = refused n; master = master }

abbrev pub under_way : Option Exchange → Bool
under_way None = false
under_way (Some exchange) = true

-- an exchange goes out, or goes out again: send on the bus chosen for its node
abbrev pub sent : List ℕ → Exchange → Step
sent chosen exchange =
    record { told = send (chosen_bus chosen exchange.node); next = record { chosen = chosen; activity = Some exchange } }

-- an exchange ends
abbrev pub exchange_ended : Told → List ℕ → Step
exchange_ended told chosen = record { told = told; next = record { chosen = chosen; activity = None } }

-- BUSY: start during an exchange
abbrev pub started : Master → Kind → ℕ → Result Step
started master kind node =
    guarded
    (check refusal.State (sound master)
    ∷ check refusal.Field (leb node 63)
    ∷ check refusal.Busy (not (under_way master.activity))
    ∷ [])
    (sent master.chosen (record { kind = kind; node = node; sends = 1 }))

unfoldable pub starting : Master → Kind → ℕ → MasterAfter
starting master kind node = handed_back master (started master kind node)

-- from that node, with that function, on the bus of the latest send
unfoldable pub counts : List ℕ → ℕ → ℕ → ℕ → Option Exchange → Bool
counts chosen bus node function None = false
counts chosen bus node function (Some exchange) =
    all_true
    (eqb node exchange.node
    ∷ eqb function (plan_of exchange.kind).awaited
    ∷ eqb bus (chosen_bus chosen exchange.node)
    ∷ [])

-- FIELD: bus, node or function out of range. IDLE: reply with none. NOTAWAITED: reply does not count
abbrev pub replied : Master → ℕ → ℕ → ℕ → Result Step
replied master bus node function =
    guarded
    (check refusal.State (sound master)
    ∷ check refusal.Field (all_true (leb bus 1 ∷ leb node 63 ∷ leb function 31 ∷ []))
    ∷ check refusal.Idle (under_way master.activity)
    ∷ check refusal.NotAwaited (counts master.chosen bus node function master.activity)
    ∷ [])
    (exchange_ended done master.chosen)

unfoldable pub replying : Master → ℕ → ℕ → ℕ → MasterAfter
replying master bus node function = handed_back master (replied master bus node function)

-- the chosen buses after a timeout: the other bus for the node if the sends on the first are used up
unfoldable pub chosen_after : List ℕ → Exchange → List ℕ
chosen_after chosen exchange =
    cond (eqb exchange.sends (plan_of exchange.kind).first) (switched chosen exchange.node) chosen

-- the exchange, sent once more
abbrev pub again : Exchange → Exchange
again exchange = record { kind = exchange.kind; node = exchange.node; sends = exchange.sends + 1 }

-- the next send, or, with the sends used up, gives up; the case Idle is never used, as IDLE is refused first
unfoldable pub expired : List ℕ → Option Exchange → Step
expired chosen None = exchange_ended gave_up chosen
expired chosen (Some exchange) =
    cond (ltb exchange.sends (plan_of exchange.kind).total)
    (sent (chosen_after chosen exchange) (again exchange))
    (exchange_ended gave_up (chosen_after chosen exchange))

-- IDLE: timeout with none
abbrev pub timed_out : Master → Result Step
timed_out master =
    guarded (check refusal.State (sound master) ∷ check refusal.Idle (under_way master.activity) ∷ []) (expired master.chosen master.activity)

unfoldable pub timing_out : Master → MasterAfter
timing_out master = handed_back master (timed_out master)

-- what the code's answer says
abbrev pub told_of : Answer → Told
told_of (answered.Send bus) = send bus
told_of answered.Done = done
told_of answered.GaveUp = gave_up

abbrev pub meaning : Returned Answer → Result Told
meaning (Ok answer) = value (told_of answer)
meaning (Err name) = refused (number name)

-- what the code's answer and next master say
abbrev pub step_of : Answer × Master → Step
step_of given = record { told = told_of given.0; next = given.1 }

abbrev pub step_given : Returned (Answer × Master) → Result Step
step_given (Ok given) = value (step_of given)
step_given (Err name) = refused (number name)

-- what the code hands back says
abbrev pub master_after : Moved → MasterAfter
master_after r = record { answer = meaning r.answer; master = r.master }
