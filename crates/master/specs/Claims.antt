-- What is proved of masters. Document 01, "Filters, exchanges and watch". Proofs: proofs/Claims.antt, proofs/Replies.antt (`Answered`,
-- `Functions`, `BusesKept`) and proofs/Answers.antt (`OneAnswer`).
use Rattle.std.specs.Prelude.{ℕ, ◌≤◌, ◌<◌, ◌≡◌, ◌≢◌, true, List, [], ◌∷◌, ◌++◌, map, replicate, length, None, Some}
use Rattle.format.specs.Refusals.{value, refused, Returned}
use Rattle.master.specs.declared.Kind.{Kind}
use Rattle.master.specs.declared.Kind.TheVariants.{Poll, DataBlock, Command}
use Rattle.master.specs.declared.Exchange.{Exchange}
use Rattle.master.specs.declared.Master.{Master}
use Rattle.master.specs.declared.Answer.{Answer}
use Rattle.master.specs.Masters.{new_master, plan_of, function_sent, chosen_bus, other, switched, sound}
use Rattle.master.specs.Exchanges.{send, done, gave_up, starting, replying, timing_out, meaning}
use Rattle.master.specs.Runs.{Call, start, timeout, call, answers, run, latest, not_refused, without_refusals}

unfoldable pub NewIsSound : Type 0
NewIsSound = sound new_master ≡ true

unfoldable pub StaysSound : Type 0
StaysSound = (master : Master) (c : Call) → sound master ≡ true → sound (call master c).master ≡ true

-- a refused call changes nothing
unfoldable pub RefusedKeeps : Type 0
RefusedKeeps = (master : Master) (c : Call) (n : ℕ) → (call master c).answer ≡ refused n → (call master c).master ≡ master

-- so the calls that are not refused do, by themselves, what all of them do
unfoldable pub RefusedPlayNoPart : Type 0
RefusedPlayNoPart =
    (master : Master) (calls : List Call)
    → (without_refusals (answers master calls) ≡ answers master (not_refused master calls))
    × (run master calls ≡ run master (not_refused master calls))

-- "Poll: 1 send [..]. Data block: 2 sends [..]. Command: 2 sends, then a third on the other bus": their buses, from the bus chosen at
-- the start
abbrev pub buses : Kind → ℕ → List ℕ
buses Poll bus = bus ∷ []
buses DataBlock bus = bus ∷ bus ∷ []
buses Command bus = bus ∷ bus ∷ other bus ∷ []

-- an exchange that only times out: exactly these sends, then "gave up"; and the other bus is chosen for the node, for no other
unfoldable pub Unanswered : Type 0
Unanswered =
    (master : Master) (kind : Kind) (node : ℕ) → sound master ≡ true → master.activity ≡ None → node ≤ 63
    → let sends : List ℕ = buses kind (chosen_bus master.chosen node) in
    let calls : List Call = start kind node ∷ replicate (length sends) timeout in
    (answers master calls ≡ map (λ bus. value (send bus)) sends ++ value gave_up ∷ [])
    × (run master calls ≡ record { chosen = switched master.chosen node; activity = None })

-- "awaits function 2", "awaits 4", "awaits 4"
abbrev pub awaits : Kind → ℕ
awaits Poll = 2
awaits DataBlock = 4
awaits Command = 4

-- "A reply counts only from that node, with that function, on the bus of the latest send": after a start, and after each timeout that
-- sends again, that reply is answered "done", which ends the exchange and leaves the chosen buses; and no other reply is. (Calls that are
-- refused in between play no part.)
unfoldable pub Answered : Type 0
Answered =
    (master : Master) (kind : Kind) (node timeouts none : ℕ) → sound master ≡ true → master.activity ≡ None → node ≤ 63
    → timeouts < length (buses kind (chosen_bus master.chosen node))
    → let calls : List Call = start kind node ∷ replicate timeouts timeout in
    let waiting : Master = run master calls in
    let bus : ℕ = latest none (answers master calls) in
    let ended : Master = record { chosen = waiting.chosen; activity = None } in
    (replying waiting bus node (awaits kind) ≡ record { answer = value done; master = ended })
    × ((b n f : ℕ) → (replying waiting b n f).answer ≡ value done → (b ≡ bus) × (n ≡ node) × (f ≡ awaits kind))

-- source Table 12: what each kind is sent with, and what it awaits, which is the reply to that: 2 to 1, 4 to 3
unfoldable pub Functions : Type 0
Functions =
    ((function_sent Poll ≡ 1) × ((plan_of Poll).awaited ≡ 2))
    × ((function_sent DataBlock ≡ 3) × ((plan_of DataBlock).awaited ≡ 4))
    × ((function_sent Command ≡ 3) × ((plan_of Command).awaited ≡ 4))

-- nothing but a timeout changes a chosen bus, and a timeout changes only that of the node of its exchange
pub record BusesKept : Type 0 where
  pub starts : (master : Master) (kind : Kind) (node : ℕ) → (starting master kind node).master.chosen ≡ master.chosen
  pub replies : (master : Master) (bus node function : ℕ) → (replying master bus node function).master.chosen ≡ master.chosen
  pub times_out : (master : Master) (exchange : Exchange) (node : ℕ) → master.activity ≡ Some exchange → node ≢ exchange.node
      → chosen_bus (timing_out master).master.chosen node ≡ chosen_bus master.chosen node

-- after any calls on a master that had no exchange, the bus of the latest send is the bus chosen for the node
unfoldable pub LatestSend : Type 0
LatestSend =
    (master : Master) (calls : List Call) (none : ℕ) (exchange : Exchange) → master.activity ≡ None
    → (run master calls).activity ≡ Some exchange
    → chosen_bus (run master calls).chosen exchange.node ≡ latest none (answers master calls)

-- after such calls a reply on another bus than that of the latest send ends no exchange: it is not "done", and changes nothing
unfoldable pub LateReply : Type 0
LateReply =
    (master : Master) (calls : List Call) (bus node function none : ℕ) → master.activity ≡ None
    → bus ≢ latest none (answers master calls)
    → ((replying (run master calls) bus node function).answer ≢ value done)
    × ((replying (run master calls) bus node function).master ≡ run master calls)

-- an answer's meaning leaves no doubt which answer it is, so a contract that is an equation with `meaning` determines the answer
unfoldable pub OneAnswer : Type 0
OneAnswer = (a b : Returned Answer) → meaning a ≡ meaning b → a ≡ b
