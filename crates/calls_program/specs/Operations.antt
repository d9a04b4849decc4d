-- compare/PROTOCOL.md: which requests are requests. "A request that is none of those below (an unknown operation, another number of
-- argument bytes than stated, a format over 1, or whatever else the table rules out) has an empty response".
use Rattle.std.specs.Prelude.{ℕ, ◌+◌, Bool, true, false, cond, List, [], ◌∷◌, length, ◌==◌, nat_le}
use Rattle.format.specs.Tests.{all_true}
use Rattle.format.specs.Refusals.{number}
use Rattle.calls_program.specs.declared.operations.Operation.{Operation}
use Rattle.calls_program.specs.declared.operations.Operation.TheVariants as operation
use Rattle.master.specs.declared.Master.{Master}
use Rattle.master.specs.Masters.{new_master}
use Rattle.master.specs.Exchanges.{MasterAfter, starting, replying, timing_out}
use Rattle.watch.specs.declared.Watch.{Watch}
use Rattle.watch.specs.declared.Checked.{Checked}
use Rattle.watch.specs.Watching.{WatchAfter, new_watch, hearing, checking, resets}
use Rattle.calls_program.specs.Requests.{byte_at, number2_at, number4_at, kind_named, refusal_named, master_named}
use Rattle.copying.specs.Copy.{copied}
use Rattle.calls_program.specs.Responses.{Responded, responds, answer_bytes, outcome_bytes, told_bytes, out_with_master, out_with_watch}

-- the byte of each operation
abbrev pub number_of : Operation → ℕ
number_of operation.New = 1
number_of operation.Open = 2
number_of operation.Close = 3
number_of operation.Receive = 4
number_of operation.Read = 5
number_of operation.Count = 6
number_of operation.Piece = 7
number_of operation.Slot = 8
number_of operation.Lend = 9
number_of operation.Store = 10
number_of operation.Fill = 11
number_of operation.Front = 12
number_of operation.Judge = 13
number_of operation.Number = 14
number_of operation.Filter = 15
number_of operation.Row = 16
number_of operation.Record = 17
number_of operation.Line = 18
number_of operation.Listing = 19
number_of operation.Listed = 20
number_of operation.List = 21
number_of operation.End = 22
number_of operation.Master = 23
number_of operation.Exchange = 24
number_of operation.Start = 25
number_of operation.Reply = 26
number_of operation.Timeout = 27
number_of operation.Watch = 28
number_of operation.Heard = 29
number_of operation.Check = 30

-- operations, and what their requests have to meet
pub data Rule : Type 0 where
  rule : List ℕ → Bool → Rule

unfoldable pub among : ℕ → List ℕ → Bool
among x [] = false
among x (k ∷ ks) = cond (x == k) true (among x ks)

-- the rule of an operation; for one without a rule, `others`
unfoldable pub ruled : ℕ → List Rule → (others : Bool) → Bool
ruled operation [] others = others
ruled operation (rule operations ok ∷ rules) others = cond (among operation operations) ok (ruled operation rules others)

-- the number of argument bytes; "all the bytes that are left, also none" come after those of RECEIVE, PIECE, JUDGE, RECORD, LIST and END
unfoldable pub args_fit : ℕ → (size : ℕ) → Bool
args_fit operation size =
    ruled operation
    (rule (19 ∷ 23 ∷ 27 ∷ []) (size == 0)
    ∷ rule (1 ∷ 3 ∷ 5 ∷ 12 ∷ 14 ∷ []) (size == 1)
    ∷ rule (9 ∷ 11 ∷ 25 ∷ []) (size == 2)
    ∷ rule (26 ∷ []) (size == 3)
    ∷ rule (10 ∷ 28 ∷ 30 ∷ []) (size == 4)
    ∷ rule (24 ∷ 29 ∷ []) (size == 5)
    ∷ rule (2 ∷ []) (size == 7)
    ∷ rule (15 ∷ 20 ∷ []) (size == 8)
    ∷ rule (6 ∷ []) (size == 9)
    ∷ rule (8 ∷ []) (size == 11)
    ∷ rule (16 ∷ []) (size == 12)
    ∷ rule (18 ∷ []) (size == 30)
    ∷ rule (4 ∷ 13 ∷ []) (nat_le 1 size)
    ∷ rule (21 ∷ []) (nat_le 2 size)
    ∷ rule (22 ∷ []) (nat_le 2 size)
    ∷ rule (7 ∷ []) (nat_le 9 size)
    ∷ rule (17 ∷ []) true
    ∷ [])
    false

-- what the tables rule out: a format over 1, a front over 1; a slot over 15, a kind of it over 3; more bytes than there are
unfoldable pub station_args : ℕ → List ℕ → (others : Bool) → Bool
station_args operation args others =
    ruled operation
    (rule (1 ∷ 6 ∷ 12 ∷ []) (nat_le (byte_at args 0) 1)
    ∷ rule (7 ∷ 13 ∷ []) (nat_le (byte_at args 0) 1)
    ∷ rule (2 ∷ []) (nat_le (byte_at args 1) 1)
    ∷ rule (8 ∷ []) (all_true (nat_le (byte_at args 0) 15 ∷ nat_le (byte_at args 1) 3 ∷ nat_le (byte_at args 5) 1 ∷ []))
    ∷ rule (9 ∷ []) (nat_le (number2_at args 0) 40000)
    ∷ rule (10 ∷ []) (nat_le (number2_at args 0 + number2_at args 2) 40000)
    ∷ [])
    others

-- a number that is no refusal's; more identifiers than 32,768; a line's kind over 4, its format over 1; a longer room than 4,096; a
-- node over 63, a kind of exchange over 3, or one that is none of 1 to 3
unfoldable pub other_args : ℕ → List ℕ → Bool
other_args operation args =
    ruled operation
    (rule (14 ∷ []) (number (refusal_named (byte_at args 0)) == byte_at args 0)
    ∷ rule (15 ∷ []) (nat_le (number2_at args 6) 32768)
    ∷ rule (16 ∷ []) (nat_le (number2_at args 10) 32768)
    ∷ rule (18 ∷ []) (all_true (nat_le (byte_at args 1) 4 ∷ nat_le (byte_at args 11) 1 ∷ []))
    ∷ rule (21 ∷ []) (nat_le (number2_at args 0) 4096)
    ∷ rule (22 ∷ []) (nat_le (number2_at args 0) 4096)
    ∷ rule (24 ∷ []) (all_true (nat_le (byte_at args 0) 63 ∷ nat_le (byte_at args 2) 3 ∷ []))
    ∷ rule (25 ∷ []) (all_true (nat_le 1 (byte_at args 0) ∷ nat_le (byte_at args 0) 3 ∷ []))
    ∷ [])
    true

unfoldable pub is_request : ℕ → List ℕ → Bool
is_request operation args = all_true (args_fit operation (length args) ∷ station_args operation args (other_args operation args) ∷ [])

-- 23 MASTER, 24 EXCHANGE, 25 START, 26 REPLY, 27 TIMEOUT: the answer's bytes, and what the master becomes
pub record MasterDone : Type 0 where
  pub answer : List ℕ
  pub master : Master

abbrev pub as_called : MasterAfter → MasterDone
as_called after = record { answer = told_bytes after.answer; master = after.master }

abbrev pub as_set : Master → MasterDone
as_set master = record { answer = answer_bytes 5 0 0; master = master }

unfoldable pub master_done : ℕ → List ℕ → Master → MasterDone
master_done operation args master =
    cond (operation == 23) (as_set new_master)
    (cond (operation == 24) (as_set (master_named args))
    (cond (operation == 25) (as_called (starting master (kind_named (byte_at args 0)) (byte_at args 1)))
    (cond (operation == 26) (as_called (replying master (byte_at args 0) (byte_at args 1) (byte_at args 2)))
    (as_called (timing_out master)))))

-- "answer, master"
abbrev pub master_answered : MasterDone → (out : List ℕ) → Responded
master_answered done out = responds 71 (out_with_master (copied out 0 done.answer) done.master)

-- 28 WATCH, 29 HEARD, 30 CHECK, in the same way
pub record WatchDone : Type 0 where
  pub answer : List ℕ
  pub watch : Watch

abbrev pub as_renewed : (time : ℕ) → WatchDone
as_renewed time = record { answer = answer_bytes 5 0 0; watch = new_watch time }

abbrev pub as_heard : WatchAfter → WatchDone
as_heard after = record { answer = outcome_bytes after.answer; watch = after.watch }

-- 1 if A is to be reset, and 2 more if B is
abbrev pub as_checked : Checked → WatchDone
as_checked after = record { answer = answer_bytes 5 (resets after.a after.b) 0; watch = after.watch }

unfoldable pub watch_done : ℕ → List ℕ → Watch → WatchDone
watch_done operation args watch =
    cond (operation == 28) (as_renewed (number4_at args 0))
    (cond (operation == 29) (as_heard (hearing watch (byte_at args 0) (number4_at args 1)))
    (as_checked (checking watch (number4_at args 0))))

-- "answer, watch"
abbrev pub watch_answered : WatchDone → (out : List ℕ) → Responded
watch_answered done out = responds 12 (out_with_watch (copied out 0 done.answer) done.watch)
