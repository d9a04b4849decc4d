-- compare/PROTOCOL.md: "Both read requests from standard input until it ends and write a response for each to standard output, in order".
-- "A request is a two-byte length of what follows, an operation byte, and its arguments. A response is a two-byte length of what follows,
-- and that many bytes." What is done with the requests that an input holds.
use Rattle.std.specs.Prelude.{◌≡◌, ℕ, zero, suc, ◌+◌, ◌-◌, ◌≤◌, cond, List, length, take, drop, nat_le, Option, None, Some, IfSome}
use Rattle.copying.specs.Copy.{written, copied}
use Rattle.calls_program.specs.declared.bench.Bench.{Bench}
use Rattle.calls_program.specs.declared.Work.{Work}
use Rattle.calls_program.specs.Requests.{number2_at}
use Rattle.calls_program.specs.Responses.{number2_bytes}
use Rattle.calls_program.specs.Benches.{responding}

-- where a request that begins at a place ends
unfoldable pub request_end : (input : List ℕ) (at : ℕ) → ℕ
request_end input at = at + 2 + number2_at input at

-- the request, without its length; none if it is not whole
unfoldable pub request_in : (input : List ℕ) (at : ℕ) → Option (List ℕ)
request_in input at = cond (nat_le (request_end input at) (length input)) (Some (take (number2_at input at) (drop (at + 2) input))) None

-- where a response starts in an output of `room` bytes, after its length; none if there might not be room for one of `most` bytes
unfoldable pub start_at : (room filled most : ℕ) → Option ℕ
start_at room filled most = cond (nat_le (filled + 2 + most) room) (Some (filled + 2)) None

-- the bench, where the work stands, and the output
pub record WorkDone : Type 0 where
  pub bench : Bench
  pub work : Work
  pub output : List ℕ

abbrev pub as_work : Bench → Work → (output : List ℕ) → WorkDone
as_work bench work output = record { bench = bench; work = work; output = output }

-- one request, and its response
abbrev pub responded_to : WorkDone → (request : List ℕ) (start : ℕ) → WorkDone
responded_to done request start =
    let after = responding done.bench request (drop start done.output) in
    let size = after.response.size in
    as_work after.bench
    (record { at = done.work.at + 2 + length request; filled = start + size })
    (copied (written done.output start after.response.output) done.work.filled (number2_bytes size))

-- none if there is no request that is whole, or no room for a response
abbrev pub responded_in : WorkDone → (request : Option (List ℕ)) (start : Option ℕ) → Option WorkDone
responded_in done None start = None
responded_in done (Some request) None = None
responded_in done (Some request) (Some start) = Some (responded_to done request start)

-- the longest response is that of STORE: all 40,000 bytes
unfoldable pub worked_one : WorkDone → (input : List ℕ) → Option WorkDone
worked_one done input = responded_in done (request_in input done.work.at) (start_at (length done.output) done.work.filled 40000)

-- where the work goes on, if it does
abbrev pub from_next : Option WorkDone → (WorkDone → WorkDone) → WorkDone → WorkDone
from_next None on done = done
from_next (Some next) on done = on next

-- one request after the other, at most so many
unfoldable pub worked : (turns : ℕ) → WorkDone → (input : List ℕ) → WorkDone
worked zero done input = done
worked (suc turns) done input = from_next (worked_one done input) (λ next. worked turns next input) done

-- from the beginning of an input and of an output: an input has fewer requests than bytes
abbrev pub worked_off : Bench → (input output : List ℕ) → WorkDone
worked_off bench input output = worked (length input) (as_work bench (record { at = 0; filled = 0 }) output) input

-- what is left of the first `held` bytes of an input from a place on
abbrev pub rest_of : (input : List ℕ) (at held : ℕ) → List ℕ
rest_of input at held = take (held - at) (drop at input)

-- what is left stands at the input's head; more is held only if no whole request is left
pub record Holds (input : List ℕ) (at held more : ℕ) (last : List ℕ) : Type 0 where
  pub within : more ≤ length input
  pub kept : take (length (rest_of input at held)) last ≡ rest_of input at held
  pub more_than : length (rest_of input at held) ≤ more
  pub whole : request_end (rest_of input at held) 0 ≤ length (rest_of input at held) → more ≡ length (rest_of input at held)

-- going on: "as soon as no whole request is left, all responses so far are written". Whether they could be written, and what is read then,
-- no contract can say. Where it goes on, that much is held
abbrev pub GoesOn : (input : List ℕ) (at held : ℕ) → Option ℕ → (last : List ℕ) → Type 0
GoesOn input at held r last = IfSome r (λ more. Holds input at held more last)

-- a turn: what is held is worked off, and it goes on
abbrev pub worked_in : Bench → (held : ℕ) (input output : List ℕ) → WorkDone
worked_in bench held input output = worked_off bench (take held input) output

pub record Turned (bench : Bench) (held : ℕ) (input output : List ℕ) (r : Option ℕ) (bench' : Bench) (input' output' : List ℕ) : Type 0 where
  pub bench_is : bench' ≡ (worked_in bench held input output).bench
  pub output_is : output' ≡ (worked_in bench held input output).output
  pub on : GoesOn input (worked_in bench held input output).work.at held r input'
