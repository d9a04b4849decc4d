-- compare/PROTOCOL.md: what the program holds between requests, and what a request does to it. "A request is [..] an operation byte, and
-- its arguments"; one that is none "has an empty response, of length 0, and changes nothing".
use Rattle.std.specs.Prelude.{ℕ, Bool, true, cond, List, [], ◌∷◌, ◌==◌, nat_le, nat_lt}
use Rattle.format.specs.Tests.{all_true}
use Rattle.master.specs.Masters.{new_master}
use Rattle.watch.specs.Watching.{new_watch}
use Rattle.calls_program.specs.declared.bench.Bench.{Bench}
use Rattle.calls_program.specs.Responses.{Responded, responds}
use Rattle.calls_program.specs.Operations.{MasterDone, WatchDone, is_request, master_done, watch_done, master_answered, watch_answered}
use Rattle.calls_program.specs.Images.{image_done}
use Rattle.calls_program.specs.Desks.{DeskDone, first_desk, station_done, listing_done}

-- "a master, at first a new one; and a watch, at first one that is new at time 0"
abbrev pub first_bench : Bench
first_bench = record { desk = first_desk; master = new_master; watch = new_watch 0 }

-- the bench after a request, and the response
pub record BenchDone : Type 0 where
  pub bench : Bench
  pub response : Responded

-- what the code leaves and hands back, and the output afterwards, say
abbrev pub as_bench : Bench → (size : ℕ) (out : List ℕ) → BenchDone
as_bench bench size out = record { bench = bench; response = responds size out }

-- nothing but the response
abbrev pub responded : Bench → Responded → BenchDone
responded bench response = record { bench = bench; response = response }

-- 6 COUNT and 7 PIECE, and "Images, filters, records and lines", 13 to 18, hold no state
unfoldable pub is_image : ℕ → Bool
is_image operation = cond (operation == 6) true (cond (operation == 7) true (all_true (nat_le 13 operation ∷ nat_lt operation 19 ∷ [])))

-- 1 to 12: a station; 19 to 22: a listing
abbrev pub with_desk : Bench → DeskDone → BenchDone
with_desk bench done =
    record { bench = record { desk = done.desk; master = bench.master; watch = bench.watch }; response = done.response }

unfoldable pub desk_done : ℕ → List ℕ → Bench → (out : List ℕ) → BenchDone
desk_done operation args bench out =
    cond (nat_lt operation 13) (with_desk bench (station_done operation args bench.desk out))
    (with_desk bench (listing_done operation args bench.desk out))

-- 23 to 27: "answer, master"; 28 to 30: "answer, watch"
abbrev pub with_master : Bench → MasterDone → (out : List ℕ) → BenchDone
with_master bench done out =
    record { bench = record { desk = bench.desk; master = done.master; watch = bench.watch }; response = master_answered done out }

abbrev pub with_watch : Bench → WatchDone → (out : List ℕ) → BenchDone
with_watch bench done out =
    record { bench = record { desk = bench.desk; master = bench.master; watch = done.watch }; response = watch_answered done out }

unfoldable pub other_done : ℕ → List ℕ → Bench → (out : List ℕ) → BenchDone
other_done operation args bench out =
    cond (nat_lt operation 28) (with_master bench (master_done operation args bench.master) out)
    (with_watch bench (watch_done operation args bench.watch) out)

unfoldable pub request_done : ℕ → List ℕ → Bench → (out : List ℕ) → BenchDone
request_done operation args bench out =
    cond (is_image operation) (responded bench (image_done operation args out))
    (cond (nat_lt operation 23) (desk_done operation args bench out) (other_done operation args bench out))

abbrev pub responding : Bench → (request out : List ℕ) → BenchDone
responding bench [] out = as_bench bench 0 out
responding bench (operation ∷ args) out =
    cond (is_request operation args) (request_done operation args bench out) (as_bench bench 0 out)
