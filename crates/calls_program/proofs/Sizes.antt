-- No response is longer than 40,000 bytes: what STORE shows, n of FILTER and ROW, and the rooms of LIST and END are bounded by the rules of
-- requests, the rooms of PIECE and LINE by being a byte, a packet by its area; the others are of one size.
use Rattle.std.proofs.Common.{◌≡◌, ℕ, suc, ◌+◌, ◌<◌, ◌≤◌, Bool, true, false, cond, eqb, ltb, leb, List, [], ◌∷◌, length, get_or, sym, refl, ap, ◌∙◌, arith, eqb-true, leb-true}
use Rattle.format.specs.Refusals.{Result, value, refused}
use Rattle.format.proofs.Tests.{each}
use Rattle.frame.specs.Judge.{Judged, judge}
use Rattle.station.specs.declared.Station.{Station}
use Rattle.station.specs.Read.{reading, length_of, part_of}
use Rattle.station.proofs.Handing.{has_length}
use Rattle.calls_program.specs.declared.bench.Bench.{Bench}
use Rattle.calls_program.specs.declared.stations.Desk.{Desk}
use Rattle.calls_program.specs.Requests.{byte_at, number2_at, bytes_from, format_named}
use Rattle.calls_program.specs.Responses.{Responded, room_for}
use Rattle.calls_program.specs.Operations.{among, ruled, station_args, other_args, is_request}
use Rattle.calls_program.specs.Images.{piece_done, judged_done, judge_done, accepted_done, filter_done, row_done, line_done, image_done}
use Rattle.calls_program.specs.Desks.{DeskDone, store_of, keeping_done, station_done, listing_done}
use Rattle.calls_program.specs.Benches.{BenchDone, as_bench, is_image, desk_done, other_done, request_done, responding}

-- numbers below 256
abbrev Bytes : List ℕ → Type 0
Bytes l = (i : ℕ) → get_or l i 0 < 256

-- a response, alone and with what is kept, of at most 40,000 bytes
abbrev Fits : Responded → Type 0
Fits response = response.size ≤ 40000

abbrev DeskFits : DeskDone → Type 0
DeskFits done = Fits done.response

abbrev BenchFits : BenchDone → Type 0
BenchFits done = Fits done.response

-- either of two, of which the first may know why it is taken
either : {A : Type 0} (P : A → Type 0) (b : Bool) (x y : A) → (b ≡ true → P x) → P y → P (cond b x y)
either P true x y h k = h refl
either P false x y h k = k

-- a response for which the output may have no room
with_room : (size : ℕ) (out with : List ℕ) → size ≤ 40000 → Fits (room_for size out with)
with_room size out with h = either Fits (ltb (length out) size) _ _ (λ _. omega arith) h

-- JUDGE
judged : (r : Result Judged) (out : List ℕ) → Fits (judged_done r out)
judged (value j) out = omega arith
judged (refused n) out = omega arith

-- READ: a packet
packet_small : (station : Station) (store : List ℕ) (slot : ℕ) → length (part_of (reading station store slot)) ≤ 2048
packet_small station store slot = go (reading station store slot) refl
  where
    go : (r : Result (List ℕ)) → r ≡ reading station store slot → length (part_of r) ≤ 2048
    go (value packet) e = (has_length station store slot (length packet) (ap length_of e)).small
    go (refused n) e = omega arith

module _ (operation : ℕ) (args : List ℕ) (small : Bytes args) (request : is_request operation args ≡ true) where
  -- one operation of a chain
  when : {A : Type 0} (P : A → Type 0) (k : ℕ) (x y : A) → (operation ≡ k → P x) → P y → P (cond (eqb operation k) x y)
  when P k x y h rest = either P (eqb operation k) x y (λ t. h (eqb-true _ _ t)) rest

  -- a number that the rule of an operation bounds
  limit : (k n most : ℕ) → operation ≡ k → station_args k args (other_args k args) ≡ leb n most → n ≤ most
  unfolding is_request
  limit k n most e rule-is = leb-true n most (sym rule-is ∙ (rw e at (each _ request).1.0))

  image_fits : (out : List ℕ) → Fits (image_done operation args out)
  unfolding image_done piece_done judge_done accepted_done filter_done row_done line_done station_args other_args ruled among
  image_fits out =
      when Fits 6 _ _ (λ _. omega arith)
      (when Fits 7 _ _ (λ _. with_room _ out _ (omega (arith, small 8)))
      (when Fits 13 _ _ (λ _. judged (judge (format_named (byte_at args 0)) (bytes_from args 1)) out)
      (when Fits 14 _ _ (λ _. omega arith)
      (when Fits 15 _ _ (λ e. with_room _ out _ (omega (arith, limit 15 (number2_at args 6) 32768 e refl)))
      (when Fits 16 _ _ (λ e. with_room _ out _ (omega (arith, limit 16 (number2_at args 10) 32768 e refl)))
      (when Fits 17 _ _ (λ _. omega arith)
      (when Fits 18 _ _ (λ _. with_room _ out _ (omega (arith, small 0)))
      (omega arith))))))))

  keeping_fits : (desk : Desk) (out : List ℕ) → DeskFits (keeping_done operation args desk out)
  unfolding keeping_done station_args other_args ruled among
  keeping_fits desk out =
      when DeskFits 5 _ _ (λ _. omega (arith, packet_small desk.station (store_of desk) (byte_at args 0)))
      (when DeskFits 10 _ _ (λ e. omega (arith, limit 10 (number2_at args 0 + number2_at args 2) 40000 e refl))
      (when DeskFits 11 _ _ (λ _. omega arith)
      (omega arith)))

  station_fits : (desk : Desk) (out : List ℕ) → DeskFits (station_done operation args desk out)
  unfolding station_done
  station_fits desk out =
      when DeskFits 1 _ _ (λ _. omega arith)
      (when DeskFits 2 _ _ (λ _. omega arith)
      (when DeskFits 3 _ _ (λ _. omega arith)
      (when DeskFits 4 _ _ (λ _. omega arith)
      (when DeskFits 8 _ _ (λ _. omega arith)
      (when DeskFits 9 _ _ (λ _. omega arith)
      (when DeskFits 12 _ _ (λ _. omega arith)
      (keeping_fits desk out)))))))

  listing_fits : (desk : Desk) (out : List ℕ) → DeskFits (listing_done operation args desk out)
  unfolding listing_done station_args other_args ruled among
  listing_fits desk out =
      when DeskFits 19 _ _ (λ _. omega arith)
      (when DeskFits 20 _ _ (λ _. omega arith)
      (when DeskFits 21 _ _
      (λ e. either DeskFits (ltb (length out) _) _ _ (λ _. omega arith) (omega (arith, limit 21 (number2_at args 0) 4096 e refl)))
      (when DeskFits 22 _ _ (λ e. with_room _ out _ (omega (arith, limit 22 (number2_at args 0) 4096 e refl)))
      (omega arith))))

  request_fits : (bench : Bench) (out : List ℕ) → BenchFits (request_done operation args bench out)
  unfolding request_done desk_done other_done
  request_fits bench out =
      either BenchFits (is_image operation) _ _ (λ _. image_fits out)
      (either BenchFits (ltb operation 23) _ _
      (λ _. either BenchFits (ltb operation 13) _ _ (λ _. station_fits bench.desk out) (listing_fits bench.desk out))
      (either BenchFits (ltb operation 28) _ _ (λ _. omega arith) (omega arith)))

module _ (bench : Bench) (out : List ℕ) where
  fits : (request : List ℕ) → Bytes request → BenchFits (responding bench request out)
  fits [] small = omega arith
  fits (operation ∷ args) small =
      either BenchFits (is_request operation args) _ _
      (λ r. request_fits operation args (λ i. small (suc i)) r bench out)
      (omega arith)

  -- the size of the response to a request
  pub done_fits : (request : List ℕ) → Bytes request → (bench' : Bench) (size : ℕ) (out' : List ℕ)
      → as_bench bench' size out' ≡ responding bench request out → size ≤ 40000
  done_fits request small bench' size out' e = omega (arith, ap (λ d. d.response.size) e, fits request small)
