-- One request, one after the other, and going on.
use Rattle.std.proofs.Common.{◌≡◌, ℕ, zero, suc, ◌+◌, ◌-◌, ◌<◌, ◌≤◌, Bool, true, false, List, length, take, drop, sym, refl, ap, ◌∙◌, arith, length-drop, length-take, take_all, le-leb}
use Rattle.std.specs.Prelude.{Option, None, Some}
use Rattle.std.specs.Bool.{then_some}
use lib.Seq.{take-append_seam}
use Rattle.pipes.specs.Holding.{ReadOn, left, moved}
use borrow.Rule.Slice.PartMut.{mid_of, put_mid}
use Rattle.copying.specs.Copy.{copied}
use Rattle.calls_program.specs.declared.bench.Bench.{Bench}
use Rattle.calls_program.specs.Requests.{number2_at}
use Rattle.calls_program.specs.Responses.{number2_bytes}
use Rattle.calls_program.specs.Benches.{as_bench, responding}
use Rattle.calls_program.specs.Working.{request_end, request_in, start_at, WorkDone, as_work, worked_one, worked, rest_of, GoesOn}
use Rattle.calls_program.proofs.Parts.{part_back}

-- a request whose response was written from `start` on
pub step_done : (done : WorkDone) (input request part output' : List ℕ) (start size : ℕ) (bench' : Bench)
    → request_in input done.work.at ≡ Some request
    → Some start ≡ start_at (length done.output) done.work.filled 40000
    → start + 40000 ≤ length done.output
    → length part ≡ length (mid_of start (length done.output - start) done.output)
    → as_bench bench' size part ≡ responding done.bench request (mid_of start (length done.output - start) done.output)
    → output' ≡ copied (put_mid start (length done.output - start) done.output part) done.work.filled (number2_bytes size)
    → worked_one done input ≡ Some (as_work bench' (record { at = done.work.at + 2 + length request; filled = start + size }) output')
unfolding worked_one
step_done done input request part output' start size bench' request-is start_is start-in size_is done-is output_is =
    let output = done.output in
    let mid = take_all (length output - start) (drop start output) (simp length-drop (omega arith)) in
    let long : length part ≡ length output - start = size_is ∙ ap length mid ∙ length-drop start output in
    let back = part_back output start (length output - start) part long in
    rw (request-is, sym start_is, sym (rw mid at done-is), output_is, back)

module _ (done : WorkDone) (input : List ℕ) where
  pub worked_more : (turns : ℕ) (next : WorkDone) → 0 < turns → worked_one done input ≡ Some next
      → worked turns done input ≡ worked (turns - 1) next input
  unfolding worked
  worked_more zero next h is = absurd (omega arith)
  worked_more (suc turns) next h is = let one : suc turns - 1 ≡ turns = omega arith in rw (is, one)

  pub worked_end : (turns : ℕ) → worked_one done input ≡ None → worked turns done input ≡ done
  unfolding worked
  worked_end zero is = refl
  worked_end (suc turns) is = rw is

  pub worked_out : (turns : ℕ) → turns ≤ 0 → worked turns done input ≡ done
  unfolding worked
  worked_out zero h = refl
  worked_out (suc turns) h = absurd (omega arith)

module _ (input : List ℕ) (at held : ℕ) (h : held ≤ length input) where
  abbrev rest : List ℕ
  rest = rest_of input at held

  rest_size : length rest ≡ left input at held
  rest_size = rw (le-leb _ _ h) (simp (length-take, length-drop) (omega arith))

  rest_moved : take (length rest) (moved input at held) ≡ rest
  rest_moved = rw (le-leb _ _ h) (take-append_seam rest (drop (held - at) input))

  no_whole : (part : List ℕ) → request_in part 0 ≡ None → request_end part 0 ≤ length part → ⊥
  unfolding request_in
  no_whole part s w = let z : ◌≡◌ {A = Option (List ℕ)} (Some (take (number2_at part 0) (drop 2 part))) None = rw (le-leb _ _ w) at s in absurd cc

  pub gone_more : (n more : ℕ) (goes : Bool) (input' last : List ℕ) → n ≡ left input at held → input' ≡ moved input at held
      → length input' ≡ length input → n ≤ length input → request_in (take n input') 0 ≡ None → ReadOn input' n more last
      → GoesOn input at held (then_some goes more) last
  gone_more n more false input' last n-is input-is size_is in_input none read = tt
  gone_more n more true input' last n-is input-is size_is in_input none read =
      let size : n ≡ length rest = n-is ∙ sym rest_size in
      let head : take n input' ≡ rest = rw (input-is, size) rest_moved in
      record {
        within = rw size_is at (read.more (omega arith)).1;
        kept = rw (← size) (read.kept ∙ head);
        more_than = omega (arith, rest_size, (read.more (omega arith)).0);
        whole = λ w. absurd (no_whole rest (rw head at none) w);
      }
