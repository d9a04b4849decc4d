-- A request, taken apart as the code does: its operation, and its arguments.
use Rattle.std.proofs.Common.{◌≡◌, ℕ, true, false, List, ◌∷◌, sym, ne_eqb}
use Rattle.calls_program.specs.declared.bench.Bench.{Bench}
use Rattle.calls_program.specs.declared.operations.Operation.{Operation}
use Rattle.calls_program.specs.declared.operations.Operation.TheVariants as operation
use Rattle.calls_program.specs.Benches.{BenchDone, as_bench, request_done, responding}
use Rattle.calls_program.specs.Operations.{number_of, among, ruled, args_fit, is_request}
use Rattle.format.specs.Tests.{all_after, all_true}

-- a byte that is no operation's has no rule
pub no_operation : (n : ℕ) (args : List ℕ) → ((named : Operation) → ¬ (number_of named ≡ n)) → is_request n args ≡ false
unfolding is_request args_fit ruled among all_true all_after
no_operation n args h =
    rw (
      ne_eqb n 19 (λ e. h operation.Listing (sym e)),
      ne_eqb n 23 (λ e. h operation.Master (sym e)),
      ne_eqb n 27 (λ e. h operation.Timeout (sym e)),
      ne_eqb n 1 (λ e. h operation.New (sym e)),
      ne_eqb n 3 (λ e. h operation.Close (sym e)),
      ne_eqb n 5 (λ e. h operation.Read (sym e)),
      ne_eqb n 12 (λ e. h operation.Front (sym e)),
      ne_eqb n 14 (λ e. h operation.Number (sym e)),
      ne_eqb n 9 (λ e. h operation.Lend (sym e)),
      ne_eqb n 11 (λ e. h operation.Fill (sym e)),
      ne_eqb n 25 (λ e. h operation.Start (sym e)),
      ne_eqb n 26 (λ e. h operation.Reply (sym e)),
      ne_eqb n 10 (λ e. h operation.Store (sym e)),
      ne_eqb n 28 (λ e. h operation.Watch (sym e)),
      ne_eqb n 30 (λ e. h operation.Check (sym e)),
      ne_eqb n 24 (λ e. h operation.Exchange (sym e)),
      ne_eqb n 29 (λ e. h operation.Heard (sym e)),
      ne_eqb n 2 (λ e. h operation.Open (sym e)),
      ne_eqb n 15 (λ e. h operation.Filter (sym e)),
      ne_eqb n 20 (λ e. h operation.Listed (sym e)),
      ne_eqb n 6 (λ e. h operation.Count (sym e)),
      ne_eqb n 8 (λ e. h operation.Slot (sym e)),
      ne_eqb n 16 (λ e. h operation.Row (sym e)),
      ne_eqb n 18 (λ e. h operation.Line (sym e)),
      ne_eqb n 4 (λ e. h operation.Receive (sym e)),
      ne_eqb n 13 (λ e. h operation.Judge (sym e)),
      ne_eqb n 21 (λ e. h operation.List (sym e)),
      ne_eqb n 22 (λ e. h operation.End (sym e)),
      ne_eqb n 7 (λ e. h operation.Piece (sym e)),
      ne_eqb n 17 (λ e. h operation.Record (sym e)),
    )

module _ (bench : Bench) (request out : List ℕ) (first : ℕ) (args : List ℕ) (is : request ≡ first ∷ args) where
  pub a_request : (n : ℕ) (done : BenchDone) → n ≡ first → is_request n args ≡ true → done ≡ request_done n args bench out
      → done ≡ responding bench request out
  a_request n done same takes d = rw (is, sym same, takes) d

  pub no_request : ((named : Operation) → ¬ (number_of named ≡ first)) → as_bench bench 0 out ≡ responding bench request out
  no_request none = rw (is, no_operation first args none)
