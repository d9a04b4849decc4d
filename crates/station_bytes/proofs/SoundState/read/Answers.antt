-- `station_bytes::SoundState::read` meets its contract: each answer, by what was found out (Bytes).
use Rattle.std.proofs.Common.{◌≡◌, ℕ, ◌<◌, List, get_or, sym, ap, ◌∙◌, subst, arith}
use Rattle.std.specs.Prelude.{Result, Ok, Err, Some, None, MatchResult}
use Rattle.std.specs.Result.{result_ok}
use Rattle.format.proofs.Tests.{each}
use Rattle.station_bytes.proofs.Bytes.{tested-length, tested-format, tested-layout, tested-bad, tested-clash, tested-good, tested-its_format, tested-codes, same_bytes}
use Rattle.station_bytes.proofs.SoundState.read.Goals as goal

-- what a `Result` says of the value that it has, and of the error where it has none
of_value : {T E : Type 0} (P : T → Type 0) (Q : E → Type 0) (r : Result T E) {x : T} → Some x ≡ result_ok r → MatchResult r P Q → P x
of_value P Q (Ok y) {x} e h = let same : y ≡ x = cc in subst P same h
of_value P Q (Err y) e h = cc

of_error : {T E : Type 0} (P : T → Type 0) (Q : E → Type 0) (r : Result T E) → None ≡ result_ok r → MatchResult r P Q → (y : E) × Q y
of_error P Q (Ok y) e h = cc
of_error P Q (Err y) e h = (y, h)

pub returns-in_err-state : goal.returns-in_err-state
returns-in_err-state c =
    let e = of_error _ _ c.try_into.result c.in_err-state.ensures.value c.try_into.ensures.1 in
    rw c.from_residual.ensures (tested-length c.args.state.now (λ i. omega (arith, c.type_inv.state i)) e.1)

pub returns-in_err-format : goal.returns-in_err-format
returns-in_err-format c =
    let s = (of_value _ _ c.try_into.result c.in_ok-state.ensures.value c.try_into.ensures.1).same in
    let e = of_error _ _ c.try_from.result c.in_err-format.ensures.value c.try_from.ensures in
    rw c.from_residual-in_err-format.ensures (tested-format c.args.state.now (λ i. omega (arith, c.type_inv.state i)) (λ format q. e.1.1 format (q ∙ ap (λ (l : List ℕ). get_or l 128 0) (sym s))))

pub returns-then-layout-ne-LAYOUT : goal.returns-then-layout-ne-LAYOUT
returns-then-layout-ne-LAYOUT c =
    let s = (of_value _ _ c.try_into.result c.in_ok-state.ensures.value c.try_into.ensures.1).same in
    tested-layout c.args.state.now (λ i. omega (arith, c.type_inv.state i)) (λ q. c.if-layout-ne-LAYOUT.true (ap (λ (l : List ℕ). get_or l 129 0) s ∙ q))

pub returns-in_err-codes : goal.returns-in_err-codes
returns-in_err-codes c =
    let w = of_value _ _ c.try_into.result c.in_ok-state.ensures.value c.try_into.ensures.1 in
    let format = of_value _ _ c.try_from.result c.in_ok-format.ensures.value c.try_from.ensures in
    rw c.from_residual-in_err-codes.ensures
    (tested-bad c.args.state.now (λ i. omega (arith, c.type_inv.state i)) w.long (ap (λ (l : List ℕ). get_or l 129 0) (sym w.same) ∙ c.if-layout-ne-LAYOUT.false) _ (format ∙ ap (λ (l : List ℕ). get_or l 128 0) w.same) _ (rw w.same at c.in_err-codes.ensures))

pub returns-then-clash : goal.returns-then-clash
returns-then-clash c =
    let w = of_value _ _ c.try_into.result c.in_ok-state.ensures.value c.try_into.ensures.1 in
    let format = of_value _ _ c.try_from.result c.in_ok-format.ensures.value c.try_from.ensures in
    tested-clash c.args.state.now (λ i. omega (arith, c.type_inv.state i)) w.long (ap (λ (l : List ℕ). get_or l 129 0) (sym w.same) ∙ c.if-layout-ne-LAYOUT.false) _ (format ∙ ap (λ (l : List ℕ). get_or l 128 0) w.same) _
    (rw w.same at c.in_ok-codes.ensures) c.if-clash.ensures

pub invariant_of-result : goal.invariant_of-result
invariant_of-result c =
    let w = of_value _ _ c.try_into.result c.in_ok-state.ensures.value c.try_into.ensures.1 in
    let state = c.args.state.now in
    let bytes : (i : ℕ) → get_or state i 0 < 256 = λ i. omega (arith, c.type_inv.state i) in
    let layout = ap (λ (l : List ℕ). get_or l 129 0) (sym w.same) ∙ c.if-layout-ne-LAYOUT.false in
    let format = of_value _ _ c.try_from.result c.in_ok-format.ensures.value c.try_from.ensures ∙ ap (λ (l : List ℕ). get_or l 128 0) w.same in
    let codes = rw w.same at c.in_ok-codes.ensures in
    let is = tested-good state bytes w.long layout _ format _ codes c.if-clash.ensures in
    rw w.same
    (record {
      bytes = bytes;
      is_station = is;
      same = same_bytes state bytes (each _ is).0;
      its_format = tested-its_format state bytes w.long layout _ format c.in_ok-codes.codes;
      its_codes = tested-codes state bytes w.long layout _ format _ codes;
    })
