use Rattle.std.proofs.Common.{◌≡◌, ◌∙◌, sym, ap, not, length, arith}
use Rattle.std.proofs.lemmas.Result.{err_from_is_err_and}
use Rattle.slot.proofs.CodeLaws.{unsound, sound_codes, scanned_none, scanned_some, sought_unsound, sought_key}
use Rattle.slot.proofs.seek.Goals as goal

pub returns-in_err-codes : goal.returns-in_err-codes
returns-in_err-codes c =
    let a = c.args in
    let sixteen : length a.slots ≡ 16 = omega arith in
    let name = c.in_err-codes.field-0.0 in
    let none = scanned_none a.format a.slots c.sound_codes.result c.sound_codes.ensures name (sym c.ok_or.ensures.value ∙ c.in_err-codes.was) in
    let err = err_from_is_err_and c.from_residual.result c.from_residual.ensures.1 in
    let same : err.0 ≡ name = err.2 in
    rw (err.1, same, none.1) (sought_unsound _ _ a.key (unsound a.format a.slots sixteen none.0))

pub returns-then-clash : goal.returns-then-clash
returns-then-clash c =
    let a = c.args in
    let sixteen : length a.slots ≡ 16 = omega arith in
    let some = scanned_some a.format a.slots _ c.sound_codes.ensures _ (sym c.ok_or.ensures.value ∙ c.in_ok-codes.was) in
    let told = sound_codes a.format a.slots sixteen _ some.0 some.1 in
    sought_unsound _ _ _ (told ∙ ap not (sym c.clash.ensures ∙ c.if-clash.true))

pub returns : goal.returns
returns c =
    let a = c.args in
    let sixteen : length a.slots ≡ 16 = omega arith in
    let some = scanned_some a.format a.slots _ c.sound_codes.ensures _ (sym c.ok_or.ensures.value ∙ c.in_ok-codes.was) in
    let told = sound_codes a.format a.slots sixteen _ some.0 some.1 in
    sought_key a.format a.slots a.key _ _ some.0 some.1 (told ∙ ap not (sym c.clash.ensures ∙ c.if-clash.false)) c.find_key.ensures
