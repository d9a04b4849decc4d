use Rattle.std.proofs.Common.{sym, ◌∙◌}
use Rattle.std.proofs.lemmas.Result.{err_from_is_err_and}
use Rattle.slot.specs.Slots.{has_key}
use Rattle.slot.proofs.CodeLaws.{sought_found}
use Rattle.station.proofs.Handing.{open_state, open-taken, open_found, somewhere, nowhere}
use Rattle.station.proofs.Station.vacancy.Goals as goal

pub returns-in_err-place : goal.returns-in_err-place
returns-in_err-place c =
    let p = err_from_is_err_and c.from_residual.result c.from_residual.ensures.1 in
    rw (p.1, p.2) (open_state c.args.self.now c.args.key _ (sym c.in_err-place.was ∙ c.seek.ensures))

pub returns-then-is_some : goal.returns-then-is_some
returns-then-is_some c =
    let s = c.args.self.now in
    let f = sought_found s.format s.slots c.args.key _ (sym c.in_ok-place.was ∙ c.seek.ensures) in
    open-taken s c.args.key f.0 (sym c.key_in_range.ensures ∙ c.if-not-key_in_range.false)
    (somewhere s.format s.slots (has_key c.args.key) f.0 _ f.1 (sym c.is_some.ensures ∙ c.if-is_some.true))

pub returns : goal.returns
returns c =
    let s = c.args.self.now in
    let f = sought_found s.format s.slots c.args.key _ (sym c.in_ok-place.was ∙ c.seek.ensures) in
    rw c.ok_or.ensures.value
    (open_found s c.args.key f.0 (sym c.key_in_range.ensures ∙ c.if-not-key_in_range.false)
    (nowhere s.format s.slots (has_key c.args.key) f.0 _ f.1 (sym c.is_some.ensures ∙ c.if-is_some.false)) _ c.first_closed.ensures)
