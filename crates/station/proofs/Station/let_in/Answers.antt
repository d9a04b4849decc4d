use Rattle.std.proofs.Common.{◌≡◌, sym, ◌∙◌, ap, arith, rules}
use Rattle.std.proofs.lemmas.Result.{err_from_is_err_and}
use Rattle.format.specs.Refusals.{Returned}
use Rattle.frame.specs.declared.Head.{Head}
use Rattle.frame.specs.Judge.{meaning}
use Rattle.slot.specs.declared.Key.{Key}
use Rattle.slot.proofs.CodeLaws.{sought_found}
use Rattle.station.proofs.Turning.{in_state, in_judged}
use Rattle.station.proofs.Station.let_in.Goals as goal

pub returns-in_err-place : goal.returns-in_err-place
returns-in_err-place c =
    let a = c.args in
    let p = err_from_is_err_and c.from_residual.result c.from_residual.ensures.1 in
    rw (p.1, p.2) (in_state a.self.now a.store.now a.bus a.image.now _ _ (sym c.in_err-place.was ∙ c.seek.ensures))

pub returns-in_err-judged : goal.returns-in_err-judged
returns-in_err-judged c =
    let a = c.args in
    let f = sought_found _ _ _ _ (sym c.in_ok-place.was ∙ c.seek.ensures) in
    let p = err_from_is_err_and c.from_residual-in_err-judged.result c.from_residual-in_err-judged.ensures.1 in
    rw (p.1, p.2) (ap (λ (v : Returned Head). meaning v a.image.now) (sym c.in_err-judged.was) ∙ c.judge-judged.ensures ∙ in_judged a.self.now a.store.now a.bus a.image.now f.0 (omega arith) (omega arith))

pub returns : goal.returns
returns c =
    let a = c.args in
    let head = c.in_ok-judged.field-0 in
    let h = rw c.in_ok-judged.was at c.map_or-fields.ensures in
    let k : c.map_or-fields.result ≡ head.fields = search rules in
    let key : Key = record { bus = a.bus; fields = c.map_or-fields.result } in
    let f = sought_found a.self.now.format a.self.now.slots key c.in_ok-place.place (sym c.in_ok-place.was ∙ c.seek.ensures) in (
      ap (λ (v : Returned Head). meaning v a.image.now) (sym c.in_ok-judged.was)
          ∙ c.judge-judged.ensures
          ∙ in_judged a.self.now a.store.now a.bus a.image.now f.0 (omega arith) (omega arith),
      rw k at f.1,
    )
