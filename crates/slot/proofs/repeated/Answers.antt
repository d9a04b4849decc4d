use Rattle.std.proofs.Common.{◌∙◌, sym, arith}
use Rattle.slot.specs.Codes.{is}
use Rattle.slot.proofs.Rows.{any_turn, any_none}
use Rattle.slot.proofs.repeated.Goals as goal

pub loop-other-preserved : goal.loop-other-preserved
loop-other-preserved c =
    let l = c.loop-other in l.invariant ∙ any_turn (is c.args.code) c.args.codes.now l.other-index 0 l.hit (omega arith)

pub returns : goal.returns
returns c = let l = c.loop-other in sym (l.invariant ∙ any_none (is c.args.code) c.args.codes.now l.other-index l.hit (omega arith))
