-- `lister::put_line` meets its contract: a line in its ranges is never refused where 96 bytes are left (Placing).
use Rattle.lister.proofs.Placing.{never_refused, line_added}
use Rattle.lister.proofs.put_line.Goals as goal

pub returns-in-Ok : goal.returns-in-Ok
returns-in-Ok c =
    let a = c.args in let p = c.requires in
    line_added a.line a.output.now a.at p.0 p.1 _ _ c.in-Ok.ensures.result_value c.in-Ok.ensures.output_after

pub returns-in-Err : goal.returns-in-Err
returns-in-Err c =
    let a = c.args in let p = c.requires in
    absurd (never_refused a.line a.output.now a.at p.0 p.1 _ c.in-Err.ensures.result_value)
