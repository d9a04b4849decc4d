-- `lister::Listing::end` meets its contract: the text that was put is copied to the output, or does not end within it (Calling).
use Rattle.std.proofs.Common.{sym, ◌∙◌}
use Rattle.lister.proofs.Placing.{all_of, size_of}
use Rattle.lister.proofs.Calling.{within_room, too_long}
use Rattle.lister.proofs.Listing.end.Goals as goal

pub returns-then-copy_in : goal.returns-then-copy_in
returns-then-copy_in c =
    let a = c.args in
    let p = c.put_end-n in
    let added = p.ensures in
    let w = within_room a.self a.rest.now a.output.now p.result _ (all_of added) (size_of added) (sym c.copy_in.ensures.value ∙ c.if-copy_in.true) _ c.copy_in.ensures.target_after in
    record { result_value = w.0; output_after = w.1 }

pub returns : goal.returns
returns c =
    let a = c.args in
    let p = c.put_end-n in
    let added = p.ensures in
    let w = too_long a.self a.rest.now a.output.now p.result _ (all_of added) (size_of added) (sym c.copy_in.ensures.value ∙ c.if-copy_in.false) _ c.copy_in.ensures.target_after in
    record { result_value = w.0; output_after = w.1 }
