-- `frame::promised`: the proof of each claim.
use Rattle.frame.proofs.CountCodes.{codes_alike}
use Rattle.frame.proofs.Images.{image_is_judged, each_code_is_judged, count_sent, judged_is_image, one_image}
use Rattle.frame.proofs.Lengths.{which_way}
use Rattle.frame.proofs.Verdicts.{one_verdict}
use Rattle.frame.proofs.Bounds.{judging_bounds}
use Rattle.frame.proofs.promised.Goals as goal

pub returns-clause-image_is_judged : goal.returns-clause-image_is_judged
returns-clause-image_is_judged c = image_is_judged

pub returns-clause-codes_alike : goal.returns-clause-codes_alike
returns-clause-codes_alike c = codes_alike

pub returns-clause-each_code_is_judged : goal.returns-clause-each_code_is_judged
returns-clause-each_code_is_judged c = each_code_is_judged

pub returns-clause-count_sent : goal.returns-clause-count_sent
returns-clause-count_sent c = count_sent

pub returns-clause-which_way : goal.returns-clause-which_way
returns-clause-which_way c = which_way

pub returns-clause-judged_is_image : goal.returns-clause-judged_is_image
returns-clause-judged_is_image c = judged_is_image

pub returns-clause-one_image : goal.returns-clause-one_image
returns-clause-one_image c = one_image

pub returns-clause-one_verdict : goal.returns-clause-one_verdict
returns-clause-one_verdict c = one_verdict

pub returns-clause-judging_bounds : goal.returns-clause-judging_bounds
returns-clause-judging_bounds c = judging_bounds
