-- `lister::promised`: each claim with its proof, in the order of the contract.
use Rattle.lister.proofs.Soundness.{stays_sound}
use Rattle.lister.proofs.InParts.{in_parts_lem, printed_so}
use Rattle.lister.proofs.Answers.{one_why}
use Rattle.lister.proofs.Examples.{listing_examples, listing_bounds}
use Rattle.lister.proofs.promised.Goals as goal

pub returns-clause-listing_stays_sound : goal.returns-clause-listing_stays_sound
returns-clause-listing_stays_sound c = stays_sound

pub returns-clause-in_parts : goal.returns-clause-in_parts
returns-clause-in_parts c = in_parts_lem

pub returns-clause-printed : goal.returns-clause-printed
returns-clause-printed c = printed_so

pub returns-clause-one_why : goal.returns-clause-one_why
returns-clause-one_why c = one_why

pub returns-clause-listing_examples : goal.returns-clause-listing_examples
returns-clause-listing_examples c = listing_examples

pub returns-clause-listing_bounds : goal.returns-clause-listing_bounds
returns-clause-listing_bounds c = listing_bounds
