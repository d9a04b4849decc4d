use Rattle.filter.proofs.Claims.{in_image}
use Rattle.filter.proofs.Examples.{filter_examples}
use Rattle.filter.proofs.promised.Goals as goal

pub returns-clause-in_image : goal.returns-clause-in_image
returns-clause-in_image c = in_image

pub returns-clause-filter_examples : goal.returns-clause-filter_examples
returns-clause-filter_examples c = filter_examples
