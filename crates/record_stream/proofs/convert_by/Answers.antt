-- By cases on the form: each is the contract of the conversion that is called.
use Rattle.record_stream.proofs.Parts.{went_back, went_on}
use Rattle.record_stream.proofs.convert_by.Goals as goal

pub returns-in-Old-clause-walks : goal.returns-in-Old-clause-walks
returns-in-Old-clause-walks c = search went_back

pub returns-in-This-clause-walks : goal.returns-in-This-clause-walks
returns-in-This-clause-walks c = search went_on
