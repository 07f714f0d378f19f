-- The days of the code's table are those of the list's rows after the first.
use Rattle.utc.proofs.Steps.{step_days, tai_count}
use Rattle.utc.proofs.tai_minus_utc.Goals as goal

pub returns-clause-seconds : goal.returns-clause-seconds
unfolding step_days
returns-clause-seconds c = tai_count _ _ c.steps_begun.ensures
