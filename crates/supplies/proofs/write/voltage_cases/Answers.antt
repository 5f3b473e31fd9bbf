-- `supplies::write::voltage_cases` meets its contract. Assumes nothing.
use Rattle.supplies.proofs.Written.{cases_are}
use Rattle.supplies.proofs.write.voltage_cases.Goals as goal

pub returns : goal.returns
returns c = (c.cases.ensures.0, cases_are _ _ _ _ c.cases.ensures.1)
