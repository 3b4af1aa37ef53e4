-- `checks::put_checks` meets its contract.
use Rattle.outlines.proofs.ChecksWritten.{checks-of-checks, checks-of-generator}
use Rattle.outlines.proofs.checks.put_checks.Goals as goal

pub returns-in-G : goal.returns-in-G
returns-in-G c = search checks-of-generator

pub returns-in-H : goal.returns-in-H
returns-in-H c = search checks-of-checks
