-- `checks::write_checks` meets its contract.
use Rattle.programs.proofs.ChecksSaid.{alist-text, from-alist-text}
use Rattle.programs.proofs.checks.write_checks.Goals as goal

pub returns-in-Alist : goal.returns-in-Alist
returns-in-Alist c = search alist-text

pub returns-in-FromAlist : goal.returns-in-FromAlist
returns-in-FromAlist c = search from-alist-text
