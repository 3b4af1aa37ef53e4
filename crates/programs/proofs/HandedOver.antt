-- Theorem: where a run of trellis ends with 0 or 1, the lines that it handed over, in order, are the listing of its input.
use lib.ListN.{length}
use mathlib.Core.Bool.{Bool}
use mathlib.Core.List.{List}
use mathlib.Core.Path.{refl, subst, sym}
use Prim.Native.Nat.{ℕ}
use Rattle.programs.specs.declared.endings.Ending.{Ending}
use Rattle.programs.specs.declared.endings.Ending.TheVariants.{Listed, Refused, Unwritten}
use Rattle.programs.specs.Ending.{Ends, EndsAs, Took}
use Rattle.programs.specs.Input.{Whole}
use Rattle.programs.specs.Printing.{AllLines, InPlace}
use Rattle.reports.specs.Report.{Lists, Reports, joined}

-- lines handed over, each in its place, as many as all lines are: they are the report
pub handed-reports : (read whole : List ℕ) (handed : List (List ℕ)) → InPlace read handed → AllLines read whole (length handed) → Reports whole handed
handed-reports read whole handed x a = subst (Reports whole) (sym (a.only handed refl x)) a.reports

ends-all : (read whole : List ℕ) (e : Ending) (count : ℕ) → EndsAs read whole e → Took e count → AllLines read whole count
ends-all read whole (Listed sent) count x t = subst (AllLines read whole) (sym t) x.0
ends-all read whole (Refused q sent) count x t = subst (AllLines read whole) (sym t) x.0
ends-all read whole Unwritten count x t = absurd t

-- the bytes handed over, line after line, are the listing of the whole input
pub handed-is-listing : (ended : Bool) (read : List ℕ) (e : Ending) → Ends ended read e → (handed : List (List ℕ)) → InPlace read handed
    → Took e (length handed) → (whole : List ℕ) → Whole ended read whole → Lists whole (joined handed)
handed-is-listing ended read e x handed p t whole w = record {
  lines = handed;
  reports = handed-reports read whole handed p (ends-all read whole e (length handed) (x.is whole w) t);
  bytes = refl;
}
