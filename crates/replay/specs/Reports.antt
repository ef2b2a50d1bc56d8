-- What is printed of cases that were replayed. Definitions only. Assumes nothing.
use Rattle.std.specs.Prelude.{ℕ, List, ◌++◌, codes, decimal}
use Rattle.replay.specs.declared.report.Total.{Total}

-- the line of a case that differs
abbrev pub case_text : List ℕ → ℕ → List ℕ
case_text name case = name ++ codes ": case " ++ decimal case ++ codes " differs\n"

-- how many cases there are, and how many of them differ
abbrev pub count_text : Total → List ℕ
count_text t = decimal t.cases ++ codes " cases, " ++ decimal t.differing ++ codes " differ"

-- the line of a file
abbrev pub total_text : List ℕ → Total → List ℕ
total_text name t = name ++ codes ": " ++ count_text t ++ codes "\n"
