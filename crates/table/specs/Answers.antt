-- What the answers of start and step mean. Document 01, "Forms for parts of the code":
--     "Where an answer is an enum, a definition gives this paper's number and values for every case, and the promises use that definition."
--     stepped r             an answer as the outcome of `paper`
--     fields_from t at w n   n fields of w bits side by side
-- Assumes nothing.
use Rattle.std.specs.Prelude.{ℕ, ◌+◌, ◌*◌, List, [], map, Result, Ok, Err}
use Rattle.paper.specs.Lists.{below}
use Rattle.paper.specs.IsTable.{field}
use Rattle.paper.specs.Calls.{Stepped, eight}
use Rattle.refusals.specs.declared.Refusal.{Refusal}
use Rattle.refusals.specs.Refusals.{number_of}
use Rattle.table.specs.declared.Answer.{Answer}

-- "A refusal gives number and place, all else zero"
abbrev pub stepped : Result Answer Refusal → Stepped
stepped (Ok a) = record { number = 0; place = 0; state = a.state; orders = a.orders }
stepped (Err r) = record { number = number_of r.reason; place = r.place; state = 0; orders = eight [] }

unfoldable pub fields_from : List ℕ → (at w n : ℕ) → List ℕ
fields_from t at w n = map (λ k. field t (at + w * k) w) (below n)
