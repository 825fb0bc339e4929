-- One check after another: what the code found is what the paper's check finds. Assumes nothing.
use Prim.Native.Nat.{ℕ}
use mathlib.Core.Path.{◌≡◌, ap, ◌∙◌}
use mathlib.Core.Option.{Option}
use Rattle.paper.specs.File.{Answer, unless}
use Rattle.paper.specs.Reaction.{Program}
use Rattle.limits.specs.declared.Checked.{Checked}
use Rattle.limits.specs.Checks.{checked}

pub then_is : (r s : Checked) (n : ℕ) {o : Option ℕ} (p : Option ℕ) (a : Answer Program)
    → checked s a ≡ checked r (unless o n a) → o ≡ p → checked s a ≡ checked r (unless p n a)
then_is r s n p a e q = e ∙ ap (λ (x : Option ℕ). checked r (unless x n a)) q
