-- The cap and No. 18: what is over 8,192 is so when capped, and only that. Assumes nothing.
use Prim.Native.Nat.{ℕ}
use mathlib.Core.Path.{◌≡◌, ◌∙◌, sym}
use native.Mathlib.Omega.{arith}
use lib.Dec.{ltb}
use borrow.Author.Tests.{lt-ltb, le-ltb}
use Rattle.words.proofs.Marks.{by-lt}
use Rattle.parts.specs.Parts.{capped}

pub capped-over : (n : ℕ) → ltb 8192 (capped n) ≡ ltb 8192 n
capped-over n =
    by-lt 8192 n (λ h. lt-ltb 8192 (capped n) (omega arith) ∙ sym (lt-ltb 8192 n h))
    (λ h. le-ltb 8192 (capped n) (omega arith) ∙ sym (le-ltb 8192 n h))
