-- The letters of a program by their place, and an entry's number order by order. Assumes nothing.
use Prim.Native.Nat.{ℕ, suc, ◌+◌, ◌-◌, ◌*◌, ◌≤◌, ◌<◌}
use mathlib.Core.Path.{◌≡◌, sym, ap, ◌∙◌}
use mathlib.Core.List.{List, ◌∷◌}
use native.Mathlib.Omega.{arith}
use lib.ListN.{length, get_or, drop, drop_of_length-le}
use lib.Seq.{drop-cons}
use Rattle.paper.specs.Rewriting.{Letter, completion, occurrence}
use Rattle.paper.specs.Reaction.{Program}
use Rattle.paper.specs.Discovery.{letters}
use Rattle.layout.proofs.Ranged.{letters-length, module-letter, event-letter}
use Rattle.emit.specs.Entries.{orders_from}
use Rattle.engine.specs.Live.{Letters}

module _ (q : Program) (ms es : List ℕ) (i : Letters q ms es) where
  pub letters-long : length (letters q) ≡ length ms + length es
  letters-long = omega (arith, letters-length q, ap length i.modules_are, ap length i.events_are)

  drop-letter : (j : ℕ) (l : Letter) → j < length ms + length es → get_or (letters q) j (completion 0) ≡ l → drop j (letters q) ≡ l ∷ drop (j + 1) (letters q)
  drop-letter j l h e =
      let z : suc j ≡ j + 1 = omega arith in
      drop-cons (letters q) j (completion 0) (omega (arith, letters-long))
      ∙ (ap (λ (k : Letter). k ∷ drop (suc j) (letters q)) e ∙ ap (λ (k : ℕ). l ∷ drop k (letters q)) z)

  pub drop-module : (j m : ℕ) → j < length ms → m ≡ get_or ms j 0 → drop j (letters q) ≡ completion m ∷ drop (j + 1) (letters q)
  drop-module j m h e =
      drop-letter j (completion m) (omega arith)
      (module-letter q j (completion 0) (omega (arith, ap length i.modules_are))
      ∙ ap completion (ap (λ (xs : List ℕ). get_or xs j 0) i.modules_are ∙ sym e))

  pub drop-event : (j e : ℕ) → j < length ms + length es → length ms ≤ j → e ≡ get_or es (j - length ms) 0 → drop j (letters q) ≡ occurrence e ∷ drop (j + 1) (letters q)
  drop-event j e h k d =
      let z : j ≡ length q.modules + (j - length ms) = omega (arith, ap length i.modules_are) in
      drop-letter j (occurrence e) h
      (ap (λ (n : ℕ). get_or (letters q) n (completion 0)) z
      ∙ (event-letter q (j - length ms) (completion 0) (omega (arith, ap length i.events_are))
      ∙ ap occurrence (ap (λ (xs : List ℕ). get_or xs (j - length ms) 0) i.events_are ∙ sym d)))

module _ (os : List ℕ) where
  orders-on : (n i m : ℕ) → i < length os → m ≡ 4 * n + get_or os i 0 → orders_from n (drop i os) ≡ orders_from m (drop (suc i) os)
  unfolding orders_from
  orders-on n i m h e = ap (orders_from n) (drop-cons os i 0 h) ∙ ap (λ (k : ℕ). orders_from k (drop (suc i) os)) (sym e)

  pub orders-eight : length os ≡ 8 → (n a b c d e f g h : ℕ) → a ≡ 4 * n + get_or os 0 0 → b ≡ 4 * a + get_or os 1 0 → c ≡ 4 * b + get_or os 2 0 → d ≡ 4 * c + get_or os 3 0 → e ≡ 4 * d + get_or os 4 0 → f ≡ 4 * e + get_or os 5 0 → g ≡ 4 * f + get_or os 6 0 → h ≡ 4 * g + get_or os 7 0 → h ≡ orders_from n os
  unfolding orders_from
  orders-eight l n a b c d e f g h p₀ p₁ p₂ p₃ p₄ p₅ p₆ p₇ =
      sym
      (orders-on n 0 a (omega arith) p₀
      ∙ (orders-on a 1 b (omega arith) p₁
      ∙ (orders-on b 2 c (omega arith) p₂
      ∙ (orders-on c 3 d (omega arith) p₃
      ∙ (orders-on d 4 e (omega arith) p₄
      ∙ (orders-on e 5 f (omega arith) p₅
      ∙ (orders-on f 6 g (omega arith) p₆
      ∙ (orders-on g 7 h (omega arith) p₇
      ∙ ap (orders_from h) (drop_of_length-le os {i = 8} (omega arith))))))))))
