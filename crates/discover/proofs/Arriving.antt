-- The states found, by their bytes: a state of the written set stands where its bytes do, so what is enrolled by its bytes is what discovery finds.
-- Assumes nothing.
use Prim.Native.Nat.{ℕ, suc, ◌+◌, ◌≤◌, ◌<◌}
use mathlib.Core.Path.{◌≡◌, refl, sym, ap, subst, ◌∙◌}
use mathlib.Core.Bool.{Bool, true, false, true≢false}
use mathlib.Core.List.{List, [], ◌∷◌, ◌++◌, map, map-append}
use mathlib.Core.Logic.{⊎_elim}
use native.Mathlib.Omega.{arith}
use lib.Dec.{T}
use lib.ListN.{length, length-append, length-map}
use Rattle.paper.specs.Lists.{choose, eq_l}
use Rattle.paper.specs.Rewriting.{Letter}
use Rattle.paper.specs.Reaction.{Program, State, possible, reaction}
use Rattle.paper.specs.Discovery.{eq_s, has_s}
use Rattle.paper.specs.Table.{number_of, entry_of}
use Rattle.paper.specs.Calls.{eight}
use Rattle.paper.proofs.Choices.{by-test, clash}
use Rattle.paper.proofs.Stays.{T_true}
use Rattle.paper.proofs.Equal.{eq_s-sound, eq_s-refl, eq_l-sound, eq_l-refl}
use Rattle.laws.proofs.Letters.{false-not}
use Rattle.laws.proofs.Members.{Has, has-head, has-tail, has-cases, has-append, has-none}
use Rattle.coding.specs.Written.{Written}
use Rattle.coding.specs.Code.{code}
use Rattle.coding.proofs.Fit.{Fit}
use Rattle.coding.proofs.Coded.{code_one}
use Rattle.layout.proofs.Ranged.{number-has, number-listed, number-front}
use Rattle.emit.specs.Entries.{orders_from, entry_number}
use Rattle.slots.specs.declared.Enrolled.{Enrolled}
use Rattle.slots.specs.Slots.{Holds, number_in, enrolled, Enrolls, Full}
use Rattle.slots.proofs.Enrolling.{enrolled-known, enrolled-new}
use Rattle.discover.specs.Finding.{entered, met, Numbered, Seen, Arrives}
use Rattle.discover.proofs.Turning.{after, finds-one}

same_tests : (a b : Bool) → (T a → T b) → (T b → T a) → a ≡ b
same_tests true true h k = refl
same_tests true false h k = absurd (h tt)
same_tests false true h k = absurd (k tt)
same_tests false false h k = refl

-- each of the states is in the written set
abbrev AllWritten : Program → List State → Type 0
AllWritten q ss = (s : State) → Has s ss → Written q s

module _ (q : Program) (f : Fit q) where
  same_code : (n s : State) → Written q n → Written q s → eq_l (code q n) (code q s) ≡ eq_s n s
  same_code n s v w =
      same_tests (eq_l (code q n) (code q s)) (eq_s n s)
      (λ t. subst (λ (x : State). T (eq_s n x)) (code_one q f n s v w (eq_l-sound (code q n) (code q s) t)) (eq_s-refl n))
      (λ t. subst (λ (x : State). T (eq_l (code q n) (code q x))) (eq_s-sound n s t) (eq_l-refl (code q n)))

  pub number-code : (n : State) (ss : List State) → Written q n → AllWritten q ss → number_in (code q n) (map (code q) ss) ≡ number_of n ss
  unfolding number_in number_of
  number-code n [] v w = refl
  number-code n (s ∷ ss) v w =
      ap (λ (b : Bool). choose b (λ u. 0) (λ u. suc (number_in (code q n) (map (code q) ss)))) (same_code n s v (w s (has-head s s ss (eq_s-refl s))))
      ∙ ap (λ (k : ℕ). choose (eq_s n s) (λ u. 0) (λ u. suc k)) (number-code n ss v (λ x h. w x (has-tail x s ss h)))

  module _ (n : State) (ss : List State) (v : Written q n) (w : AllWritten q ss) where
    -- it is there
    pub enrolled-old : Has n ss → enrolled (map (code q) ss) (code q n) ≡ map (code q) ss
    enrolled-old h =
        enrolled-known (map (code q) ss) (code q n) (omega (arith, number-code n ss v w, number-has n ss h, length-map ss (code q)))

    -- it is not
    pub enrolled-fresh : (Has n ss → ⊥) → length ss < 512 → enrolled (map (code q) ss) (code q n) ≡ map (code q) (ss ++ n ∷ [])
    enrolled-fresh h k =
        enrolled-new (map (code q) ss) (code q n)
        (λ z. h (number-listed n ss (omega (arith, number-code n ss v w, length-map ss (code q)))))
        (λ z. omega (arith, length-map ss (code q)))
        ∙ sym (map-append (code q) ss (n ∷ []))

-- the number of a new state
pub number-fresh : (n : State) (ss more : List State) → (Has n ss → ⊥) → number_of n ((ss ++ n ∷ []) ++ more) ≡ length ss
unfolding number_of
number-fresh n [] more h = ap (λ (b : Bool). choose b (λ u. 0) (λ u. suc (number_of n more))) (same_tests (eq_s n n) true (λ u. tt) (λ u. eq_s-refl n))
number-fresh n (s ∷ ss) more h =
    ap (λ (b : Bool). choose b (λ u. 0) (λ u. suc (number_of n ((ss ++ n ∷ []) ++ more))))
    (same_tests (eq_s n s) false (λ t. h (has-head n s ss t)) (λ u. absurd u))
    ∙ ap suc (number-fresh n ss more (λ k. h (has-tail n s ss k)))

-- a state that is not there
number-none : (s : State) (xs : List State) → (Has s xs → ⊥) → number_of s xs ≡ length xs
unfolding number_of
number-none s [] h = refl
number-none s (x ∷ xs) h =
    ap (λ (b : Bool). choose b (λ u. 0) (λ u. suc (number_of s xs))) (same_tests (eq_s s x) false (λ t. h (has-head s x xs t)) (λ u. absurd u))
    ∙ ap suc (number-none s xs (λ k. h (has-tail s x xs k)))

number-most : (s : State) (xs : List State) → number_of s xs ≤ length xs
unfolding number_of
number-most s [] = omega arith
number-most s (x ∷ xs) =
    by-test (λ k. k ≤ length (x ∷ xs)) (eq_s s x) (λ u. 0) (λ u. suc (number_of s xs)) (λ t. omega arith) (λ t. omega (arith, number-most s xs))

has_one : (s x : State) → Has s (x ∷ []) → s ≡ x
has_one s x h = ⊎_elim (λ t. eq_s-sound s x t) (λ k. absurd (has-none s k)) (has-cases s x [] h)

true-holds : (b : Bool) → b ≡ true → T b
true-holds true e = tt
true-holds false e = absurd (true≢false (sym e))

-- ---- one letter

module _ (q : Program) (f : Fit q) (x : State) (l : Letter) (ss : List State) where
  abbrev n : State
  n = (reaction q l x).state

  met-none : possible l x ≡ false → met q x (l ∷ []) ss ≡ ss
  unfolding after
  met-none e = finds-one q x l ss ∙ ap (λ (b : Bool). choose b (λ u. choose (has_s n ss) (λ v. ss) (λ v. ss ++ n ∷ [])) (λ u. ss)) e

  met-old : possible l x ≡ true → has_s n ss ≡ true → met q x (l ∷ []) ss ≡ ss
  unfolding after
  met-old e h =
      finds-one q x l ss
      ∙ (ap (λ (b : Bool). choose b (λ u. choose (has_s n ss) (λ v. ss) (λ v. ss ++ n ∷ [])) (λ u. ss)) e
      ∙ ap (λ (b : Bool). choose b (λ v. ss) (λ v. ss ++ n ∷ [])) h)

  met-new : possible l x ≡ true → has_s n ss ≡ false → met q x (l ∷ []) ss ≡ ss ++ n ∷ []
  unfolding after
  met-new e h =
      finds-one q x l ss
      ∙ (ap (λ (b : Bool). choose b (λ u. choose (has_s n ss) (λ v. ss) (λ v. ss ++ n ∷ [])) (λ u. ss)) e
      ∙ ap (λ (b : Bool). choose b (λ v. ss) (λ v. ss ++ n ∷ [])) h)

  entered-none : possible l x ≡ false → (all : List State) → entered q all x l ≡ 0
  unfolding entry_of entry_number
  entered-none e all =
      ap
      (λ (b : Bool).
      entry_number (choose b
      (λ u. record { possible = true; next = number_of n all; orders = (reaction q l x).does })
      (λ u. record { possible = false; next = 0; orders = map (λ m. 0) q.modules })))
      e

  entered-next : possible l x ≡ true → (all : List State) → entered q all x l ≡ orders_from (512 + number_of n all) (eight (reaction q l x).does)
  unfolding entry_of entry_number
  entered-next e all =
      ap
      (λ (b : Bool).
      entry_number (choose b
      (λ u. record { possible = true; next = number_of n all; orders = (reaction q l x).does })
      (λ u. record { possible = false; next = 0; orders = map (λ m. 0) q.modules })))
      e

  -- not possible: no state more, an entry of zeros
  pub arrives-none : (W X : List ℕ) → Seen q W X ss → possible l x ≡ false → (c : ℕ) → length ss ≡ c → Arrives q x l ss W X (record { over = false; count = c; entry = 0 })
  arrives-none W X s e c k = record {
    over = λ o. clash (cc);
    seen = λ o. subst (Seen q W X) (sym (met-none e)) s;
    count_is = λ o. sym k ∙ ap length (sym (met-none e));
    entry_is = λ o more. sym (entered-none e (met q x (l ∷ []) ss ++ more));
  }

  -- it leads back to the state itself, the k-th
  pub arrives_back : (W X : List ℕ) → Seen q W X ss → possible l x ≡ true → n ≡ x → (k : ℕ) → Numbered x ss k → (os : List ℕ) → os ≡ eight (reaction q l x).does → (c b : ℕ) → length ss ≡ c → b ≡ orders_from (512 + k) os → Arrives q x l ss W X (record { over = false; count = c; entry = b })
  arrives_back W X s e i k j os d c b h z =
      let there : Has x ss = number-listed x ss (omega (arith, j.0, j.1)) in
      let m = met-old e (T_true (has_s n ss) (subst (λ (y : State). Has y ss) (sym i) there)) in
      record {
        over = λ o. clash (cc);
        seen = λ o. subst (Seen q W X) (sym m) s;
        count_is = λ o. sym h ∙ ap length (sym m);
        entry_is = λ o more.
            let g : k ≡ number_of n (met q x (l ∷ []) ss ++ more) =
            sym j.0 ∙ (sym (number-front x ss more there)
            ∙ (ap (λ (y : State). number_of y (ss ++ more)) (sym i) ∙ ap (λ (y : List State). number_of n (y ++ more)) (sym m)))
            in
            z ∙ (ap (λ (y : ℕ). orders_from (512 + y) os) g ∙ (ap (orders_from (512 + number_of n (met q x (l ∷ []) ss ++ more))) d
            ∙ sym (entered-next e (met q x (l ∷ []) ss ++ more))));
      }

  module _ (W₀ X₀ : List ℕ) (s : Seen q W₀ X₀ ss) (v : Written q n) (e : possible l x ≡ true) (W X : List ℕ) where
    few : length ss ≤ 512
    few = omega (arith, s.held.few, length-map ss (code q))

    pub arrives-over : Full (map (code q) ss) (code q n) W X → (c b : ℕ) → Arrives q x l ss W X (record { over = true; count = c; entry = b })
    arrives-over t c b = record {
      over = λ o. by-has (has_s n ss) refl;
      seen = λ o. clash (cc);
      count_is = λ o. clash (cc);
      entry_is = λ o. clash (cc);
    }
      where
        its-number : number_of n ss ≡ 512
        its-number = sym (number-code q f n ss v s.written) ∙ t.number_is

        by-has : (d : Bool) → has_s n ss ≡ d → 512 < length (met q x (l ∷ []) ss)
        by-has true k = absurd (omega (arith, number-has n ss (true-holds (has_s n ss) k), its-number, few))
        by-has false k =
            omega (arith, ap length (met-new e k), length-append ss (n ∷ []), its-number, number-most n ss)

    pub arrives-on : (r : Enrolled) → r.number < 512 → Enrolls (map (code q) ss) (code q n) W X r → (os : List ℕ) → os ≡ eight (reaction q l x).does → (b : ℕ) → b ≡ orders_from (512 + r.number) os → Arrives q x l ss W X (record { over = false; count = r.count; entry = b })
    arrives-on r h t os d b z = by-has (has_s n ss) refl
      where
        its-number : r.number ≡ number_of n ss
        its-number = t.number_is ∙ number-code q f n ss v s.written

        entry-from : (m : ℕ) → r.number ≡ m → b ≡ orders_from (512 + m) (eight (reaction q l x).does)
        entry-from m k = z ∙ (ap (λ (i : ℕ). orders_from (512 + i) os) k ∙ ap (orders_from (512 + m)) d)

        by-has : (c : Bool) → has_s n ss ≡ c → Arrives q x l ss W X (record { over = false; count = r.count; entry = b })
        by-has true k =
            let a = enrolled-old q f n ss v s.written (true-holds (has_s n ss) k) in
            let m = met-old e k in
            record {
              over = λ o. clash (cc);
              seen = λ o. subst (Seen q W X) (sym m) (record { held = subst (Holds W X) a t.holds; written = s.written });
              count_is = λ o. t.count_is ∙ (ap length a ∙ (length-map ss (code q) ∙ ap length (sym m)));
              entry_is = λ o more.
                  entry-from (number_of n (met q x (l ∷ []) ss ++ more))
                  (its-number
                  ∙ (sym (number-front n ss more (true-holds (has_s n ss) k)) ∙ ap (λ (y : List State). number_of n (y ++ more)) (sym m)))
                  ∙ sym (entered-next e (met q x (l ∷ []) ss ++ more));
            }
        by-has false k =
            let g = false-not (has_s n ss) k in
            let y : number_of n ss ≡ length ss = number-none n ss g in
            let a = enrolled-fresh q f n ss v s.written g (omega (arith, its-number, y)) in
            let m = met-new e k in
            record {
              over = λ o. clash (cc);
              seen = λ o.
                  subst (Seen q W X) (sym m)
                  (record { held = subst (Holds W X) a t.holds; written = λ z u. ⊎_elim (s.written z) (λ w. subst (Written q) (sym (has_one z n w)) v) (has-append z ss (n ∷ []) u) });
              count_is = λ o. t.count_is ∙ (ap length a ∙ (length-map (ss ++ n ∷ []) (code q) ∙ ap length (sym m)));
              entry_is = λ o more.
                  entry-from (number_of n (met q x (l ∷ []) ss ++ more))
                  (its-number
                  ∙ (y
                  ∙ (sym (number-fresh n ss more g) ∙ ap (λ (y : List State). number_of n (y ++ more)) (sym m))))
                  ∙ sym (entered-next e (met q x (l ∷ []) ss ++ more));
            }
