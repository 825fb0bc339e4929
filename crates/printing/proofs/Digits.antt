-- The digits of a number: those of its tenth part and then its last one, whatever the count of digits allowed; a machine number has at most 20 of them.
-- And two hex digits for each byte. Assumes nothing.
use Prim.Native.Nat.{ℕ, zero, suc, ◌+◌, ◌*◌, ◌/◌, ◌%◌, ◌^◌, ◌≤◌, ◌<◌}
use mathlib.Core.Path.{◌≡◌, refl, sym, ap, ◌∙◌}
use mathlib.Core.Bool.{Bool, true, false}
use mathlib.Core.List.{List, [], ◌∷◌, ◌++◌, append_assoc, append-nil}
use native.Mathlib.Numerals.{add-one}
use native.Mathlib.Nat.{pow-suc}
use native.Mathlib.Omega.{arith}
use borrow.Author.Tests.{lt-ltb, le-ltb, ltb-true, ltb-false}
use lib.Dec.{ltb}
use lib.ListN.{length, take, get_or, length-append}
use lib.Seq.{take-suc, length-take-le}
use Rattle.paper.specs.Lists.{gather}
use Rattle.paper.specs.Programs.{digits, decimal, hex_digit, hex}
use Rattle.printing.specs.Lines.{Put}
use Rattle.printing.proofs.Puts.{put-none, put_then}

gather-snoc : {A B : Type 0} (g : A → List B) (xs : List A) (x : A) → gather g (xs ++ (x ∷ [])) ≡ gather g xs ++ g x
unfolding gather
gather-snoc g [] x = append-nil (g x)
gather-snoc g (y ∷ ys) x = ap (λ (l : List _). g y ++ l) (gather-snoc g ys x) ∙ sym (append_assoc (g y) (gather g ys) (g x))

by_size : {A : Type 0} (n : ℕ) → (n < 10 → A) → (10 ≤ n → A) → A
by_size {A} n small large = go (ltb n 10) refl
  where
    go : (b : Bool) → ltb n 10 ≡ b → A
    go true e = small (ltb-true n 10 e)
    go false e = large (ltb-false n 10 e)

digits-small : (few n : ℕ) → n < 10 → digits (suc few) n ≡ (48 + n) ∷ []
unfolding digits
digits-small few n h = rw (lt-ltb n 10 h)

digits-large : (few n : ℕ) → 10 ≤ n → digits (suc few) n ≡ digits few (n / 10) ++ ((48 + n % 10) ∷ [])
unfolding digits
digits-large few n h = rw (le-ltb n 10 h)

-- more digits allowed than the number counts are not used
digits-enough : (few more n : ℕ) → n < few → n < more → digits few n ≡ digits more n
digits-enough zero more n h k = absurd (omega arith)
digits-enough (suc few) zero n h k = absurd (omega arith)
digits-enough (suc few) (suc more) n h k =
    by_size n (λ s. digits-small few n s ∙ sym (digits-small more n s))
    (λ l. digits-large few n l ∙ ap (λ (x : List ℕ). x ++ ((48 + n % 10) ∷ [])) (digits-enough few more (n / 10) (omega arith) (omega arith)) ∙ sym (digits-large more n l))

pub decimal-small : (n : ℕ) → n < 10 → decimal n ≡ (48 + n) ∷ []
unfolding decimal
decimal-small n h = digits-small n n h

pub decimal-large : (n : ℕ) → 10 ≤ n → decimal n ≡ decimal (n / 10) ++ ((48 + n % 10) ∷ [])
unfolding decimal
decimal-large n h =
    digits-large n n h
    ∙ ap (λ (x : List ℕ). x ++ ((48 + n % 10) ∷ [])) (digits-enough n (suc (n / 10)) (n / 10) (omega arith) (omega arith))

digits-none : (n : ℕ) → digits zero n ≡ []
unfolding digits
digits-none n = refl

digits-length : (few k n : ℕ) → n < 10 ^ suc k → length (digits few n) ≤ suc k
digits-length zero k n h = rw (digits-none n) (omega arith)
digits-length (suc few) zero n h = rw (digits-small few n (omega arith)) (omega arith)
digits-length (suc few) (suc k) n h =
    by_size n (λ s. rw (digits-small few n s) (omega arith))
    (λ l. rw (digits-large few n l, length-append) (omega (arith, digits-length few k (n / 10) (omega (arith, pow-suc 10 (suc k))))))

pub decimal-length : (n : ℕ) → n < 2 ^ 64 → length (decimal n) ≤ 20
unfolding decimal
decimal-length n h = digits-length (suc n) 19 n (omega arith)

-- the digits of a number, one piece after the other
pub put_small : {l m : List ℕ} {a r d : ℕ} (n : ℕ) → n < 10 → d ≡ 48 + n → Put l m a (d ∷ []) r → Put l m a (decimal n) r
put_small n h e p = rw (decimal-small n h, ← e) p

pub put-large : {l m o : List ℕ} {a b r d : ℕ} (n : ℕ) → 10 ≤ n → Put l m a (decimal (n / 10)) b → d ≡ 48 + n % 10 → Put m o b (d ∷ []) r → Put l o a (decimal n) r
put-large n h p e q = rw (decimal-large n h, ← e) (put_then p q)

pub decimal-room : (n : ℕ) → 10 ≤ n → length (decimal n) ≡ length (decimal (n / 10)) + 1
decimal-room n h = rw (decimal-large n h, length-append)

pub hex-none : (l : List ℕ) (a : ℕ) (t : List ℕ) → Put l l a (hex (take 0 t)) a
unfolding hex gather
hex-none l a t = put-none l a

hex-more : (t : List ℕ) (i : ℕ) → i < length t → hex (take (i + 1) t) ≡ hex (take i t) ++ (hex_digit (get_or t i 0 / 16) ∷ hex_digit (get_or t i 0 % 16) ∷ [])
unfolding hex
hex-more t i h = rw (add-one i, take-suc t i 0 h, gather-snoc (λ b. hex_digit (b / 16) ∷ hex_digit (b % 16) ∷ []) (take i t) (get_or t i 0))

-- two hex digits of a byte, one after the other
pub put-pair : {l m n o : List ℕ} {a b c r d e : ℕ} (t : List ℕ) (i : ℕ) → i < length t → Put l m a (hex (take i t)) b
    → d ≡ hex_digit (get_or t i 0 / 16) → Put m n b (d ∷ []) c → e ≡ hex_digit (get_or t i 0 % 16) → Put n o c (e ∷ []) r → Put l o a (hex (take (i + 1) t)) r
put-pair t i h p x q y s = rw (hex-more t i h, ← x, ← y) (put_then p (put_then q s))

hex-twice : (t : List ℕ) → length (hex t) ≡ 2 * length t
unfolding hex gather
hex-twice [] = refl
hex-twice (b ∷ t) = let e = hex-twice t in omega arith

pub hex-length : (n : ℕ) (t : List ℕ) → n ≤ length t → length (hex (take n t)) ≡ 2 * n
hex-length n t h = hex-twice (take n t) ∙ ap (λ (k : ℕ). 2 * k) (length-take-le n t h)
