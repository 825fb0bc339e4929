-- A loop that puts the bits of one element a turn puts the bits of all, and what `pad` puts are zeros. Assumes nothing.
use Prim.Native.Nat.{ℕ, zero, suc, ◌+◌, ◌-◌, ◌*◌, ◌%◌, ◌^◌, ◌≤◌, ◌<◌}
use mathlib.Core.Path.{◌≡◌, refl, sym, ap, ap₂, ◌∙◌, subst}
use mathlib.Core.Bool.{Bool, true, false}
use mathlib.Core.List.{List, [], ◌∷◌, ◌++◌, append-nil}
use native.Mathlib.Nat.{zero-div, mul-le-mul_right}
use native.Mathlib.Omega.{arith}
use native.Mathlib.Numerals.{add-one}
use mir.Val.{bool_byte}
use lib.ListN.{length, get_or, take, replicate}
use lib.Seq.{take-suc, take-length}
use Rattle.paper.specs.Lists.{gather}
use Rattle.paper.specs.Table.{bits, flag}
use Rattle.fields.specs.Runs.{Appended, Puts}
use Rattle.fields.specs.declared.FieldWriter.{FieldWriter}
use Rattle.fields.proofs.Runs.{appended_then, puts_then, puts-none}
use Rattle.layout.proofs.Lists.{gather_append}
use Rattle.layout.proofs.Places.{turn}
use Rattle.emit.specs.Fills.{filled}

-- one run of writes after the other
pub and_then : {d e f : List ℕ} {a b c : ℕ} {fs gs : List ℕ} → Appended d e a fs b → Appended e f b gs c → Appended d f a (fs ++ gs) c
and_then {d} {e} {f} {a} {b} {c} {fs} {gs} p q = appended_then d e f a b c fs gs p q

-- a flag as a number
pub flag_is : (b : Bool) → bool_byte b ≡ flag b
flag_is true = refl
flag_is false = refl

gather-one : (g : ℕ → List ℕ) (x : ℕ) → gather g (x ∷ []) ≡ g x
unfolding gather
gather-one g x = append-nil (g x)

-- the first i of xs are put, n bits for each
pub record Going (g : ℕ → List ℕ) (xs : List ℕ) (n : ℕ) (u v : FieldWriter) (i : ℕ) : Type 0 where
  pub put : Puts u v (gather g (take i xs)) (i * n)

pub going-none : (g : ℕ → List ℕ) (xs : List ℕ) (n : ℕ) (w : FieldWriter) → Going g xs n w w 0
unfolding gather
going-none g xs n w = let e : 0 ≡ 0 * n = omega arith in record { put = subst (Puts w w []) e (puts-none w) }

pub going-more : {g : ℕ → List ℕ} {xs : List ℕ} {n : ℕ} {u v w : FieldWriter} {i : ℕ} {bs : List ℕ} → Going g xs n u v i → i < length xs → bs ≡ g (get_or xs i 0)
    → Puts v w bs n → Going g xs n u w (i + 1)
going-more {g} {xs} {n} {u} {v} {w} {i} {bs} h l q p =
    let s : gather g (take i xs) ++ bs ≡ gather g (take (i + 1) xs) =
    ap (λ (r : List ℕ). gather g (take i xs) ++ r) (q ∙ sym (gather-one g (get_or xs i 0))) ∙ sym (gather_append g (take i xs) (get_or xs i 0 ∷ []))
    ∙ ap (gather g) (sym (take-suc xs i 0 l) ∙ ap (λ (j : ℕ). take j xs) (sym (add-one i)))
    in
    let e : i * n + n ≡ (i + 1) * n = omega (arith, turn i n) in
    record { put = subst (λ (r : List ℕ). Puts u w r ((i + 1) * n)) s (subst (Puts u w (gather g (take i xs) ++ bs)) e (puts_then h.put p)) }

-- k turns are the first k elements
pub going_end : {g : ℕ → List ℕ} {xs : List ℕ} {n : ℕ} {u v : FieldWriter} {i : ℕ} (k z : ℕ) → Going g xs n u v i → i ≡ k → z ≡ k * n → Puts u v (gather g (take k xs)) z
going_end {g} {xs} {n} {u} {v} {i} k z h q e =
    subst (Puts u v (gather g (take k xs))) (sym e) (subst (λ (j : ℕ). Puts u v (gather g (take j xs)) (j * n)) q h.put)

-- as many turns as there are elements are all of them
pub going-all : {g : ℕ → List ℕ} {xs : List ℕ} {n : ℕ} {u v : FieldWriter} {i : ℕ} (z : ℕ) → Going g xs n u v i → i ≡ length xs → z ≡ length xs * n → Puts u v (gather g xs) z
going-all {g} {xs} {n} {u} {v} {i} z h q e =
    subst (λ (l : List ℕ). Puts u v (gather g l) z) (take-length xs) (going_end (length xs) z h q e)

-- a turn more stays within what k turns put
pub going-room : (n k : ℕ) {g : ℕ → List ℕ} {xs : List ℕ} {u v : FieldWriter} {i : ℕ} → Going g xs n u v i → i < k → v.bit + n ≤ u.bit + k * n
going-room n k {g} {xs} {u} {v} {i} h l =
    let o = h.put.ends in
    let m : (i + 1) * n ≤ k * n = mul-le-mul_right n (omega arith) in
    omega (arith, turn i n)

pub zero_bits : (w : ℕ) → bits w 0 ≡ replicate w 0
unfolding bits
zero_bits zero = refl
zero_bits (suc w) = ap₂ (λ (b : ℕ) (l : List ℕ). (b % 2) ∷ l) (zero-div (2 ^ w)) (zero_bits w)

-- zeros to a whole byte
pub padded : (v w : FieldWriter) → Puts v w (bits ((8 - v.bit % 8) % 8) 0) ((8 - v.bit % 8) % 8)
    → Puts v w (replicate (8 * filled v.bit - v.bit) 0) (8 * filled v.bit - v.bit)
padded v w p =
    let k : (8 - v.bit % 8) % 8 ≡ 8 * filled v.bit - v.bit = omega arith in
    subst (λ (n : ℕ). Puts v w (replicate n 0) n) k (subst (λ (l : List ℕ). Puts v w l ((8 - v.bit % 8) % 8)) (zero_bits ((8 - v.bit % 8) % 8)) p)
