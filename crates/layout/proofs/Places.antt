-- Places in a table: their bound, and one entry after the other. Products are taken apart by the laws of `*`. Assumes nothing.
use Prim.Native.Nat.{ℕ, ◌+◌, ◌*◌, ◌≤◌, ◌<◌}
use mathlib.Core.Path.{◌≡◌, sym, ap, ◌∙◌}
use native.Mathlib.Nat.{add-mul, one-mul, mul_assoc, mul_comm, add_assoc, mul-le-mul, mul-le-mul_right}
use native.Mathlib.Omega.{arith}
use Rattle.layout.specs.Places.{place}

pub turn : (k w : ℕ) → (k + 1) * w ≡ k * w + w
turn k w = add-mul k 1 w ∙ ap (λ (n : ℕ). k * w + n) (one-mul w)

pub letters-le : (m n s : ℕ) → m ≤ 8 → n ≤ 8 → s ≤ 512 → s * (m + n) ≤ 8192
letters-le m n s hm hn hs = mul-le-mul {n₂ = 512} {m₂ = 16} hs (omega arith)

pub entries-le : (m n s l : ℕ) → m ≤ 8 → n ≤ 8 → s ≤ 512 → l ≤ 16 → (s * (m + n) + l) * (10 + 2 * m) ≤ 213408
entries-le m n s l hm hn hs hl = mul-le-mul {n₂ = 8208} {m₂ = 26} (omega (arith, letters-le m n s hm hn hs)) (omega arith)

pub end-le : (m n s : ℕ) → m ≤ 8 → n ≤ 8 → s ≤ 512 → place m n s 0 ≤ 213112
end-le m n s hm hn hs =
    let l = letters-le m n s hm hn hs in
    let p : (s * (m + n) + 0) * (10 + 2 * m) ≤ 8192 * 26 = mul-le-mul {n₂ = 8192} {m₂ = 26} (omega arith) (omega arith) in
    omega arith

pub run-le : (m d : ℕ) → m ≤ 8 → d ≤ 16 → m * (10 + d) ≤ 208
run-le m d hm hd = mul-le-mul {n₂ = 8} {m₂ = 26} hm (omega arith)

pub row-le : (m n : ℕ) → m ≤ 8 → n ≤ 8 → (m + n) * (10 + 2 * m) ≤ 416
row-le m n hm hn = mul-le-mul {n₂ = 16} {m₂ = 26} (omega arith) (omega arith)

-- the entries of a state, one after the other
pub row-place : (m n s l : ℕ) → 24 + 6 * (m + n) + s * ((m + n) * (10 + 2 * m)) + l * (10 + 2 * m) ≡ place m n s l
row-place m n s l =
    let w : ℕ = 10 + 2 * m in
    add_assoc (24 + 6 * (m + n)) (s * ((m + n) * w)) (l * w)
    ∙ ap (λ (k : ℕ). 24 + 6 * (m + n) + k) (ap (λ (k : ℕ). k + l * w) (sym (mul_assoc s (m + n) w)) ∙ sym (add-mul (s * (m + n)) l w))

pub row-place-add : (m n s k : ℕ) → 24 + 6 * (m + n) + s * ((m + n) * (10 + 2 * m)) + m * (10 + 2 * m) + k * (10 + 2 * m) ≡ place m n s (m + k)
row-place-add m n s k =
    let w : ℕ = 10 + 2 * m in
    let a : ℕ = 24 + 6 * (m + n) + s * ((m + n) * w) in
    add_assoc a (m * w) (k * w) ∙ ap (λ (x : ℕ). a + x) (sym (add-mul m k w)) ∙ row-place m n s (m + k)

-- some letters further
pub place-add : (m n s l k : ℕ) → place m n s l + k * (10 + 2 * m) ≡ place m n s (l + k)
place-add m n s l k =
    let w : ℕ = 10 + 2 * m in
    let a : ℕ = 24 + 6 * (m + n) in
    let x : ℕ = s * (m + n) in
    add_assoc a ((x + l) * w) (k * w) ∙ ap (λ (i : ℕ). a + i) (sym (add-mul (x + l) k w) ∙ ap (λ (i : ℕ). i * w) (add_assoc x l k))

-- an entry lies before the end of all
pub entry-within : (m n s l c : ℕ) → s < c → l < m + n → place m n s l + (10 + 2 * m) ≤ place m n c 0
entry-within m n s l c hs hl =
    let w : ℕ = 10 + 2 * m in
    let a : (s + 1) * (m + n) ≤ c * (m + n) = mul-le-mul_right (m + n) (omega arith) in
    let b : (s * (m + n) + l + 1) * w ≤ (c * (m + n) + 0) * w = mul-le-mul_right w (omega (arith, a, turn s (m + n))) in
    omega (arith, b, turn (s * (m + n) + l) w)

-- a state's entries lie before the end of all
pub row_within : (m n s c : ℕ) → s < c
    → 24 + 6 * (m + n) + s * ((m + n) * (10 + 2 * m)) + (m + n) * (10 + 2 * m) ≤ place m n c 0
row_within m n s c hs =
    let r : ℕ = (m + n) * (10 + 2 * m) in
    let a : (s + 1) * r ≤ c * r = mul-le-mul_right r (omega arith) in
    omega (arith, a, turn s r, row-place m n c 0)

-- and so does where a state's letters end
pub place-le : (m n s l c : ℕ) → s < c → l ≤ m + n → place m n s l ≤ place m n c 0
place-le m n s l c hs hl =
    let w : ℕ = 10 + 2 * m in
    let a : (s + 1) * (m + n) ≤ c * (m + n) = mul-le-mul_right (m + n) (omega arith) in
    let b : (s * (m + n) + l) * w ≤ (c * (m + n) + 0) * w = mul-le-mul_right w (omega (arith, a, turn s (m + n))) in
    omega (arith, b)

pub turn-right : (w k : ℕ) → w * (k + 1) ≡ w * k + w
turn-right w k = mul_comm w (k + 1) ∙ turn k w ∙ ap (λ (n : ℕ). n + w) (mul_comm k w)
