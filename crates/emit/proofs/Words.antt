-- The bits of an entry's number are the entry's bits: a number made by appending orders has their bits behind its own, and the zeros behind the last
-- module's order are shifted out. Assumes nothing.
use Prim.Native.Nat.{ℕ, zero, suc, ◌+◌, ◌-◌, ◌*◌, ◌/◌, ◌^◌, ◌≤◌, ◌<◌}
use mathlib.Core.Path.{◌≡◌, refl, sym, ap, ap₂, ◌∙◌, subst}
use mathlib.Core.Bool.{Bool, true, false, cond}
use mathlib.Core.List.{List, [], ◌∷◌, ◌++◌, append_assoc, append-nil}
use native.Mathlib.Nat.{mul_assoc, lt_of_lt_of_le}
use native.Mathlib.Omega.{arith}
use lib.ListN.{length, get_or, take, replicate, length-append, length-replicate, get_or-replicate, take-append-drop, replicate-append-replicate}
use lib.Seq.{take_at, ext_get_or}
use lib.Pow.{pow-add, shr-shr, shl-shr}
use Rattle.paper.specs.Lists.{gather}
use Rattle.paper.specs.Table.{Entry, flag, bits, entry_bits}
use Rattle.paper.specs.Calls.{eight}
use Rattle.fields.specs.Runs.{Puts}
use Rattle.fields.specs.declared.FieldWriter.{FieldWriter}
use Rattle.fields.proofs.Bits.{bits-take, bits-drop, bits-join}
use Rattle.layout.specs.InRange.{EntryInRange}
use Rattle.layout.proofs.Parts.{entry-parts}
use Rattle.emit.specs.Entries.{orders_from, entry_number}
use Rattle.emit.specs.Fills.{entry_word}
use Rattle.fields.proofs.Runs.{puts_then}

-- ---- an entry's bits in three parts

bits-split : (a b v : ℕ) → bits (a + b) v ≡ bits a (v / 2 ^ b) ++ bits b v
bits-split a b v = sym (take-append-drop a (bits (a + b) v)) ∙ ap₂ (λ (l r : List ℕ). l ++ r) (bits-take a b v) (bits-drop a b v)

word_split : (n v : ℕ) → n ≤ 8 → bits 10 (v / 2 ^ 16) ++ bits n (v / 2 ^ (16 - n)) ++ bits n (v / 2 ^ (16 - 2 * n)) ≡ entry_word n v
word_split n v h =
    let q : ℕ = v / 2 ^ (16 - 2 * n) in
    let e : 10 + 2 * n ≡ 10 + n + n = omega arith in
    let f : 16 - 2 * n + n ≡ 16 - n = omega arith in
    let g : 16 - n + n ≡ 16 = omega arith in
    let x : q / 2 ^ n ≡ v / 2 ^ (16 - n) = shr-shr v (16 - 2 * n) n ∙ ap (λ (k : ℕ). v / 2 ^ k) f in
    let y : q / 2 ^ n / 2 ^ n ≡ v / 2 ^ 16 = ap (λ (k : ℕ). k / 2 ^ n) x ∙ shr-shr v (16 - n) n ∙ ap (λ (k : ℕ). v / 2 ^ k) g in
    sym
    (ap (λ (k : ℕ). bits k q) e ∙ bits-split (10 + n) n q
    ∙ ap (λ (l : List ℕ). l ++ bits n q) (bits-split 10 n (q / 2 ^ n) ∙ ap₂ (λ (a b : ℕ). bits 10 a ++ bits n b) y x))

pub word-put : {u v w x : FieldWriter} (n e : ℕ) → n ≤ 8 → Puts u v (bits 10 (e / 2 ^ 16)) 10 → Puts v w (bits n (e / 2 ^ (16 - n))) n
    → Puts w x (bits n (e / 2 ^ (16 - 2 * n))) n → Puts u x (entry_word n e) (10 + 2 * n)
word-put {u} {v} {w} {x} n e h p q r =
    let f : 10 + n + n ≡ 10 + 2 * n = omega arith in
    subst (λ (l : List ℕ). Puts u x l (10 + 2 * n)) (word_split n e h)
    (subst (Puts u x (bits 10 (e / 2 ^ 16) ++ bits n (e / 2 ^ (16 - n)) ++ bits n (e / 2 ^ (16 - 2 * n)))) f (puts_then (puts_then p q) r))

-- ---- orders behind a number

orders-bits : (w n : ℕ) (os : List ℕ) → ((k : ℕ) → k < length os → get_or os k 0 < 4)
    → bits (w + 2 * length os) (orders_from n os) ≡ bits w n ++ gather (bits 2) os
unfolding orders_from gather
orders-bits w n [] h =
    let e : w + 2 * 0 ≡ w = omega arith in
    ap (λ (k : ℕ). bits k n) e ∙ sym (append-nil (bits w n))
orders-bits w n (o ∷ os) h =
    let e : w + 2 * suc (length os) ≡ w + 2 + 2 * length os = omega arith in
    let f : 4 * n + o ≡ n * 2 ^ 2 + o = omega arith in
    ap (λ (k : ℕ). bits k (orders_from (4 * n + o) os)) e ∙ orders-bits (w + 2) (4 * n + o) os (λ k l. h (suc k) (omega arith))
    ∙ ap (λ (l : List ℕ). l ++ gather (bits 2) os) (ap (bits (w + 2)) f ∙ bits-join w 2 n o (h 0 (omega arith)))
    ∙ append_assoc (bits w n) (bits 2 o) (gather (bits 2) os)

orders-append : (n : ℕ) (xs ys : List ℕ) → orders_from n (xs ++ ys) ≡ orders_from (orders_from n xs) ys
unfolding orders_from
orders-append n [] ys = refl
orders-append n (x ∷ xs) ys = orders-append (4 * n + x) xs ys

orders-zeros : (n k : ℕ) → orders_from n (replicate k 0) ≡ n * 2 ^ (2 * k)
unfolding orders_from
orders-zeros n zero = omega arith
orders-zeros n (suc k) =
    let e : 2 * suc k ≡ 2 + 2 * k = omega arith in
    let f : 4 * n + 0 ≡ n * 4 = omega arith in
    orders-zeros (4 * n + 0) k
    ∙ ap (λ (x : ℕ). x * 2 ^ (2 * k)) f ∙ mul_assoc n 4 (2 ^ (2 * k)) ∙ ap (λ (x : ℕ). n * x) (sym (pow-add 2 2 (2 * k)) ∙ ap (λ (x : ℕ). 2 ^ x) (sym e))

-- ---- eight of them

pub eight_is : (os : List ℕ) → length os ≤ 8 → eight os ≡ os ++ replicate (8 - length os) 0
eight_is os h =
    let k : ℕ = 8 - length os in
    let e : k + length os ≡ 8 = omega arith in
    let l : length (os ++ replicate k 0) ≡ 8 = simp (length-append, length-replicate) (omega arith) in
    ap (λ (x : ℕ). take 8 (os ++ replicate x 0)) (sym e)
    ∙ ap (λ (x : List ℕ). take 8 (os ++ x)) (sym (replicate-append-replicate k (length os) 0))
    ∙ ap (take 8) (sym (append_assoc os (replicate k 0) (replicate (length os) 0))) ∙ take_at (os ++ replicate k 0) (replicate (length os) 0) 8 l

-- the orders of modules that are not there are shifted out
eight-shifted : (n : ℕ) (os : List ℕ) → length os ≤ 8 → orders_from n (eight os) / 2 ^ (16 - 2 * length os) ≡ orders_from n os
eight-shifted n os h =
    let k : ℕ = 8 - length os in
    let e : 16 - 2 * length os ≡ 2 * k = omega arith in
    ap₂ (λ (x y : ℕ). x / 2 ^ y) (ap (orders_from n) (eight_is os h) ∙ orders-append n os (replicate k 0) ∙ orders-zeros (orders_from n os) k) e
    ∙ shl-shr (orders_from n os) (2 * k)

eight-zeros : (m : ℕ) → m ≤ 8 → orders_from 0 (eight (replicate m 0)) ≡ 0
eight-zeros m h =
    let zs : List ℕ = replicate m 0 in
    let l : length zs ≡ m = length-replicate m 0 in
    let e : m + (8 - length zs) ≡ 8 = omega arith in
    ap (orders_from 0) (eight_is zs (omega arith) ∙ replicate-append-replicate m (8 - length zs) 0 ∙ ap (λ (x : ℕ). replicate x 0) e) ∙ orders-zeros 0 8

-- ---- an entry

-- an entry of zeros is the number 0 with no order
number_is : (b : Bool) (next m : ℕ) (os : List ℕ) → length os ≡ m → m ≤ 8 → (b ≡ false → next ≡ 0) → (b ≡ false → (k : ℕ) → k < m → get_or os k 0 ≡ 0)
    → cond b (orders_from (512 + next) (eight os)) 0 ≡ orders_from (flag b * 2 ^ 9 + next) (eight os)
number_is true next m os l h z o =
    let e : 512 + next ≡ 1 * 2 ^ 9 + next = omega arith in
    ap (λ (n : ℕ). orders_from n (eight os)) e
number_is false next m os l h z o =
    let e : 0 ≡ 0 * 2 ^ 9 + next = omega (arith, z refl) in
    let r : os ≡ replicate m 0 =
    ext_get_or 0 os (replicate m 0) (l ∙ sym (length-replicate m 0)) (λ k q. let j : k < m = omega arith in o refl k j ∙ sym (get_or-replicate m k 0 0 j))
    in
    sym (eight-zeros m h) ∙ ap₂ (λ (n : ℕ) (x : List ℕ). orders_from n (eight x)) e (sym r)

pub entry-word : (m n : ℕ) (e : Entry) → m ≤ 8 → n ≤ 512 → EntryInRange m n e → entry_bits e ≡ entry_word m (entry_number e)
unfolding entry_number
entry-word m n e hm hn r =
    let os : List ℕ = e.orders in
    let c : length os ≡ m = r.count in
    let x : ℕ = flag e.possible * 2 ^ 9 + e.next in
    let next : e.next < 2 ^ 9 = lt_of_lt_of_le r.next hn in
    let q : entry_number e / 2 ^ (16 - 2 * m) ≡ orders_from x os =
    ap₂ (λ (a b : ℕ). a / 2 ^ (16 - 2 * b)) (number_is e.possible e.next m os c hm r.zero_next r.zero_order) (sym c) ∙ eight-shifted x os (omega arith)
    in
    entry-parts e ∙ sym (append_assoc (bits 1 (flag e.possible)) (bits 9 e.next) (gather (bits 2) os))
    ∙ ap (λ (l : List ℕ). l ++ gather (bits 2) os) (sym (bits-join 1 9 (flag e.possible) e.next next))
    ∙ sym (orders-bits 10 x os (λ k h. r.order k (omega arith))) ∙ ap₂ (λ (a b : ℕ). bits (10 + 2 * a) b) c (sym q)
