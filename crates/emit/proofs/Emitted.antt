-- Bytes whose front bits are a table's bits and zeros to a whole byte are the table's bytes, and those behind are as they were: bits determine bytes.
-- Assumes nothing.
use Prim.Native.Nat.{ℕ, zero, suc, ◌+◌, ◌-◌, ◌*◌, ◌/◌, ◌≤◌, ◌<◌}
use mathlib.Core.Path.{◌≡◌, sym, ap, ap₂, ◌∙◌, subst}
use mathlib.Core.Bool.{Bool}
use mathlib.Core.List.{List, [], ◌∷◌, ◌++◌}
use native.Mathlib.Nat.{mul_comm}
use native.Mathlib.Omega.{arith}
use lib.Dec.{lit<}
use lib.ListN.{length, take, drop, replicate, length-drop, take-append-drop}
use lib.Seq.{take_at, length-take-le, get_or-drop}
use Rattle.paper.specs.Lists.{gather}
use Rattle.paper.specs.Table.{Table, bits, packed, table_bits, written}
use Rattle.paper.specs.IsTable.{bits_of}
use Rattle.fields.specs.Window.{Bytes}
use Rattle.fields.specs.Runs.{Appended, Puts}
use Rattle.fields.specs.declared.FieldWriter.{FieldWriter}
use Rattle.fields.proofs.Bits.{bits_of-length, bits_of-append, bits_of-drop}
use Rattle.fields.proofs.Packed.{packed-is}
use Rattle.fields.proofs.Runs.{puts_then}
use Rattle.fields.proofs.Unique.{bits-inj}
use Rattle.layout.proofs.Places.{end-le}
use Rattle.emit.specs.Entries.{Tells}
use Rattle.emit.specs.Fills.{Emits, kind_bits, head_of, entry_word, filled}
use Rattle.emit.proofs.Told.{part_bits, told}

bytes_drop : (n : ℕ) (s : List ℕ) → Bytes s → Bytes (drop n s)
bytes_drop n s h i = subst (λ (x : ℕ). x < 256) (sym (get_or-drop n s i 0)) (h (n + i))

bytes_take : (n : ℕ) (s : List ℕ) → Bytes s → Bytes (take n s)
bytes_take zero s h i = lit< tt
bytes_take (suc n) [] h i = h i
bytes_take (suc n) (x ∷ xs) h zero = h 0
bytes_take (suc n) (x ∷ xs) h (suc i) = bytes_take n xs (λ j. h (suc j)) i

front-bits : (r : ℕ) (s : List ℕ) → r ≤ length s → take (8 * r) (bits_of s) ≡ bits_of (take r s)
front-bits r s h =
    let l : length (bits_of (take r s)) ≡ 8 * r = bits_of-length (take r s) ∙ ap (λ (n : ℕ). 8 * n) (length-take-le r s h) in
    ap (take (8 * r)) (ap bits_of (sym (take-append-drop r s)) ∙ bits_of-append (take r s) (drop r s)) ∙ take_at (bits_of (take r s)) (bits_of (drop r s)) (8 * r) l

back-same : (d e : List ℕ) (r : ℕ) → Bytes d → Bytes e → length e ≡ length d → drop (8 * r) (bits_of e) ≡ drop (8 * r) (bits_of d) → drop r e ≡ drop r d
back-same d e r hd he l q =
    let b : bits_of (drop r e) ≡ bits_of (drop r d) = sym (bits_of-drop r e) ∙ ap (λ (n : ℕ). drop n (bits_of e)) (mul_comm r 8) ∙ q ∙ ap (λ (n : ℕ). drop n (bits_of d)) (mul_comm 8 r) ∙ bits_of-drop r d in
    let k : length (drop r e) ≡ length (drop r d) = length-drop r e ∙ ap (λ (n : ℕ). n - r) l ∙ sym (length-drop r d) in
    bits-inj (drop r e) (drop r d) k (bytes_drop r e he) (bytes_drop r d hd) b

pub packs : (d e bs : List ℕ) (k r : ℕ) → Bytes d → Bytes e → length e ≡ length d → r ≤ length d → k < 8 → Appended d e 0 (bs ++ replicate k 0) (8 * r)
    → (r ≡ length (packed bs)) × (e ≡ packed bs ++ drop (length (packed bs)) d)
packs d e bs k r hd he l h hk p =
    let hr : r ≤ length e = omega arith in
    let w : packed bs ≡ take r e = packed-is (take r e) bs k (bytes_take r e he) hk (sym (front-bits r e hr) ∙ p.done) in
    let n : r ≡ length (packed bs) = sym (ap length w ∙ length-take-le r e hr) in (
      n,
      sym (take-append-drop r e) ∙ ap₂ (λ (x y : List ℕ). x ++ y) (sym w) (back-same d e r hd he l p.rest ∙ ap (λ (x : ℕ). drop x d) n),
    )

-- ---- emit

-- the last bit of any table lies within the room
pub emit-end : {ms es : List ℕ} {states n o : ℕ} (at : ℕ) → Emits ms es states n o → at ≡ 24 + 6 * (length ms + length es)
    → at + states * (length ms + length es) * (10 + 2 * length ms) ≤ 213112
emit-end {ms} {es} {states} at h e = omega (arith, end-le (length ms) (length es) states h.few_modules h.few_events h.few_states)

-- x is what the last writer leaves
pub emitted : {u v₁ v₂ v₃ v₄ v₅ v₆ w : FieldWriter} {ms es rs ns x : List ℕ} {fs : List Bool} {states n₁ n₂ n₃ n₄ n₅ n₆ n₇ : ℕ}
    → Puts u v₁ (head_of (length ms) (length es) states) n₁
    → Puts v₁ v₂ (gather (bits 5) ms) n₂
    → Puts v₂ v₃ (gather (bits 5) es) n₃
    → Puts v₃ v₄ (gather (kind_bits fs) es) n₄
    → Puts v₄ v₅ (gather (bits 1) (take (length ms) rs)) n₅
    → Puts v₅ v₆ (gather (entry_word (length ms)) (take (states * (length ms + length es)) ns)) n₆
    → Puts v₆ w (replicate (8 * filled v₆.bit - v₆.bit) 0) n₇ → w.bit ≡ 8 * filled v₆.bit → x ≡ w.out.now
    → u.bit ≡ 0 → Bytes u.out.now → Bytes x → filled v₆.bit ≤ length u.out.now → (t : Table) → Tells t ms es fs rs states ns
    → (w.bit / 8 ≡ length (written t)) × (x ≡ written t ++ drop (length (written t)) u.out.now)
unfolding written
emitted {u} {v₆ = v} {w} {ms} {es} {rs} {ns} {x} {fs} {states} p₁ p₂ p₃ p₄ p₅ p₆ p₇ e xe hu hb hx l t q =
    let bs : List ℕ = part_bits ms es fs rs states ns in
    let k : ℕ = 8 * filled v.bit - v.bit in
    let all = puts_then (puts_then (puts_then (puts_then (puts_then (puts_then p₁ p₂) p₃) p₄) p₅) p₆) p₇ in
    let run : Appended u.out.now w.out.now 0 (bs ++ replicate k 0) (8 * filled v.bit) =
    subst (λ (n : ℕ). Appended u.out.now w.out.now n (bs ++ replicate k 0) (8 * filled v.bit)) hu (subst (Appended u.out.now w.out.now u.bit (bs ++ replicate k 0)) e all.appended)
    in
    let r = packs u.out.now x bs k (filled v.bit) hb hx (ap length xe ∙ all.same_length) l (omega arith) (subst (λ (y : List ℕ). Appended u.out.now y 0 (bs ++ replicate k 0) (8 * filled v.bit)) (sym xe) run) in
    let f : w.bit / 8 ≡ filled v.bit = omega arith in
    let g : bs ≡ table_bits t = sym (told t ms es fs rs states ns q) in
    (f ∙ r.0 ∙ ap (λ (b : List ℕ). length (packed b)) g, r.1 ∙ ap (λ (b : List ℕ). packed b ++ drop (length (packed b)) u.out.now) g)
