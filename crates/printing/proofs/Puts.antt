-- A line written piece by piece is one write of all its bytes: what is written stands behind what stood before, and nothing behind it changes.
-- Assumes nothing.
use Prim.Native.Nat.{ℕ, suc, ◌+◌, ◌-◌, ◌≤◌, ◌<◌}
use mathlib.Core.Path.{◌≡◌, refl, sym, ap, ◌∙◌}
use mathlib.Core.List.{List, [], ◌∷◌, ◌++◌, append_assoc, append-nil}
use native.Mathlib.Numerals.{add-one}
use native.Mathlib.Omega.{arith}
use lib.ListN.{length, take, drop, set, get_or, length-append, take-append-drop}
use lib.Seq.{take-suc, take-suc-set, drop-set-lt, drop-drop}
use Rattle.printing.specs.Lines.{Put}

pub put-none : (l : List ℕ) (a : ℕ) → Put l l a [] a
put-none l a = record { place = omega arith; done = sym (append-nil (take a l)); rest = refl }

-- one byte
pub put_one : (l : List ℕ) (a b : ℕ) → a < length l → Put l (set l a b) a (b ∷ []) (a + 1)
put_one l a b h =
    rw (add-one a) (record { place = omega arith; done = take-suc-set l a b h; rest = drop-set-lt (suc a) l a b (omega arith) })

-- two pieces, one after the other, are one
pub put_then : {l m n : List ℕ} {a b c : ℕ} {bs cs : List ℕ} → Put l m a bs b → Put m n b cs c → Put l n a (bs ++ cs) c
put_then {l} {m} {n} {a} {b} {c} {bs} {cs} p q =
    let long : length (bs ++ cs) ≡ length bs + length cs = length-append bs cs in
    let pe = p.place in
    let qe = q.place in
    let k : b + (c - b) ≡ c = omega arith in
    record {
      place = omega arith;
      done = q.done ∙ ap (λ (x : List ℕ). x ++ cs) p.done ∙ append_assoc (take a l) bs cs;
      rest = q.rest ∙ ap (λ (i : ℕ). drop i m) (sym k) ∙ sym (drop-drop (c - b) b m) ∙ ap (drop (c - b)) p.rest ∙ drop-drop (c - b) b l ∙ ap (λ (i : ℕ). drop i l) k;
    }

-- one byte more of a list that is copied
pub put-more : {l m n : List ℕ} {a b c : ℕ} (t : List ℕ) (i : ℕ) → i < length t → Put l m a (take i t) b → Put m n b (get_or t i 0 ∷ []) c → Put l n a (take (i + 1) t) c
put-more t i h p q = rw (add-one i, take-suc t i 0 h) (put_then p q)

-- the whole line: from its front on, the bytes that were put, and what stood behind them
pub put_whole : {l m bs : List ℕ} {r : ℕ} → Put l m 0 bs r → m ≡ bs ++ drop (length bs) l
put_whole {l} {m} {bs} {r} p =
    let e : r ≡ length bs = omega (arith, p.place) in
    sym (take-append-drop r m) ∙ ap (λ (x : List ℕ). x ++ drop r m) p.done ∙ ap (λ (x : List ℕ). bs ++ x) p.rest ∙ ap (λ (i : ℕ). bs ++ drop i l) e

-- what is put from the front on is as long as the place behind it says
pub put-long : {l m bs : List ℕ} {r : ℕ} → Put l m 0 bs r → r ≡ length (take r m)
put-long {l} {m} {bs} {r} p =
    let e : length (take r m) ≡ length bs = ap length p.done in
    omega (arith, p.place)

pub put-within : {l m bs : List ℕ} {r : ℕ} → Put l m 0 bs r → r ≤ length m
put-within {l} {m} {bs} {r} p = omega (arith, put-long p, ap length (take-append-drop r m), length-append (take r m) (drop r m))
