-- `parse` is right, and alone so: it answers what document 01 says of any bytes, and whatever answers so answers as `parse` does. Bytes are the text
-- of one program at most, of none where they stop, and they stop at one place.
-- Assumes nothing.
use Prim.Native.Nat.{ℕ, suc, ◌≤◌, ◌<◌}
use mathlib.Core.List.{List, ◌++◌}
use mathlib.Core.Path.{◌≡◌, sym, ap, subst, ◌∙◌}
use native.Mathlib.Decide.{dec_lt}
use native.Mathlib.Omega.{arith}
use lib.ListN.{length, take, drop, take-append-drop}
use lib.Seq.{take-length, take-take}
use Rattle.paper.specs.Grammar.{Sequence, printed, IsProgram, Begins, Stops, wrong, short}
use Rattle.paper.specs.Parse.{Parsed, program, stops, Says, Right, Code, Out, done, bad, program_q, run, top, no_sequence, empty, builds, answer, parse}
use Rattle.laws.proofs.Posted.{builds-post}
use Rattle.laws.proofs.ParseComplete.{parse-printed}
use Rattle.laws.proofs.ParseHole.{begun-begins, begun-front}
use Rattle.laws.proofs.ParseSound.{Answers, run-answers}

pub parse-right : Right parse
unfolding parse answer
parse-right v = go (run v program_q 0) (run-answers v)
  where
    go : (r : Out) → Answers v r → Says v (answer r)
    go (done x) a = a.1 ∙ ap printed (sym (ap (λ (y : List Code). top no_sequence (builds y empty).sequences) a.2 ∙ ap (top no_sequence) (builds-post a.0)))
    go (bad p) a = a

pub parse-program : (v : List ℕ) (s : Sequence) → parse v ≡ program s → v ≡ printed s
parse-program v s e = subst (Says v) e (parse-right v)

-- ---- the place is one

stops-none : {v : List ℕ} {p : ℕ} → Stops v p → IsProgram v → ⊥
stops-none {v} (wrong {p} l b n) d = n (drop (suc p) v, (d.0, take-append-drop (suc p) v ∙ d.1))
stops-none (short b n) d = n d

stops-within : {v : List ℕ} {p : ℕ} → Stops v p → p ≤ length v
stops-within (wrong l b n) = omega arith
stops-within (short b n) = omega arith

stops-begins : {v : List ℕ} {p : ℕ} → Stops v p → Begins (take p v)
stops-begins (wrong l b n) = b
stops-begins {v} (short b n) = rw take-length b

-- what begins a program does so up to every earlier place
begins-earlier : (v : List ℕ) (m n : ℕ) → m ≤ n → Begins (take n v) → Begins (take m v)
begins-earlier v m n l b =
    let e : take n v ≡ take m v ++ drop m (take n v) = sym (take-append-drop m (take n v)) ∙ ap (λ (u : List ℕ). u ++ drop m (take n v)) (take-take m n v l) in
    begun-begins {v = take m v} (begun-front (drop m (take n v)) e (record { rest = b.0; all = b.1.0; text = b.1.1 }))

stops-past : {v : List ℕ} {p : ℕ} (q : ℕ) → Stops v p → p < q → q ≤ length v → Begins (take q v) → ⊥
stops-past {v} q (wrong {p} l b n) h k d = n (begins-earlier v (suc p) q h d)
stops-past q (short b n) h k d = omega arith

stops-le : {v : List ℕ} {p q : ℕ} → Stops v p → Stops v q → q ≤ p
stops-le {v} {p} {q} a b = go (dec_lt p q)
  where
    go : Dec (p < q) → q ≤ p
    go (yes l) = absurd (stops-past q a l (stops-within b) (stops-begins b))
    go (no l) = omega arith

pub stops-one : {v : List ℕ} {p q : ℕ} → Stops v p → Stops v q → p ≡ q
stops-one a b = omega (arith, stops-le a b, stops-le b a)

-- ---- whatever is right answers as `parse` does

pub right-one : (v : List ℕ) (r : Parsed) → Says v r → r ≡ parse v
right-one v (program s) e = sym (ap parse e ∙ parse-printed s)
right-one v (stops p) h = go (parse v) (parse-right v)
  where
    go : (r : Parsed) → Says v r → stops p ≡ r
    go (program s) e = absurd (stops-none h (s, e))
    go (stops q) k = ap stops (stops-one h k)

pub one-parse : (f : List ℕ → Parsed) → Right f → (v : List ℕ) → f v ≡ parse v
one-parse f r v = right-one v (f v) (r v)
