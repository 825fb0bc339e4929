-- From the readers to `parse`: the machine started at a place of the file goes as from place 0, with its place moved (`run-shift`), so a sequence, `.` and
-- the end are a program, and whatever stops the machine is No. 8's place.
-- Assumes nothing.
use Prim.Native.Nat.{ℕ, ◌+◌, ◌≤◌, ◌<◌}
use mathlib.Core.Bool.{Bool, true, false, cond}
use mathlib.Core.List.{List, [], ◌∷◌, append-nil}
use mathlib.Core.Path.{◌≡◌, refl, sym, ap, subst, ◌∙◌}
use native.Mathlib.Nat.{add-zero, add_assoc}
use native.Mathlib.Omega.{arith}
use lib.Dec.{eqb}
use lib.ListN.{length, drop, get_or, drop_of_length-le}
use Rattle.paper.specs.Bytes.{dot_mark}
use Rattle.paper.specs.Grammar.{Sequence}
use Rattle.paper.specs.Parse.{program, stops, Code, Sym, s_dot, Fed, off, to, Out, done, bad, program_q, feed, pre, ending, run, top, no_sequence, answer, parse}
use Rattle.laws.specs.Placed.{placed_s, size}
use Rattle.laws.proofs.Posted.{post_s, builds-post}
use Rattle.laws.proofs.ParseComplete.{fed_to}
use Rattle.syntax.specs.Store.{Store, store}
use Rattle.syntax.specs.Readers.{sequence_s, stack_of, SaysAt, SaysBad}
use Rattle.syntax.specs.Outcome.{IsRead, StopsAt, TextSays, Outcome}
use Rattle.syntax.specs.declared.Got.{Got}
use Rattle.syntax.specs.declared.Got.TheVariants.{At, Bad}
use Rattle.syntax.proofs.Steps.{byte-in, run_at, step-to, step-bad}

-- ---- the machine from another place

abbrev shift : ℕ → Out → Out
shift a (done x) = done x
shift a (bad p) = bad (a + p)

shift-pre : (a : ℕ) (o : List Code) (r : Out) → pre o (shift a r) ≡ shift a (pre o r)
shift-pre a o (done x) = refl
shift-pre a o (bad p) = refl

shift-ending : (K : List Sym) (a i : ℕ) → ending K (a + i) ≡ shift a (ending K i)
shift-ending [] a i = refl
shift-ending (k ∷ K) a i = refl

run-shift : (w : List ℕ) (K : List Sym) (a i : ℕ) → run w K (a + i) ≡ shift a (run w K i)
unfolding run
run-shift [] K a i = shift-ending K a i
run-shift (b ∷ w) K a i = go (feed K b) (λ L. ap (run w L) (add_assoc a i 1) ∙ run-shift w L a (i + 1))
  where
    go : (f : Fed) → ((L : List Sym) → run w L (a + i + 1) ≡ shift a (run w L (i + 1))) → fed_to w (a + i) f ≡ shift a (fed_to w i f)
    go off h = refl
    go (to L x) h = ap (pre x) (h L) ∙ shift-pre a x (run w L (i + 1))

run-from : (v : List ℕ) (at : ℕ) → run v program_q at ≡ shift at (run v program_q 0)
run-from v at = ap (run v program_q) (sym (add-zero at)) ∙ run-shift v program_q at 0

parsed : (v : List ℕ) (at : ℕ) (q : Sequence) → run v program_q at ≡ done (post_s q) → parse v ≡ program q
unfolding parse answer
parsed v at q e = go (run v program_q 0) (sym (run-from v at) ∙ e)
  where
    go : (r : Out) → shift at r ≡ done (post_s q) → answer r ≡ program q
    go (done x) h = ap answer h ∙ ap (λ (l : List Sequence). program (top no_sequence l)) (builds-post q)
    go (bad p) h = absurd (let z : ◌≡◌ {A = ℕ} 0 1 = cc in omega arith)

stopped : (s : List ℕ) (at p : ℕ) → run (drop at s) program_q at ≡ bad p → StopsAt s at p
unfolding parse answer
stopped s at p e = go (run (drop at s) program_q 0) refl (sym (run-from (drop at s) at) ∙ e)
  where
    go : (r : Out) → run (drop at s) program_q 0 ≡ r → shift at r ≡ bad p → StopsAt s at p
    go (done x) g h = absurd (let z : ◌≡◌ {A = ℕ} 0 1 = cc in omega arith)
    go (bad i) g h = let w : at + i ≡ p = ap (place_of 0) h in
        record { from = omega arith; stopped = ap answer g ∙ ap stops (omega (arith, w)) }
      where
        place_of : ℕ → Out → ℕ
        place_of d (done x) = d
        place_of d (bad k) = k

-- ---- `.` and the end

module _ (s : List ℕ) (n : ℕ) where
  dot-on : eqb (get_or s n 0) dot_mark ≡ true → run (drop n s) (s_dot ∷ []) n ≡ pre [] (run (drop (n + 1) s) [] (n + 1))
  unfolding feed
  dot-on e = step-to s n (s_dot ∷ []) [] [] (byte-in s n dot_mark refl e) (ap (λ (t : Bool). cond t (to [] []) off) e)

  dot-no : eqb (get_or s n 0) dot_mark ≡ false → run (drop n s) (s_dot ∷ []) n ≡ bad n
  unfolding feed
  dot-no e = step-bad s n s_dot [] (ap (λ (t : Bool). cond t (to [] []) off) e)

  end_on : length s ≤ n → run (drop n s) [] n ≡ done []
  unfolding run
  end_on h = rw drop_of_length-le

  end-no : n < length s → run (drop n s) [] n ≡ bad n
  unfolding feed
  end-no h = run_at s n [] h

-- ---- what the reader of the whole text answers

pub text-bad : {s : List ℕ} {at p : ℕ} → SaysBad (stack_of sequence_s) s at p → StopsAt s at p
text-bad {s} {at} {p} a = stopped s at p (a.stops s_dot [])

module _ {s : List ℕ} {at n f : ℕ} {c l p c' l' p' : List ℕ} (a : SaysAt sequence_s s at (store c l p 0) n (store c' l' p' f)) where
  pub text-undotted : eqb (get_or s n 0) dot_mark ≡ false → StopsAt s at n
  text-undotted e = stopped s at n (a.read.reads s_dot [] ∙ ap (pre (post_s a.tree)) (dot-no s n e))

  pub text-beyond : eqb (get_or s n 0) dot_mark ≡ true → n + 1 < length s → StopsAt s at (n + 1)
  text-beyond e h = stopped s at (n + 1) (a.read.reads s_dot [] ∙ ap (pre (post_s a.tree)) (dot-on s n e ∙ ap (pre []) (end-no s (n + 1) h)))

  pub text-read : eqb (get_or s n 0) dot_mark ≡ true → length s ≤ n + 1 → IsRead s at c l p c' l' p' (n + 1) f
  text-read e h = let q = a.tree in record {
    tree = q;
    parsed = parsed (drop at s) at q (a.read.reads s_dot [] ∙ ap (pre (post_s q)) (dot-on s n e ∙ ap (pre []) (end_on s (n + 1) h)) ∙ ap done (append-nil (post_s q)));
    end = omega (arith, byte-in s n dot_mark refl e);
    free = let w : f ≡ 0 + size (placed_s at q) = ap (λ (S : Store). S.free) a.read.wrote in omega (arith, w);
    code = ap (λ (S : Store). S.code) a.read.wrote;
    left = ap (λ (S : Store). S.left) a.read.wrote;
    place = ap (λ (S : Store). S.place) a.read.wrote;
  }

-- ---- an answer that is passed on

pub text-stops : (s : List ℕ) (at : ℕ) (c l p c' l' p' : List ℕ) {r : Got} {q : ℕ} → r ≡ Bad q → StopsAt s at q → TextSays s at c l p c' l' p' r
text-stops s at c l p c' l' p' e h = subst (TextSays s at c l p c' l' p') (sym e) h

pub text-stopped : (s : List ℕ) (at : ℕ) (c l p c' l' p' : List ℕ) {r : Got} {q : ℕ} → r ≡ Bad q → TextSays s at c l p c' l' p' r → StopsAt s at q
text-stopped s at c l p c' l' p' e h = subst (TextSays s at c l p c' l' p') e h

pub outcome-read : (s : List ℕ) (at : ℕ) (c l p c' l' p' : List ℕ) {r : Got} {n f : ℕ} → r ≡ At n f → TextSays s at c l p c' l' p' r → Outcome s at c l p c' l' p' r
outcome-read s at c l p c' l' p' e h = subst (Outcome s at c l p c' l' p') (sym e) (subst (TextSays s at c l p c' l' p') e h)
