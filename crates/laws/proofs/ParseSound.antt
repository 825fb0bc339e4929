-- What the machine of `Parse` answers is right: a text that it reads whole is a program's and the codes are the program's, and where it stops is the
-- place that No. 8 names. Each byte takes a state to a state (`state-fits`), so the text so far always begins a program; and a text that goes
-- on with a byte that does not fit is no program's, for a program's text is read (`ParseComplete`).
-- Assumes nothing.
use Prim.Native.Nat.{ℕ, suc, ◌+◌, ◌-◌, ◌≤◌}
use mathlib.Core.Bool.{Bool, true, false, cond, ◌&&◌}
use mathlib.Core.List.{List, [], ◌∷◌, ◌++◌, append_assoc, append-nil}
use mathlib.Core.Path.{◌≡◌, refl, sym, ap, subst, subst₂, ◌∙◌}
use native.Mathlib.Numerals.{add-one}
use native.Mathlib.Omega.{arith}
use borrow.Author.Tests.{eqb-true, leb-true}
use lib.Dec.{T, eqb, leb, ltb, lt→ltb}
use lib.ListN.{length, take, length-append}
use lib.Seq.{take-append_seam, take-append-add}
use Rattle.paper.specs.Bytes.{star_mark, dot_mark, slash_mark, one_mark, colon_mark, open_mark, close_mark, brace_mark, bar_mark, unbrace_mark}
use Rattle.paper.specs.Grammar.{bar, bars, Sequence, only, then, plain, until, once, again, named, never, group, single, beside, event, treated, braces, last, next, print_s, printed, IsProgram, Stops, wrong, short}
use Rattle.paper.specs.Parse.{Code, c_once, c_plain, c_only, c_then, c_single, c_beside, c_until, c_treated, c_last, c_next, c_event, c_braces, Sym, Fed, off, to, Out, done, bad, emit, program_q, begin, begin_i, feed, pre, ending, run}
use Rattle.laws.proofs.Posted.{post_s}
use Rattle.laws.proofs.ParseComplete.{pre-pre, fed_to, run-printed}
use Rattle.laws.proofs.ParseHole.{Sort, atom_s, interruption_s, Tree, text_of, code_of, Place, stack, Hole, whole, in_starred, in_item, in_sequence, in_then, in_body, in_beside, in_group, in_until, in_treated, in_braces, in_chain, in_next, in_rest, State, over, at_atom, at_intr, at_colon, at_bar, at_next, at_second, behind, begun-begins, state-begun, flat}

-- v has been read and o written, and the byte b comes: it does not fit, or there is a state behind it
data Fits (v : List ℕ) (o : List Code) (b : ℕ) : Fed → Type 0 where
  stop : Fits v o b off
  goes : {L : List Sym} {x : List Code} → State L (v ++ (b ∷ [])) (o ++ x) → Fits v o b (to L x)

fits-to : {L : List Sym} {u v : List ℕ} {y o : List Code} {b : ℕ} {x : List Code} → State L u y → u ≡ v ++ (b ∷ []) → y ≡ o ++ x → Fits v o b (to L x)
fits-to {L} z e d = goes (subst₂ (State L) e d z)

fits-if : {v : List ℕ} {o : List Code} {b : ℕ} {f g : Fed} (q : ℕ) → Fits v o q f → Fits v o b g → Fits v o b (cond (eqb b q) f g)
fits-if {v} {o} {b} {f} {g} q h k = go (eqb b q) refl
  where
    go : (t : Bool) → eqb b q ≡ t → Fits v o b (cond t f g)
    go true e = subst (λ (c : ℕ). Fits v o c f) (sym (eqb-true b q e)) h
    go false e = k

-- one of the 26 letters from the byte a on
fits-letter : {v : List ℕ} {o : List Code} {b : ℕ} {f g : Fed} (a : ℕ)
    → (T (ltb (b - a) 26) → Fits v o (a + (b - a)) f) → Fits v o b g → Fits v o b (cond (leb a b && leb b (a + 25)) f g)
fits-letter {v} {o} {b} {f} {g} a h k = go (leb a b) (leb b (a + 25)) refl refl
  where
    go : (s t : Bool) → leb a b ≡ s → leb b (a + 25) ≡ t → Fits v o b (cond (s && t) f g)
    go true true e d = let l : a ≤ b = leb-true a b e in let m : b ≤ a + 25 = leb-true b (a + 25) d in
        subst (λ (c : ℕ). Fits v o c f) (omega arith) (h (lt→ltb (b - a) 26 (omega arith)))
    go true false e d = k
    go false t e d = k

-- the same text and codes, bracketed otherwise
fits-at : {u v : List ℕ} {y o : List Code} {b : ℕ} {f : Fed} → u ≡ v → y ≡ o → Fits u y b f → Fits v o b f
fits-at {b} {f} e d k = subst₂ (λ (v : List ℕ) (o : List Code). Fits v o b f) e d k

-- a symbol passes, and writes its code
fits-past : {u v : List ℕ} {y o : List Code} {b : ℕ} {f : Fed} (c : Code) → u ≡ v → y ≡ o ++ (c ∷ []) → Fits u y b f → Fits v o b (emit c f)
fits-past c e d stop = stop
fits-past {o} {b} c e d (goes {x} z) = fits-to z (ap (λ (w : List ℕ). w ++ (b ∷ [])) e) (ap (λ (w : List Code). w ++ x) d ∙ append_assoc o (c ∷ []) x)

fits-begin : {p : Place} → Hole atom_s p → (b : ℕ) {f : Fed} → Fits p.text p.codes b f → Fits p.text p.codes b (begin (stack p) b f)
unfolding begin print_s post_s
fits-begin h b k =
    fits-if open_mark (goes (at_atom (in_starred (in_item (in_sequence (in_body (in_group h)))))))
    (fits-letter 97 (λ q. goes (behind (named (b - 97) q) h)) (fits-if one_mark (goes (behind never h)) k))

fits-begin_i : {p : Place} → Hole interruption_s p → (b : ℕ) {f : Fed} → Fits p.text p.codes b f → Fits p.text p.codes b (begin_i (stack p) b f)
unfolding begin_i
fits-begin_i h b k = fits-if brace_mark (goes (at_intr (in_braces h))) (fits-letter 65 (λ q. goes (at_colon (b - 65) q h)) k)

-- A byte behind a whole tree. Where it lets the hole's symbol pass, the tree is part of a larger one, and the byte stands behind that.
hole-fits : {σ : Sort} {p : Place} → Hole σ p → (t : Tree σ) (b : ℕ) → Fits (p.text ++ text_of σ t) (p.codes ++ code_of σ t) b (feed (stack p) b)
unfolding feed printed print_s post_s
hole-fits whole s b = fits-if dot_mark (fits-to (over s) refl (simp flat)) stop
hole-fits (in_starred h) a b =
    fits-if star_mark (fits-to (behind (again a) h) (simp flat) (simp flat)) (fits-past c_once refl (simp flat) (hole-fits h (once a) b))
hole-fits (in_item h) t b =
    fits-if slash_mark (fits-to (at_intr (in_until t h)) (simp flat) (simp flat)) (fits-past c_plain refl (simp flat) (hole-fits h (plain t) b))
hole-fits (in_sequence h) i b = fits-begin (in_starred (in_item (in_sequence (in_then i h)))) b (fits-past c_only refl (simp flat) (hole-fits h (only i) b))
hole-fits (in_then i h) s b = fits-past c_then (simp flat) (simp flat) (hole-fits h (then i s) b)
hole-fits (in_body h) s b = fits-if bar_mark (fits-to (at_bar s h) (simp flat) (simp flat)) (fits-past c_single refl (simp flat) (hole-fits h (single s) b))
hole-fits (in_beside s h) d b = fits-past c_beside (simp flat) (simp flat) (hole-fits h (beside s d) b)
hole-fits (in_group h) d b = fits-if close_mark (fits-to (behind (group d) h) (simp flat) (simp flat)) stop
hole-fits (in_until t h) n b = fits-past c_until (simp flat) (simp flat) (hole-fits h (until t n) b)
hole-fits (in_treated e q h) i b = fits-past c_treated (simp flat) (simp flat) (hole-fits h (treated e q i) b)
hole-fits (in_braces h) n b = fits-if bar_mark (fits-to (at_next n h) (simp flat) (simp flat)) stop
hole-fits (in_chain bar h) n b =
    fits-if bar_mark (fits-to (at_intr (in_chain bar (in_next bar n h))) (simp flat) (simp flat)) (fits-past c_last (simp flat) (simp flat) (hole-fits h (last n) b))
hole-fits (in_chain bars h) n b =
    fits-if bar_mark (fits-to (at_second n h) (simp flat) (simp flat)) (fits-past c_last (simp flat) (simp flat) (hole-fits h (last n) b))
hole-fits (in_next j n h) c b = fits-past c_next (simp flat) (simp flat) (hole-fits h (next n c) b)
hole-fits (in_rest j n h) c b = fits-past (c_braces j) refl refl (fits-if unbrace_mark (fits-to (behind (braces j n c) h) (simp flat) (simp flat)) stop)

state-fits : {L : List Sym} {v : List ℕ} {o : List Code} → State L v o → (b : ℕ) → Fits v o b (feed L b)
unfolding feed print_s post_s
state-fits (over s) b = stop
state-fits (at_atom h) b = fits-begin h b stop
state-fits (at_intr h) b = fits-begin_i h b stop
state-fits (at_colon e q h) b =
    fits-if colon_mark (fits-to (at_atom (in_starred (in_item (in_treated e q h)))) (simp flat) (simp flat)) (fits-past c_event refl (simp flat) (hole-fits h (event e q) b))
state-fits (at_bar s h) b = fits-if bar_mark (fits-to (at_atom (in_starred (in_item (in_sequence (in_body (in_beside s h)))))) (simp flat) (simp flat)) stop
state-fits (at_next n h) b =
    fits-if bar_mark (fits-to (at_intr (in_chain bars (in_rest bars n h))) (simp flat) (simp flat))
    (fits-at (simp flat) (simp flat) (fits-begin_i (in_chain bar (in_rest bar n h)) b stop))
state-fits (at_second n h) b = fits-if bar_mark (fits-to (at_intr (in_chain bars (in_next bars n h))) (simp flat) (simp flat)) stop
state-fits (behind t h) b = hole-fits h t b

-- ---- a whole text

-- from v the machine comes to the stack L, and has written o
record Came (L : List Sym) (v : List ℕ) (o : List Code) : Type 0 where
  came : (u : List ℕ) → run (v ++ u) program_q 0 ≡ pre o (run u L (length v))

-- a byte more in front
pre-on : (v : List ℕ) (b : ℕ) (o x : List Code) (u : List ℕ) (M : List Sym)
    → pre o (pre x (run u M (length v + 1))) ≡ pre (o ++ x) (run u M (length (v ++ (b ∷ []))))
pre-on v b o x u M = pre-pre o x (run u M (length v + 1)) ∙ ap (λ (n : ℕ). pre (o ++ x) (run u M n)) (sym (length-append v (b ∷ [])))

came-on : {L M : List Sym} {v : List ℕ} {o x : List Code} (b : ℕ) → Came L v o → feed L b ≡ to M x → Came M (v ++ (b ∷ [])) (o ++ x)
unfolding run
came-on {M} {v} {o} {x} b c e = record {
  came = λ u.
      ap (λ (w : List ℕ). run w program_q 0) (append_assoc v (b ∷ []) u) ∙ c.came (b ∷ u)
      ∙ ap (λ (f : Fed). pre o (fed_to u (length v) f)) e ∙ pre-on v b o x u M;
}

-- where it stops over u, no program's text begins so: that would be read
came-stops : {L : List Sym} {v : List ℕ} {o : List Code} → Came L v o → (u : List ℕ) (p : ℕ) → run u L (length v) ≡ bad p → IsProgram (v ++ u) → ⊥
came-stops {v} {o} c u p e d =
    let q : done (post_s d.0) ≡ bad p = sym (run-printed d.0) ∙ ap (λ (w : List ℕ). run w program_q 0) (sym d.1) ∙ c.came u ∙ ap (pre o) e in
    let z : ◌≡◌ {A = ℕ} 0 1 = cc in
    omega arith

-- what the machine answers to the text v is right
abbrev pub Answers : List ℕ → Out → Type 0
Answers v (done x) = (s : Sequence) × (v ≡ printed s) × (x ≡ post_s s)
Answers v (bad p) = Stops v p

answers-end : {L : List Sym} {v : List ℕ} {o : List Code} → State L v o → Came L v o → Answers v (pre o (ending L (length v)))
unfolding run
answers-end {L = []} (over s) c = (s, refl, append-nil (post_s s))
answers-end {L = y ∷ K} {v} z c = short (begun-begins (state-begun z)) (λ d. came-stops c [] (length v) refl (d.0, append-nil v ∙ d.1))

answers-off : {L : List Sym} {v : List ℕ} {o : List Code} (b : ℕ) (w : List ℕ)
    → State L v o → Came L v o → feed L b ≡ off → Stops (v ++ (b ∷ w)) (length v)
unfolding run
answers-off {v} b w z c e =
    let seen : take (suc (length v)) (v ++ (b ∷ w)) ≡ v ++ (b ∷ []) = rw (← (add-one (length v))) (take-append-add v (b ∷ w) 1) in
    wrong {p = length v} (simp length-append (omega arith)) (rw take-append_seam (begun-begins (state-begun z))) (λ d.
    let t : v ++ (b ∷ d.0) ≡ printed d.1.0 = sym (append_assoc v (b ∷ []) d.0) ∙ ap (λ (u : List ℕ). u ++ d.0) (sym seen) ∙ d.1.1 in
    came-stops c (b ∷ d.0) (length v) (ap (fed_to d.0 (length v)) e) (d.1.0, t))

-- one byte: the rest of the text is read from the state behind it
answers-step : {L : List Sym} {v : List ℕ} {o : List Code} (b : ℕ) (w : List ℕ) → State L v o → Came L v o
    → ((M : List Sym) (u : List ℕ) (y : List Code) → State M u y → Came M u y → Answers (u ++ w) (pre y (run w M (length u))))
    → (f : Fed) → feed L b ≡ f → Fits v o b f → Answers (v ++ (b ∷ w)) (pre o (fed_to w (length v) f))
answers-step b w z c k off e stop = answers-off b w z c e
answers-step {v} {o} b w z c k (to M x) e (goes q) =
    subst₂ Answers (append_assoc v (b ∷ []) w) (sym (pre-on v b o x w M)) (k M (v ++ (b ∷ [])) (o ++ x) q (came-on b c e))

answers : (w : List ℕ) (L : List Sym) (v : List ℕ) (o : List Code) → State L v o → Came L v o → Answers (v ++ w) (pre o (run w L (length v)))
unfolding run
answers [] L v o z c = subst (λ (u : List ℕ). Answers u (pre o (ending L (length v)))) (sym (append-nil v)) (answers-end z c)
answers (b ∷ w) L v o z c = answers-step b w z c (λ M u y q d. answers w M u y q d) (feed L b) refl (state-fits z b)

pub run-answers : (v : List ℕ) → Answers v (run v program_q 0)
run-answers v = subst (Answers v) (pre-nil (run v program_q 0))
    (answers v program_q [] [] (at_atom (in_starred (in_item (in_sequence whole)))) (record { came = λ u. sym (pre-nil (run u program_q 0)) }))
  where
    pre-nil : (r : Out) → pre [] r ≡ r
    pre-nil (done x) = refl
    pre-nil (bad p) = refl

-- what is read is what a program prints, and what is written are its codes
pub run-done : (v : List ℕ) (x : List Code) → run v program_q 0 ≡ done x → (s : Sequence) × (v ≡ printed s) × (x ≡ post_s s)
run-done v x e = subst (Answers v) e (run-answers v)

-- and where the machine stops is the place
pub run-bad : (v : List ℕ) (p : ℕ) → run v program_q 0 ≡ bad p → Stops v p
run-bad v p e = subst (Answers v) e (run-answers v)
