-- What is written is read: from a program's text the machine of `Parse` writes the program's codes, so `parse` answers the program, and no two
-- programs have one text. By induction on the tree: it is read in front of any text that lets the symbols pass which may follow the tree.
--     Reads w K x           the text w is read from the stack K, wherever it begins, and x is written
--     Passes s c w          w lets the symbol s pass, which then writes the code c
--     Loose w, Ended w      w lets pass what may follow an item or an interruption, a sequence
--     Started w             w begins with an atom
--     Enters j J M          the stack J reads the join j and then goes on as M behind an interruption of the chain
-- Assumes nothing.
use Prim.Native.Nat.{ℕ, ◌+◌, ◌<◌}
use mathlib.Core.Bool.{true, false, ◌&&◌}
use mathlib.Core.List.{List, [], ◌∷◌, ◌++◌, append_assoc, append-nil}
use mathlib.Core.Path.{◌≡◌, refl, sym, ap, ◌∙◌}
use native.Mathlib.Omega.{arith}
use borrow.Author.Tests.{ne_eqb, le-leb}
use lib.Dec.{T, eqb, leb, ltb, ltb→lt}
use Rattle.paper.specs.Bytes.{star_mark, dot_mark, slash_mark, one_mark, colon_mark, open_mark, close_mark, brace_mark, bar_mark, unbrace_mark}
use Rattle.paper.specs.Grammar.{Join, bar, bars, Sequence, Item, Starred, Atom, Body, Interruption, Chain, only, then, plain, until, once, again, named, never, group, single, beside, event, treated, braces, last, next, module_byte, event_byte, join_text, print_s, print_i, print_t, print_a, print_b, print_n, print_c, printed}
use Rattle.paper.specs.Parse.{program, Code, c_named, c_letter, c_once, c_plain, c_until, c_only, c_then, c_event, c_treated, c_last, c_next, c_braces, Sym, s_atom, s_star, s_slash, s_more, s_intr, s_colon, s_sep, s_next, s_brace, s_chain, s_emit, Fed, off, to, Out, done, bad, emit, item_q, sequence_q, body_q, chain_q, program_q, begin, begin_i, feed, pre, onward, run, top, no_sequence, answer, parse}
use Rattle.laws.proofs.Posted.{post_s, post_i, post_t, post_a, post_b, post_n, post_c, builds-post}

pub pre-pre : (o y : List Code) (r : Out) → pre o (pre y r) ≡ pre (o ++ y) r
pre-pre o y (done x) = ap done (sym (append_assoc o y x))
pre-pre o y (bad p) = refl

-- what comes of a byte, from what it is fed to
abbrev pub fed_to : List ℕ → ℕ → Fed → Out
fed_to w at f = onward f (λ L o. pre o (run w L (at + 1))) (bad at)

pub record Reads (w : List ℕ) (K : List Sym) (x : List Code) : Type 0 where
  pub reads : (at : ℕ) → run w K at ≡ done x

-- a byte that is taken
takes : {b : ℕ} {w : List ℕ} {K L : List Sym} {o x : List Code} → feed K b ≡ to L o → Reads w L x → Reads (b ∷ w) K (o ++ x)
unfolding run
takes {w} {o} e r = record { reads = λ at. ap (fed_to w at) e ∙ ap (pre o) (r.reads (at + 1)) }

-- a byte at which two stacks do alike
alike : {b : ℕ} {w : List ℕ} {K L : List Sym} {x : List Code} → feed K b ≡ feed L b → Reads (b ∷ w) L x → Reads (b ∷ w) K x
unfolding run
alike {w} e r = record { reads = λ at. ap (fed_to w at) e ∙ r.reads at }

-- a byte that lets the first symbol pass, which then writes its code
passes : {b : ℕ} {w : List ℕ} {K L : List Sym} {c : Code} {x : List Code} → feed K b ≡ emit c (feed L b) → Reads (b ∷ w) L x → Reads (b ∷ w) K (c ∷ x)
unfolding run
passes {b} {w} {L} {c} e r = record { reads = λ at. ap (fed_to w at) e ∙ fed-emit (feed L b) at ∙ ap (pre (c ∷ [])) (r.reads at) }
  where
    fed-emit : (f : Fed) (at : ℕ) → fed_to w at (emit c f) ≡ pre (c ∷ []) (fed_to w at f)
    fed-emit off at = refl
    fed-emit (to M o) at = sym (pre-pre (c ∷ []) o (run w M (at + 1)))

-- ---- what may stand behind a tree

record Passes (s : Sym) (c : Code) (w : List ℕ) : Type 0 where
  past : {K : List Sym} {x : List Code} → Reads w K x → Reads w (s ∷ K) (c ∷ x)

record Loose (w : List ℕ) : Type 0 where
  star : Passes s_star c_once w
  slash : Passes s_slash c_plain w
  colon : Passes s_colon c_event w
  code : (c : Code) → Passes (s_emit c) c w

record Ended (w : List ℕ) : Type 0 where
  loosely : Loose w
  more : Passes s_more c_only w

loose : (b : ℕ) (w : List ℕ) → eqb b star_mark ≡ false → eqb b slash_mark ≡ false → eqb b colon_mark ≡ false → Loose (b ∷ w)
unfolding feed
loose b w p q r = record {
  star = record { past = λ d. passes (rw p) d };
  slash = record { past = λ d. passes (rw q) d };
  colon = record { past = λ d. passes (rw r) d };
  code = λ c. record { past = λ d. passes refl d };
}

ended : (b : ℕ) (w : List ℕ) → eqb b star_mark ≡ false → eqb b slash_mark ≡ false → eqb b colon_mark ≡ false
    → ((K : List Sym) → feed (s_more ∷ K) b ≡ emit c_only (feed K b)) → Ended (b ∷ w)
ended b w p q r m = record { loosely = loose b w p q r; more = record { past = λ d. passes (m _) d } }

-- ---- the letters' bytes

letter-in : (a m : ℕ) → T (ltb m 26) → (leb a (a + m) && leb (a + m) (a + 25)) ≡ true
letter-in a m h = let l : m < 26 = ltb→lt m 26 h in rw (le-leb a (a + m) (omega arith), le-leb (a + m) (a + 25) (omega arith))

module-not : (m b : ℕ) → b < 97 → eqb (module_byte m) b ≡ false
module-not m b l = ne_eqb (module_byte m) b (λ z. omega arith)

begin-named : (m : ℕ) → T (ltb m 26) → (K : List Sym) (f : Fed) → begin K (module_byte m) f ≡ to K (c_named m ∷ [])
unfolding begin
begin-named m h K f = rw (module-not m open_mark (omega arith), letter-in 97 m h) (ap (λ (k : ℕ). to K (c_named k ∷ [])) (omega arith))

event-not : (e b : ℕ) → T (ltb e 26) → 90 < b → eqb (event_byte e) b ≡ false
event-not e b h l = ne_eqb (event_byte e) b (λ z. omega (arith, ltb→lt e 26 h))

begin_i-letter : (e : ℕ) → T (ltb e 26) → (K : List Sym) (f : Fed) → begin_i K (event_byte e) f ≡ to (s_colon ∷ K) (c_letter e ∷ [])
unfolding begin_i
begin_i-letter e h K f = rw (event-not e brace_mark h (omega arith), letter-in 65 e h) (ap (λ (k : ℕ). to (s_colon ∷ K) (c_letter k ∷ [])) (omega arith))

-- ---- how a tree's text begins

record Started (w : List ℕ) : Type 0 where
  loosely : Loose w
  more : {K : List Sym} {x : List Code} → Reads w (sequence_q (s_emit c_then ∷ K)) x → Reads w (s_more ∷ K) x

mutual
  unfolding print_s feed begin

  started-S : (s : Sequence) (w : List ℕ) → Started (print_s s ++ w)
  started-S (only i) w = started-I i w
  started-S (then i s) w = rw append_assoc (started-I i (print_s s ++ w))

  started-I : (i : Item) (w : List ℕ) → Started (print_i i ++ w)
  started-I (plain t) w = started-T t w
  started-I (until t n) w = rw append_assoc (started-T t (slash_mark ∷ (print_n n ++ w)))

  started-T : (t : Starred) (w : List ℕ) → Started (print_t t ++ w)
  started-T (once a) w = started-A a w
  started-T (again a) w = rw append_assoc (started-A a (star_mark ∷ w))

  started-A : (a : Atom) (w : List ℕ) → Started (print_a a ++ w)
  started-A (named m h) w = record {
    loosely = loose (module_byte m) w (module-not m star_mark (omega arith)) (module-not m slash_mark (omega arith)) (module-not m colon_mark (omega arith));
    more = λ r. alike (begin-named m h _ _ ∙ sym (begin-named m h _ _)) r;
  }
  started-A never w = record { loosely = loose one_mark w refl refl refl; more = λ r. alike refl r }
  started-A (group b) w = record { loosely = loose open_mark ((print_b b ++ (close_mark ∷ [])) ++ w) refl refl refl; more = λ r. alike refl r }

-- behind a first bar an interruption begins as one of a chain joined by `|`
next-bar : (n : Interruption) (w : List ℕ) {K : List Sym} {x : List Code}
    → Reads (print_n n ++ w) (chain_q bar (s_emit (c_braces bar) ∷ s_brace ∷ K)) x → Reads (print_n n ++ w) (s_next ∷ K) x
unfolding print_s feed begin_i
next-bar (event e h) w r = alike (rw (event-not e bar_mark h (omega arith))) r
next-bar (treated e h i) w r = alike (rw (event-not e bar_mark h (omega arith))) r
next-bar (braces j n c) w r = alike refl r

-- the first join of a chain tells the kind of the others; each later one must be of that kind
record Enters (j : Join) (J M : List Sym) : Type 0 where
  enter : (n : Interruption) (w : List ℕ) {x : List Code} → Reads (print_n n ++ w) (chain_q j M) x → Reads (join_text j ++ (print_n n ++ w)) J x

enters-first : (j : Join) (K : List Sym) → Enters j (s_sep ∷ K) (s_emit (c_braces j) ∷ s_brace ∷ K)
unfolding feed
enters-first bar K = record { enter = λ n w r. takes refl (next-bar n w r) }
enters-first bars K = record { enter = λ n w r. takes refl (takes refl r) }

enters-next : (j : Join) (K : List Sym) → Enters j (s_chain j ∷ K) (s_emit c_next ∷ K)
unfolding feed
enters-next bar K = record { enter = λ n w r. takes refl r }
enters-next bars K = record { enter = λ n w r. takes refl (takes refl r) }

loose-chain : (j : Join) (c : Chain) (w : List ℕ) → Loose (print_c j c ++ w)
unfolding print_s
loose-chain bar (last n) w = loose bar_mark (print_n n ++ w) refl refl refl
loose-chain bars (last n) w = loose bar_mark (bar_mark ∷ (print_n n ++ w)) refl refl refl
loose-chain bar (next n c) w = loose bar_mark ((print_n n ++ print_c bar c) ++ w) refl refl refl
loose-chain bars (next n c) w = loose bar_mark (bar_mark ∷ ((print_n n ++ print_c bars c) ++ w)) refl refl refl

chain-ends : (j : Join) {w : List ℕ} {K : List Sym} {x : List Code} → Reads (unbrace_mark ∷ w) K x → Reads (unbrace_mark ∷ w) (s_chain j ∷ K) (c_last ∷ x)
unfolding feed
chain-ends bar r = passes refl r
chain-ends bars r = passes refl r

-- ---- a tree's text

mutual
  unfolding print_s post_s feed begin begin_i

  reads-S : (s : Sequence) {w : List ℕ} {K : List Sym} {x : List Code} → Ended w → Reads w K x → Reads (print_s s ++ w) (sequence_q K) (post_s s ++ x)
  reads-S (only i) l r = rw append_assoc (reads-I i l.loosely (l.more.past r))
  reads-S (then i s) {w} l r = let d = started-S s w in
      simp append_assoc (reads-I i d.loosely (d.more (reads-S s l ((l.loosely.code c_then).past r))))

  reads-I : (i : Item) {w : List ℕ} {K : List Sym} {x : List Code} → Loose w → Reads w K x → Reads (print_i i ++ w) (item_q K) (post_i i ++ x)
  reads-I (plain t) l r = rw append_assoc (reads-T t l.star (l.slash.past r))
  reads-I (until t n) l r = simp append_assoc (reads-T t (record { past = λ d. passes refl d }) (takes refl (reads-N n l ((l.code c_until).past r))))

  reads-T : (t : Starred) {w : List ℕ} {K : List Sym} {x : List Code}
      → Passes s_star c_once w → Reads w K x → Reads (print_t t ++ w) (s_atom ∷ s_star ∷ K) (post_t t ++ x)
  reads-T (once a) l r = rw append_assoc (reads-A a (l.past r))
  reads-T (again a) l r = simp append_assoc (reads-A a (takes refl r))

  reads-A : (a : Atom) {w : List ℕ} {K : List Sym} {x : List Code} → Reads w K x → Reads (print_a a ++ w) (s_atom ∷ K) (post_a a ++ x)
  reads-A (named m h) r = takes (begin-named m h _ _) r
  reads-A never r = takes refl r
  reads-A (group b) r = simp append_assoc (takes refl (reads-B b (takes refl r)))

  reads-B : (b : Body) {w : List ℕ} {K : List Sym} {x : List Code} → Reads (close_mark ∷ w) K x → Reads (print_b b ++ (close_mark ∷ w)) (body_q K) (post_b b ++ x)
  reads-B (single s) {w} r = rw append_assoc (reads-S s (ended close_mark w refl refl refl (λ K. refl)) (passes refl r))
  reads-B (beside s b) r =
      simp append_assoc (reads-S s (ended bar_mark _ refl refl refl (λ K. refl)) (takes refl (takes refl (reads-B b (passes refl r)))))

  reads-N : (n : Interruption) {w : List ℕ} {K : List Sym} {x : List Code} → Loose w → Reads w K x → Reads (print_n n ++ w) (s_intr ∷ K) (post_n n ++ x)
  reads-N (event e h) l r = takes (begin_i-letter e h _ _) (l.colon.past r)
  reads-N (treated e h i) l r = simp append_assoc (takes (begin_i-letter e h _ _) (takes refl (reads-I i l ((l.code c_treated).past r))))
  reads-N (braces j n c) {w} l r =
      simp append_assoc (takes refl (reads-N n (loose-chain j c (unbrace_mark ∷ w)) (reads-C c j (enters-first j _) (takes refl r))))

  reads-C : (c : Chain) (j : Join) {w : List ℕ} {J M : List Sym} {x : List Code}
      → Enters j J M → Reads (unbrace_mark ∷ w) M x → Reads (print_c j c ++ (unbrace_mark ∷ w)) J (post_c c ++ x)
  reads-C (last n) j {w} q r = simp append_assoc (q.enter n (unbrace_mark ∷ w) (reads-N n (loose unbrace_mark w refl refl refl) (chain-ends j r)))
  reads-C (next n c) j {w} q r = let u : List ℕ = unbrace_mark ∷ w in
      simp append_assoc (q.enter n (print_c j c ++ u) (reads-N n (loose-chain j c u) (reads-C c j (enters-next j _) (passes refl r))))

-- a program's text writes the program's codes
pub run-printed : (s : Sequence) → run (printed s) program_q 0 ≡ done (post_s s)
unfolding printed run feed begin
run-printed s =
    let r : Reads [] [] [] = record { reads = λ at. refl } in
    (reads-S s (ended dot_mark [] refl refl refl (λ K. refl)) (takes refl r)).reads 0 ∙ ap done (append-nil (post_s s))

pub parse-printed : (s : Sequence) → parse (printed s) ≡ program s
unfolding parse answer
parse-printed s = ap answer (run-printed s) ∙ ap (λ (l : List Sequence). program (top no_sequence l)) (builds-post s)

-- one text, one program
pub printed-inj : (s t : Sequence) → printed s ≡ printed t → s ≡ t
printed-inj s t e = let p : program s ≡ program t = sym (parse-printed s) ∙ ap parse e ∙ parse-printed t in cc
