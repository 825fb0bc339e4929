-- The coding is one-to-one on the written set: the bytes of a state say that state (`said-code`), so decoding gives it back (`decode_code`), and what
-- decodes is the code of a state of the set (`code_decode`). The test of the set is exact (`in-sound`, `in-complete`). Assumes nothing.
use Prim.Native.Nat.{ℕ, ◌%◌, ◌^◌, ◌≤◌, ◌<◌}
use mathlib.Core.Bool.{false, not, ◌&&◌}
use mathlib.Core.List.{List, [], ◌∷◌}
use mathlib.Core.Option.{Option, none, some}
use mathlib.Core.Path.{◌≡◌, refl, sym, ap, subst, ◌∙◌}
use native.Mathlib.Omega.{arith}
use lib.Dec.{T, eqb, leb, eqb→eq, eqb_refl, leb→le, T_not, not_T}
use lib.ListN.{length, get_or, get_or-eq_default}
use lib.Pow.{pow_mono}
use borrow.Author.Tests.{le-leb, not-true}
use Rattle.paper.specs.Lists.{is_nil, has, keep, eq_l}
use Rattle.paper.specs.Term.{Left, gone, still}
use Rattle.paper.specs.Reaction.{Program, State}
use Rattle.paper.proofs.Choices.{clash}
use Rattle.paper.proofs.Equal.{and_left, and_right, and_both, eq_l-sound, eq_l-refl}
use Rattle.paper.proofs.Stays.{T_true}
use Rattle.laws.specs.Weight.{weight_l}
use Rattle.laws.proofs.Letters.{by_cond, false-not, has_here, has_there, Once}
use Rattle.laws.proofs.Reached.{Memory}
use Rattle.words.specs.Word.{Right, terms}
use Rattle.words.specs.Pieces.{rest}
use Rattle.rewrite.specs.Steps.{left_of}
use Rattle.coding.specs.Units.{word_l, OverL}
use Rattle.coding.specs.Layout.{bytes_of, unit_in, word_in, mark_in, set_number, set_of, marks_of}
use Rattle.coding.specs.Written.{nodes_of, Written, is_memory, is_ended, in_set}
use Rattle.coding.specs.Code.{code, said, codes, decode}
use Rattle.coding.proofs.Letters.{by-or}
use Rattle.coding.proofs.Found.{holds, over_l-sound, over_l-complete}
use Rattle.coding.proofs.Words.{word-long, right-small}
use Rattle.coding.proofs.Standing.{word_l-says, left-rest}
use Rattle.coding.proofs.Bytes.{bytes-long, bytes_small, at_low, at_set, at-spare, unit-back, word_back, mark-back, set_back, set-small, marks-long, marks-small, events-back}
use Rattle.coding.proofs.Fit.{Fit, memory-short}

-- ---- the test of the set

memory-sound : (p : Program) (m : List ℕ) → T (is_memory p m) → Memory p m
unfolding is_memory Once has
memory-sound p [] h = (tt, λ e t. absurd t)
memory-sound p (x ∷ m) h =
    let a = not (has x m) && (has x p.events && not (has x p.fugitive)) in
    let t = and_left a (is_memory p m) h in
    let r = memory-sound p m (and_right a (is_memory p m) h) in
    let own = and_right (not (has x m)) _ t in
    let its : T (has x p.events) × (has x p.fugitive ≡ false) =
    (and_left (has x p.events) _ own, not-true (has x p.fugitive) (T_true (not (has x p.fugitive)) (and_right (has x p.events) _ own)))
    in (
      (T_not (has x m) (and_left (not (has x m)) _ t), r.0),
      λ e u.
          by-or (eqb e x) (has e m) u (λ q. subst (λ (y : ℕ). T (has y p.events) × (has y p.fugitive ≡ false)) (sym (eqb→eq e x q)) its) (r.1 e),
    )

memory-complete : (p : Program) (m : List ℕ) → Memory p m → T (is_memory p m)
unfolding is_memory Once
memory-complete p [] h = tt
memory-complete p (x ∷ m) h =
    let own = h.1 x (has_here x x m (eqb_refl x)) in
    and_both (not (has x m) && (has x p.events && not (has x p.fugitive))) _
    (and_both (not (has x m)) _ (not_T (has x m) h.0.0)
    (and_both (has x p.events) _ own.0 (not_T (has x p.fugitive) (false-not (has x p.fugitive) own.1))))
    (memory-complete p m (h.0.1, λ e t. h.1 e (has_there e x m t)))

nil_is : (xs : List ℕ) → T (is_nil xs) → xs ≡ []
nil_is [] t = refl
nil_is (x ∷ xs) t = absurd t

ended-sound : (r : Left) (m xs : List ℕ) → T (is_ended r m xs) → r ≡ gone → (m ≡ []) × (xs ≡ [])
ended-sound gone m xs t e = (nil_is m (and_left (is_nil m) (is_nil xs) t), nil_is xs (and_right (is_nil m) (is_nil xs) t))
ended-sound (still x) m xs t e = clash (cc)

ended-complete : (r : Left) (m xs : List ℕ) → (r ≡ gone → (m ≡ []) × (xs ≡ [])) → T (is_ended r m xs)
ended-complete gone m xs h = let e = h refl in rw (e.0, e.1) tt
ended-complete (still x) m xs h = tt

module _ (p : Program) (s : State) where
  pub in-sound : T (in_set p s) → Written p s
  unfolding in_set
  in-sound h =
      record {
        over = over_l-sound (nodes_of p) p.modules s.left (search and_left);
        light = leb→le (weight_l s.left) 96 (search (and_left, and_right));
        memory = memory-sound p s.memory (search (and_left, and_right));
        stopped = eq_l-sound s.stopped (keep (λ m. has m s.stopped) p.modules) (search (and_left, and_right));
        ended = ended-sound s.left s.memory s.stopped (search (and_left, and_right));
      }

  pub in-complete : Written p s → T (in_set p s)
  unfolding in_set
  in-complete w =
      let o = over_l-complete (nodes_of p) p.modules s.left w.over in
      let l : T (leb (weight_l s.left) 96) = holds _ (le-leb (weight_l s.left) 96 w.light) in
      let m = memory-complete p s.memory w.memory in
      let k = subst (λ (xs : List ℕ). T (eq_l s.stopped xs)) w.stopped (eq_l-refl s.stopped) in
      let e = ended-complete s.left s.memory s.stopped w.ended in
      search and_both

-- ---- what decodes is the code of a state of the set

pub code_decode : (p : Program) (b : List ℕ) (s : State) → decode p b ≡ some s → Written p s × (code p s ≡ b)
unfolding decode codes
code_decode p b s =
    let x = said p b in
    by_cond (λ (o : Option State). o ≡ some s → Written p s × (code p s ≡ b)) (codes p x b) (some x) none
    (λ e q.
    let y : x ≡ s = cc in
    let t = holds (codes p x b) e in
    subst (λ (z : State). Written p z × (code p z ≡ b)) y
    (in-sound p x (and_left (in_set p x) (eq_l (code p x) b) t), eq_l-sound (code p x) b (and_right (in_set p x) (eq_l (code p x) b) t)))
    (λ e q. clash (cc))

-- ---- the bytes of a state say it

module _ (p : Program) (f : Fit p) where
  pub says : (r : Left) → OverL (nodes_of p) p.modules r → Right (nodes_of p) (word_l (nodes_of p) r) × (terms (nodes_of p) (word_l (nodes_of p) r) ≡ rest r)
  says r o = word_l-says (nodes_of p) p.modules f.nodes f.letters r o

  pub word-short : (r : Left) → weight_l r ≤ 96 → length (word_l (nodes_of p) r) ≤ 96
  unfolding weight_l word_l
  word-short gone h = omega arith
  word-short (still t) h = omega (arith, word-long (nodes_of p) t)

  pub units_small : (r : Left) → OverL (nodes_of p) p.modules r → (i : ℕ) → get_or (word_l (nodes_of p) r) i 0 < 1024
  units_small r o i = omega (arith, right-small (nodes_of p) (word_l (nodes_of p) r) (says r o).0 i)

  pub said-code : (s : State) → Written p s → said p (code p s) ≡ s
  unfolding said code
  said-code s w =
      let u = word_l (nodes_of p) s.left in
      let k = set_number p.modules s.stopped in
      let m = marks_of p.events s.memory in
      let l : left_of (terms (nodes_of p) (word_in (bytes_of u k m))) ≡ s.left =
      rw (word_back u k m (units_small s.left w.over) (word-short s.left w.light), (says s.left w.over).1) (left-rest s.left)
      in
      let e = events-back u k p.events s.memory f.few_events (memory-short p f s.memory w.memory) (λ x t. (w.memory.1 x t).0) in
      let t : set_of p.modules (get_or (bytes_of u k m) 121 0) ≡ s.stopped =
      ap (set_of p.modules) (at_set u k m) ∙ (set_back p.modules s.stopped ∙ sym w.stopped)
      in
      λ i. record { left = l i; memory = e i; stopped = t i }

  pub decode_code : (s : State) → Written p s → decode p (code p s) ≡ some s
  unfolding decode codes
  decode_code s w = rw (said-code s w, T_true (in_set p s) (in-complete p s w), T_true (eq_l (code p s) (code p s)) (eq_l-refl (code p s)))

  -- equal codes exactly for equal states
  pub code_one : (s t : State) → Written p s → Written p t → code p s ≡ code p t → s ≡ t
  code_one s t v w e = sym (said-code s v) ∙ (ap (said p) e ∙ said-code t w)

pub code_long : (p : Program) (s : State) → length (code p s) ≡ 128
unfolding code
code_long p s = bytes-long (word_l (nodes_of p) s.left) (set_number p.modules s.stopped) (marks_of p.events s.memory)

-- each is a byte
pub code-bytes : (p : Program) → Fit p → (s : State) → Written p s → (i : ℕ) → get_or (code p s) i 0 < 256
unfolding code
code-bytes p f s w =
    bytes_small (word_l (nodes_of p) s.left) (set_number p.modules s.stopped) (marks_of p.events s.memory) (units_small p f s.left w.over)
    (word-short p f s.left w.light) (set-byte p.modules f.few_modules)
    (marks-small p.events s.memory f.few_events (λ e t. (w.memory.1 e t).0))
  where
    set-byte : (ms : List ℕ) → length ms ≤ 8 → set_number ms s.stopped < 256
    set-byte ms h = omega (arith, set-small ms s.stopped, pow_mono {i = length ms} {j = 8} h)

-- "unused bytes zero": the units behind the word, the marks behind the memory, the bits of no module, and the bytes behind them
pub record Unused (p : Program) (s : State) (b : List ℕ) : Type 0 where
  pub units : (i : ℕ) → length (word_l (nodes_of p) s.left) ≤ i → i < 96 → (get_or b i 0 ≡ 0) × (unit_in b i ≡ 0)
  pub set : get_or b 121 0 < 2 ^ length p.modules
  pub marks : (i : ℕ) → length s.memory ≤ i → i < 8 → mark_in b i ≡ 0
  pub spare : (i : ℕ) → 126 ≤ i → get_or b i 0 ≡ 0

pub unused-zero : (p : Program) → Fit p → (s : State) → Written p s → Unused p s (code p s)
unfolding code
unused-zero p f s w =
    let u = word_l (nodes_of p) s.left in
    let k = set_number p.modules s.stopped in
    let m = marks_of p.events s.memory in
    let known : (e : ℕ) → T (has e s.memory) → T (has e p.events) = λ e t. (w.memory.1 e t).0 in
    record {
      units =
          λ i h l.
          let z : get_or u i 0 ≡ 0 = get_or-eq_default u 0 {n = i} h in
          (at_low u k m i l ∙ ap (λ (n : ℕ). n % 256) z, unit-back u k m (units_small p f s.left w.over) i l ∙ z);
      set = rw (at_set u k m) (set-small p.modules s.stopped);
      marks =
          λ i h l.
          mark-back u k m (marks-small p.events s.memory f.few_events known) i l
          ∙ get_or-eq_default m 0 {n = i} (omega (arith, marks-long p.events s.memory));
      spare = at-spare u k m;
    }
