-- The grammar's productions, each from the answers of its parts: a tree is read, or the text stops. The tree's text, codes and places are those of the
-- parts by their definitions; the place where a part ends is its text's length further.
-- Assumes nothing.
use Prim.Native.Nat.{ℕ, ◌+◌, ◌-◌, ◌≤◌, ◌<◌}
use mathlib.Core.Bool.{Bool, true, false, ◌&&◌, ◌||◌, not}
use mathlib.Core.List.{List, [], ◌∷◌, ◌++◌}
use mathlib.Core.Path.{◌≡◌, refl, sym, ap, subst, ◌∙◌}
use native.Mathlib.Omega.{arith}
use borrow.Author.Tests.{eqb-true, leb-true}
use lib.Dec.{T, eqb, leb, ltb, lt→ltb}
use lib.ListN.{length, get_or, length-append}
use Rattle.paper.specs.Bytes.{is_module, is_event, star_mark, slash_mark, one_mark, colon_mark, open_mark, close_mark, brace_mark, bar_mark, unbrace_mark}
use Rattle.paper.specs.Grammar.{Join, Chain, only, then, plain, until, once, again, named, never, group, single, beside, event, treated, braces, last, next, join_text, print_s, print_n, print_c}
use Rattle.paper.specs.Parse.{c_until, c_then, c_beside, c_treated, c_next, c_braces, c_named, c_letter, s_star, s_slash, s_more, s_bars, s_close, s_intr, s_colon, s_sep, s_brace, s_chain, s_emit, chain_q}
use Rattle.laws.specs.Placed.{Tree, leaf, star, join, join_code, seq_code, placed_s, placed_i, placed_t, placed_a, placed_b, placed_n, placed_c}
use Rattle.laws.proofs.Posted.{post_s, post_i, post_t, post_b, post_n, post_c}
use Rattle.syntax.specs.Store.{Store, node}
use Rattle.syntax.specs.Readers.{is_leaf, starts, join_of, chain_text, placed_chain, sequence_s, item_s, starred_s, atom_s, body_s, interruption_s, chain_s, stack_of, here, Read, SaysAt, SaysBad}
use Rattle.syntax.proofs.Steps.{Goes, goes-goes, goes-under, goes-bad, byte-in, inside, emits, star-on, star-no, slash-on, slash-no, close-on, close-no, brace-on, brace-no, colon-on, colon-no, bars-no, bars-on, bars-half, chain-no, chain-on, chain-half, sep-no, sep-on, open-on, module-on, one_on, more_no, more-on, open-brace, event-on}
use Rattle.syntax.proofs.Reading.{under, enter, leave, starry, stuck, pair, leafed, bad-under}

-- a letter from a on
letter-of : (a b : ℕ) → leb a b && leb b (a + 25) ≡ true → (T (ltb (b - a) 26)) × (b ≡ a + (b - a))
letter-of a b = go (leb a b) (leb b (a + 25)) refl refl
  where
    go : (x y : Bool) → leb a b ≡ x → leb b (a + 25) ≡ y → x && y ≡ true → (T (ltb (b - a) 26)) × (b ≡ a + (b - a))
    go true true d e q = let l : a ≤ b = leb-true a b d in let m : b ≤ a + 25 = leb-true b (a + 25) e in (lt→ltb (b - a) 26 (omega arith), omega arith)
    go true false d e q = absurd (subst (λ (z : Bool). T (not z)) q tt)
    go false y d e q = absurd (subst (λ (z : Bool). T (not z)) q tt)

-- ---- atoms

module _ {s : List ℕ} {at : ℕ} {S S₁ : Store} where
  module-read : eqb (get_or s at 0) open_mark ≡ false → is_module (get_or s at 0) ≡ true → S₁ ≡ node S (get_or s at 0) 0 at → SaysAt atom_s s at S (at + 1) S₁
  unfolding print_s post_s placed_s
  module-read d e u = let b = get_or s at 0 in let h = letter-of 97 b e in record {
    tree = named (b - 97) h.0;
    ends = refl;
    read = subst (λ (z : ℕ). Read s at S (at + 1) S₁ (stack_of atom_s) here (leaf z at) (c_named (b - 97) ∷ [])) h.1
        (leafed b (inside s at is_module refl e) u (module-on s at d e));
  }

  one-read : eqb (get_or s at 0) open_mark ≡ false → is_module (get_or s at 0) ≡ false → eqb (get_or s at 0) one_mark ≡ true → S₁ ≡ node S (get_or s at 0) 0 at → SaysAt atom_s s at S (at + 1) S₁
  unfolding print_s post_s placed_s
  one-read d m e u = record {
    tree = never;
    ends = refl;
    read = leafed one_mark (byte-in s at one_mark refl e) (u ∙ ap (λ (z : ℕ). node S z 0 at) (eqb-true (get_or s at 0) one_mark e)) (one_on s at d m e);
  }

  pub leaf-read : (b : ℕ) → b ≡ get_or s at 0 → eqb (get_or s at 0) open_mark ≡ false → is_leaf b ≡ true → S₁ ≡ node S b 0 at → SaysAt atom_s s at S (at + 1) S₁
  leaf-read b q d e u = go (is_module (get_or s at 0)) (eqb (get_or s at 0) one_mark) refl refl (ap is_leaf (sym q) ∙ e)
    where
      v : S₁ ≡ node S (get_or s at 0) 0 at
      v = u ∙ ap (λ (z : ℕ). node S z 0 at) q

      go : (x y : Bool) → is_module (get_or s at 0) ≡ x → eqb (get_or s at 0) one_mark ≡ y → y || x ≡ true → SaysAt atom_s s at S (at + 1) S₁
      go true y m o z = module-read d m v
      go false true m o z = one-read d m o v
      go false false m o z = absurd (subst (λ (w : Bool). T (not w)) z tt)

pub leaf-in : (s : List ℕ) (at b : ℕ) → b ≡ get_or s at 0 → is_leaf b ≡ true → at < length s
leaf-in s at b q e = inside s at is_leaf refl (ap is_leaf (sym q) ∙ e)

pub event-in : (s : List ℕ) (at b : ℕ) → b ≡ get_or s at 0 → is_event b ≡ true → at < length s
event-in s at b q e = inside s at is_event refl (ap is_event (sym q) ∙ e)

module _ {s : List ℕ} {at : ℕ} {S : Store} {n : ℕ} {S₁ : Store} where
  pub group-read : eqb (get_or s at 0) open_mark ≡ true → SaysAt body_s s (at + 1) S n S₁ → eqb (get_or s n 0) close_mark ≡ true → SaysAt atom_s s at S (n + 1) S₁
  unfolding print_s post_s placed_s
  group-read d a e = record {
    tree = group a.tree;
    ends = simp length-append (omega (arith, a.ends));
    read = leave (omega arith) (omega (arith, byte-in s n close_mark refl e)) (enter (omega arith) (open-on s at d) (under s_close here a.read)) (close-on s n e);
  }

  pub group-bad : eqb (get_or s at 0) open_mark ≡ true → SaysAt body_s s (at + 1) S n S₁ → eqb (get_or s n 0) close_mark ≡ false → SaysBad (stack_of atom_s) s at n
  group-bad d a e = goes-bad (open-on s at d) (stuck (under s_close here a.read) (close-no s n e))

  -- ---- starred parts, items, sequences and bodies

  pub once-read : SaysAt atom_s s at S n S₁ → eqb (get_or s n 0) star_mark ≡ false → SaysAt starred_s s at S n S₁
  unfolding print_s post_s placed_s
  once-read a e = record { tree = once a.tree; ends = a.ends; read = leave (omega arith) a.read.within (under s_star here a.read) (star-no s n e) }

  pub plain-read : SaysAt starred_s s at S n S₁ → eqb (get_or s n 0) slash_mark ≡ false → SaysAt item_s s at S n S₁
  unfolding print_s post_s placed_s
  plain-read a e = record { tree = plain a.tree; ends = a.ends; read = leave (omega arith) a.read.within (under s_slash here a.read) (slash-no s n e) }

  pub only-read : SaysAt item_s s at S n S₁ → starts (get_or s n 0) ≡ false → SaysAt sequence_s s at S n S₁
  unfolding print_s post_s placed_s
  only-read a e = record { tree = only a.tree; ends = a.ends; read = leave (omega arith) a.read.within (under s_more here a.read) (more_no s n e) }

  pub single-read : SaysAt sequence_s s at S n S₁ → eqb (get_or s n 0) bar_mark ≡ false → SaysAt body_s s at S n S₁
  unfolding print_s post_s placed_s
  single-read a e = record { tree = single a.tree; ends = a.ends; read = leave (omega arith) a.read.within (under s_bars here a.read) (bars-no s n e) }

  pub last-read : {j : Join} → SaysAt interruption_s s at S n S₁ → eqb (get_or s n 0) bar_mark ≡ false → SaysAt (chain_s j) s at S n S₁
  unfolding print_s post_s placed_s chain_text placed_chain
  last-read {j} a e = record { tree = last a.tree; ends = a.ends; read = leave (omega arith) a.read.within (under (s_chain j) here a.read) (chain-no s n j e) }

  pub again-read : {S₂ : Store} → SaysAt atom_s s at S n S₁ → eqb (get_or s n 0) star_mark ≡ true → S₂ ≡ node S₁ star_mark 0 n → SaysAt starred_s s at S (n + 1) S₂
  unfolding print_s post_s placed_s
  again-read {S₂} a e u = record {
    tree = again a.tree;
    ends = simp length-append (omega (arith, a.ends));
    read = subst (λ (z : ℕ). Read s at S (n + 1) S₂ (stack_of starred_s) here (star z (placed_a at a.tree)) (post_t (again a.tree))) a.ends
        (starry (byte-in s n star_mark refl e) (under s_star here a.read) (star-on s n e) u);
  }

  module _ {m : ℕ} {S₂ S₃ : Store} where
    pub until-read : SaysAt starred_s s at S n S₁ → eqb (get_or s n 0) slash_mark ≡ true → SaysAt interruption_s s (n + 1) S₁ m S₂ → S₃ ≡ node S₂ slash_mark (S₁.free - 1) n
        → SaysAt item_s s at S m S₃
    unfolding print_s post_s placed_s
    until-read a e b u = let t = a.tree in let i = b.tree in record {
      tree = until t i;
      ends = simp length-append (omega (arith, a.ends, b.ends));
      read = subst (λ (z : ℕ). Read s at S m S₃ (stack_of item_s) here (join slash_mark z (placed_t at t) (placed_n (z + 1) i)) (post_i (until t i))) a.ends
          (pair c_until slash_mark n (omega arith) (omega arith) b.read.within (under s_slash here a.read) (slash-on s n e) b.read (emits s m c_until) u);
    }

    pub then-read : SaysAt item_s s at S n S₁ → starts (get_or s n 0) ≡ true → SaysAt sequence_s s n S₁ m S₂ → S₃ ≡ node S₂ seq_code (S₁.free - 1) 0 → SaysAt sequence_s s at S m S₃
    unfolding print_s post_s placed_s
    then-read a e b u = let t = a.tree in let q = b.tree in record {
      tree = then t q;
      ends = simp length-append (omega (arith, a.ends, b.ends));
      read = subst (λ (z : ℕ). Read s at S m S₃ (stack_of sequence_s) here (join seq_code 0 (placed_i at t) (placed_s z q)) (post_s (then t q))) a.ends
          (pair c_then seq_code 0 (omega arith) (omega arith) b.read.within (under s_more here a.read) (more-on s n e) b.read (emits s m c_then) u);
    }

    pub beside-read : SaysAt sequence_s s at S n S₁ → eqb (get_or s n 0) bar_mark ≡ true → eqb (get_or s (n + 1) 0) bar_mark ≡ true → SaysAt body_s s (n + 1 + 1) S₁ m S₂
        → S₃ ≡ node S₂ bar_mark (S₁.free - 1) n → SaysAt body_s s at S m S₃
    unfolding print_s post_s placed_s
    beside-read a d e b u = let t = a.tree in let q = b.tree in record {
      tree = beside t q;
      ends = simp length-append (omega (arith, a.ends, b.ends));
      read = subst (λ (z : ℕ). Read s at S m S₃ (stack_of body_s) here (join bar_mark z (placed_s at t) (placed_b (z + 2) q)) (post_b (beside t q))) a.ends
          (subst (λ (z : ℕ). Read s at S m S₃ (stack_of body_s) here (join bar_mark n (placed_s at t) (placed_b z q)) (post_b (beside t q))) (omega arith)
          (pair c_beside bar_mark n (omega arith) (omega arith) b.read.within (under s_bars here a.read) (bars-on s n d e) b.read (emits s m c_beside) u));
    }

    pub next-read : {d k : ℕ} (both : Bool) → SaysAt interruption_s s at S n S₁ → eqb (get_or s n 0) bar_mark ≡ true → both && not (eqb (get_or s (n + 1) 0) bar_mark) ≡ false
        → k ≡ n + length (join_text (join_of both)) → SaysAt (chain_s (join_of both)) s k S₁ m S₂ → d ≡ join_code (join_of both) → S₃ ≡ node S₂ d (S₁.free - 1) n
        → SaysAt (chain_s (join_of both)) s at S m S₃
    unfolding print_s post_s placed_s chain_text placed_chain
    next-read {d} {k} both a f e h b w u = let t = a.tree in let q = b.tree in let j = join_of both in record {
      tree = next t q;
      ends = simp length-append (omega (arith, a.ends, b.ends));
      read = subst (λ (z : ℕ). Read s at S m S₃ (stack_of (chain_s j)) here (join (join_code j) z (placed_n at t) (placed_chain j (z + length (join_text j)) q)) (post_c (next t q))) a.ends
          (subst (λ (z : ℕ). Read s at S m S₃ (stack_of (chain_s j)) here (join (join_code j) n (placed_n at t) (placed_chain j z q)) (post_c (next t q))) h
          (pair c_next (join_code j) n (omega arith) (omega arith) b.read.within (under (s_chain j) here a.read)
          (subst (λ (z : ℕ). Goes s n (λ K. s_chain j ∷ K) z (λ K. chain_q j (s_emit c_next ∷ K)) []) (sym h) (chain-on s n f both e)) b.read (emits s m c_next)
          (u ∙ ap (λ (z : ℕ). node S₂ z (S₁.free - 1) n) w)));
    }

-- ---- interruptions

-- a chain's tree and text, from its first join on
placed-chain : (j : Join) (b : ℕ) (c : Chain) → placed_c j b c ≡ placed_chain j (b + length (join_text j)) c
unfolding placed_s placed_chain
placed-chain j b (last n) = refl
placed-chain j b (next n c) = ap (join (join_code j) (b + length (join_text j) + length (print_n n)) (placed_n (b + length (join_text j)) n)) (placed-chain j (b + length (join_text j) + length (print_n n)) c)

length-chain : (j : Join) (c : Chain) → length (print_c j c) ≡ length (join_text j) + length (chain_text j c)
unfolding print_s chain_text
length-chain j (last n) = length-append (join_text j) (print_n n)
length-chain j (next n c) = simp length-append (omega (arith, length-chain j c))

module _ {s : List ℕ} {at : ℕ} {S : Store} {n : ℕ} {S₁ : Store} where
  pub braces-read : {m d k : ℕ} {S₂ S₃ : Store} (both : Bool) → eqb (get_or s at 0) brace_mark ≡ true → SaysAt interruption_s s (at + 1) S n S₁ → eqb (get_or s n 0) bar_mark ≡ true
      → eqb (get_or s (n + 1) 0) bar_mark ≡ both → k ≡ n + length (join_text (join_of both)) → SaysAt (chain_s (join_of both)) s k S₁ m S₂ → eqb (get_or s m 0) unbrace_mark ≡ true
      → d ≡ join_code (join_of both) → S₃ ≡ node S₂ d (S₁.free - 1) n → SaysAt interruption_s s at S (m + 1) S₃
  unfolding print_s post_s placed_s
  braces-read {m} {d} {k} {S₂} {S₃} both o a g e h b f w u = let t = a.tree in let q = b.tree in let j = join_of both in record {
    tree = braces j t q;
    ends =
        let y : m ≡ k + length (chain_text j q) = b.ends in
        let v : length (print_c j q) ≡ length (join_text j) + length (chain_text j q) = length-chain j q in
        simp length-append (omega (arith, a.ends, y, v));
    read = subst (λ (z : ℕ). Read s at S (m + 1) S₃ (stack_of interruption_s) here (join (join_code j) z (placed_n (at + 1) t) (placed_c j z q)) (post_n (braces j t q))) a.ends
        (subst (λ (z : Tree). Read s at S (m + 1) S₃ (stack_of interruption_s) here (join (join_code j) n (placed_n (at + 1) t) z) (post_n (braces j t q)))
        (ap (λ (z : ℕ). placed_chain j z q) h ∙ sym (placed-chain j n q))
        (pair (c_braces j) (join_code j) n (omega arith) (omega arith) (omega (arith, byte-in s m unbrace_mark refl f))
        (enter (omega arith) (open-brace s at o) (under s_sep here a.read))
        (subst (λ (z : ℕ). Goes s n (λ K. s_sep ∷ K) z (λ K. chain_q j (s_emit (c_braces j) ∷ s_brace ∷ K)) []) (sym h) (sep-on s n g both e)) b.read
        (goes-goes (goes-under s_brace here (emits s m (c_braces j))) (brace-on s m f)) (u ∙ ap (λ (z : ℕ). node S₂ z (S₁.free - 1) n) w)));
  }

  -- no join behind the first, half a join behind a later one, no brace at the end
  pub braces-bad : eqb (get_or s at 0) brace_mark ≡ true → SaysAt interruption_s s (at + 1) S n S₁ → eqb (get_or s n 0) bar_mark ≡ false → SaysBad (stack_of interruption_s) s at n
  braces-bad o a e = goes-bad (open-brace s at o) (stuck (under s_sep here a.read) (sep-no s n e))

  pub braces-stuck : {k p : ℕ} (both : Bool) → eqb (get_or s at 0) brace_mark ≡ true → SaysAt interruption_s s (at + 1) S n S₁ → eqb (get_or s n 0) bar_mark ≡ true
      → eqb (get_or s (n + 1) 0) bar_mark ≡ both → k ≡ n + length (join_text (join_of both)) → SaysBad (λ K. chain_q (join_of both) (s_emit (c_braces (join_of both)) ∷ s_brace ∷ K)) s k p
      → SaysBad (stack_of interruption_s) s at p
  braces-stuck {k} {p} both o a g e h b = let j = join_of both in goes-bad (open-brace s at o) (stuck (under s_sep here a.read) (goes-bad (sep-on s n g both e)
      (subst (λ (z : ℕ). SaysBad (λ K. chain_q j (s_emit (c_braces j) ∷ s_brace ∷ K)) s z p) h b)))

-- a chain that no brace closes
pub unclosed : {s : List ℕ} {at m : ℕ} {S S₂ : Store} {j : Join} → SaysAt (chain_s j) s at S m S₂ → eqb (get_or s m 0) unbrace_mark ≡ false
    → SaysBad (λ K. chain_q j (s_emit (c_braces j) ∷ s_brace ∷ K)) s at m
unclosed {s} {m} {j} b e = stuck (under (s_emit (c_braces j)) (λ K. s_brace ∷ K) b.read)
    (goes-bad (goes-under s_brace here (emits s m (c_braces j))) (brace-no s m e))

-- ---- events

module _ (s : List ℕ) (at : ℕ) (S S₁ : Store) (b : ℕ) (q : b ≡ get_or s at 0) (d : eqb (get_or s at 0) brace_mark ≡ false) (e : is_event b ≡ true) (u : S₁ ≡ node S b 0 at) where
  abbrev letter : ℕ
  letter = get_or s at 0 - 65

  is-letter : (T (ltb letter 26)) × (get_or s at 0 ≡ 65 + letter)
  is-letter = letter-of 65 (get_or s at 0) (ap is_event (sym q) ∙ e)

  -- the letter alone
  letter-read : Read s at S (at + 1) S₁ (λ K. s_intr ∷ K) (λ K. s_colon ∷ K) (leaf (65 + letter) at) (c_letter letter ∷ [])
  letter-read = let v : is_event (get_or s at 0) ≡ true = ap is_event (sym q) ∙ e in
      subst (λ (z : ℕ). Read s at S (at + 1) S₁ (λ K. s_intr ∷ K) (λ K. s_colon ∷ K) (leaf z at) (c_letter letter ∷ [])) is-letter.1
      (leafed (get_or s at 0) (inside s at is_event refl v) (u ∙ ap (λ (z : ℕ). node S z 0 at) q) (event-on s at d v))

  pub event-read : eqb (get_or s (at + 1) 0) colon_mark ≡ false → SaysAt interruption_s s at S (at + 1) S₁
  unfolding print_s post_s placed_s
  event-read c = record {
    tree = event letter is-letter.0;
    ends = refl;
    read = leave (omega arith) letter-read.within letter-read (colon-no s (at + 1) c);
  }

  pub treated-read : {m : ℕ} {S₂ S₃ : Store} → eqb (get_or s (at + 1) 0) colon_mark ≡ true → SaysAt item_s s (at + 1 + 1) S₁ m S₂ → S₃ ≡ node S₂ colon_mark S.free (at + 1)
      → SaysAt interruption_s s at S m S₃
  unfolding print_s post_s placed_s
  treated-read {m} {S₂} {S₃} c a z = let i = a.tree in let f : S₁.free ≡ S.free + 1 = ap (λ (W : Store). W.free) u in record {
    tree = treated letter is-letter.0 i;
    ends = omega (arith, a.ends);
    read = subst (λ (k : ℕ). Read s at S m S₃ (stack_of interruption_s) here (join colon_mark (at + 1) (leaf (65 + letter) at) (placed_i k i)) (c_letter letter ∷ (post_i i ++ (c_treated ∷ [])))) (omega arith)
        (pair c_treated colon_mark (at + 1) (omega arith) (omega arith) a.read.within letter-read (colon-on s (at + 1) c) a.read (emits s m c_treated)
        (z ∙ ap (λ (l : ℕ). node S₂ colon_mark l (at + 1)) (omega (arith, f))));
  }

  pub treated-bad : {p : ℕ} → eqb (get_or s (at + 1) 0) colon_mark ≡ true → SaysBad (stack_of item_s) s (at + 1 + 1) p → SaysBad (stack_of interruption_s) s at p
  treated-bad c a = stuck letter-read (goes-bad (colon-on s (at + 1) c) (bad-under (s_emit c_treated) here a))

-- ---- a part that stops

module _ {s : List ℕ} {at : ℕ} {S : Store} {n : ℕ} {S₁ : Store} where
  pub until-bad : {p : ℕ} → SaysAt starred_s s at S n S₁ → eqb (get_or s n 0) slash_mark ≡ true → SaysBad (stack_of interruption_s) s (n + 1) p → SaysBad (stack_of item_s) s at p
  until-bad a e b = stuck (under s_slash here a.read) (goes-bad (slash-on s n e) (bad-under (s_emit c_until) here b))

  pub then-bad : {p : ℕ} → SaysAt item_s s at S n S₁ → starts (get_or s n 0) ≡ true → SaysBad (stack_of sequence_s) s n p → SaysBad (stack_of sequence_s) s at p
  then-bad a e b = stuck (under s_more here a.read) (goes-bad (more-on s n e) (bad-under (s_emit c_then) here b))

  pub half-bad : SaysAt sequence_s s at S n S₁ → eqb (get_or s n 0) bar_mark ≡ true → eqb (get_or s (n + 1) 0) bar_mark ≡ false → SaysBad (stack_of body_s) s at (n + 1)
  half-bad a d e = stuck (under s_bars here a.read) (bars-half s n d e)

  pub beside-bad : {p : ℕ} → SaysAt sequence_s s at S n S₁ → eqb (get_or s n 0) bar_mark ≡ true → eqb (get_or s (n + 1) 0) bar_mark ≡ true → SaysBad (stack_of body_s) s (n + 1 + 1) p
      → SaysBad (stack_of body_s) s at p
  beside-bad a d e b = stuck (under s_bars here a.read) (goes-bad (bars-on s n d e) (bad-under (s_emit c_beside) here b))

  pub halved-bad : (both : Bool) → SaysAt interruption_s s at S n S₁ → eqb (get_or s n 0) bar_mark ≡ true → both && not (eqb (get_or s (n + 1) 0) bar_mark) ≡ true
      → SaysBad (stack_of (chain_s (join_of both))) s at (n + 1)
  halved-bad both a d e = stuck (under (s_chain (join_of both)) here a.read) (chain-half s n d both e)

  pub next-bad : {k p : ℕ} (both : Bool) → SaysAt interruption_s s at S n S₁ → eqb (get_or s n 0) bar_mark ≡ true → both && not (eqb (get_or s (n + 1) 0) bar_mark) ≡ false
      → k ≡ n + length (join_text (join_of both)) → SaysBad (stack_of (chain_s (join_of both))) s k p → SaysBad (stack_of (chain_s (join_of both))) s at p
  next-bad {k} {p} both a d e h b = let j = join_of both in stuck (under (s_chain j) here a.read) (goes-bad (chain-on s n d both e)
      (bad-under (s_emit c_next) here (subst (λ (z : ℕ). SaysBad (stack_of (chain_s j)) s z p) h b)))
