-- How the machine of `Parse` goes at a place of a text, for each symbol: it takes the byte, or lets the symbol pass, or stops. The byte past the end is
-- taken for 0, which no symbol takes, so the end wants no case of its own.
--     Goes s i X j Y o      from the place i and the stack X the machine comes to the place j and the stack Y, and writes o, whatever comes behind
-- Assumes nothing.
use Prim.Native.Nat.{ℕ, ◌+◌, ◌-◌, ◌≤◌, ◌<◌}
use mathlib.Core.Bool.{Bool, true, false, cond, ◌&&◌, ◌||◌, not}
use mathlib.Core.List.{List, [], ◌∷◌, ◌++◌}
use mathlib.Core.Logic.{◌⊎◌, inl, inr, ⊎_elim}
use mathlib.Core.Path.{◌≡◌, refl, sym, ap, subst, ◌∙◌}
use native.Mathlib.Numerals.{add-one}
use native.Mathlib.Omega.{arith}
use native.Mathlib.Decide.{dec_lt}
use borrow.Author.Tests.{not-true, not-false}
use lib.Dec.{T, eqb}
use lib.ListN.{length, drop, get_or, drop_of_length-le, get_or-eq_default}
use lib.Seq.{drop-cons}
use Rattle.paper.specs.Bytes.{is_module, is_event, star_mark, slash_mark, one_mark, colon_mark, open_mark, close_mark, brace_mark, bar_mark, unbrace_mark}
use Rattle.paper.specs.Grammar.{Join, bar, bars, join_text}
use Rattle.paper.specs.Parse.{Code, c_named, c_letter, c_never, c_group, c_once, c_again, c_plain, c_until, c_only, c_then, c_single, c_beside, c_event, c_treated, c_last, c_next, c_braces, Sym, s_atom, s_star, s_slash, s_more, s_bars, s_bar, s_close, s_intr, s_colon, s_sep, s_next, s_second, s_brace, s_chain, s_emit, Fed, off, to, Out, done, bad, emit, item_q, sequence_q, body_q, chain_q, begin, begin_i, feed, pre, run}
use Rattle.laws.proofs.ParseComplete.{pre-pre, fed_to}
use Rattle.syntax.specs.Readers.{is_leaf, starts, join_of, here, SaysBad}

pub pre-nil : (r : Out) → pre [] r ≡ r
pre-nil (done x) = refl
pre-nil (bad p) = refl

-- a symbol passes, and writes its code
fed-emit : (w : List ℕ) (at : ℕ) (c : Code) (f : Fed) → fed_to w at (emit c f) ≡ pre (c ∷ []) (fed_to w at f)
fed-emit w at c off = refl
fed-emit w at c (to L o) = sym (pre-pre (c ∷ []) o (run w L (at + 1)))

differ : {A : Type 0} → false ≡ true → A
differ e = absurd (subst (λ (b : Bool). T (not b)) e tt)

-- ---- the machine at a place

module _ (s : List ℕ) (at : ℕ) where
  in-or-out : (at < length s) ⊎ (length s ≤ at)
  in-or-out = go (dec_lt at (length s))
    where
      go : Dec (at < length s) → (at < length s) ⊎ (length s ≤ at)
      go (yes h) = inl h
      go (no h) = inr (omega arith)

  end-at : (k : Sym) (K : List Sym) → length s ≤ at → run (drop at s) (k ∷ K) at ≡ bad at
  unfolding run
  end-at k K h = rw drop_of_length-le

  pub run_at : (M : List Sym) → at < length s → run (drop at s) M at ≡ fed_to (drop (at + 1) s) at (feed M (get_or s at 0))
  unfolding run
  run_at M h = rw (drop-cons s at 0, add-one at)

  pub step-to : (M L : List Sym) (o : List Code) → at < length s → feed M (get_or s at 0) ≡ to L o → run (drop at s) M at ≡ pre o (run (drop (at + 1) s) L (at + 1))
  step-to M L o h e = run_at M h ∙ ap (fed_to (drop (at + 1) s) at) e

  -- two stacks that take the next byte alike
  step_same : (k l : Sym) (K L : List Sym) → feed (k ∷ K) (get_or s at 0) ≡ feed (l ∷ L) (get_or s at 0) → run (drop at s) (k ∷ K) at ≡ run (drop at s) (l ∷ L) at
  step_same k l K L e = ⊎_elim
      (λ (h : at < length s). run_at (k ∷ K) h ∙ ap (fed_to (drop (at + 1) s) at) e ∙ sym (run_at (l ∷ L) h))
      (λ (h : length s ≤ at). end-at k K h ∙ sym (end-at l L h)) in-or-out

  -- a symbol that passes
  step_past : (y k : Sym) (K : List Sym) (c : Code) → feed (y ∷ k ∷ K) (get_or s at 0) ≡ emit c (feed (k ∷ K) (get_or s at 0))
      → run (drop at s) (y ∷ k ∷ K) at ≡ pre (c ∷ []) (run (drop at s) (k ∷ K) at)
  step_past y k K c e = ⊎_elim
      (λ (h : at < length s). run_at (y ∷ k ∷ K) h ∙ ap (fed_to (drop (at + 1) s) at) e
      ∙ fed-emit (drop (at + 1) s) at c (feed (k ∷ K) (get_or s at 0)) ∙ ap (pre (c ∷ [])) (sym (run_at (k ∷ K) h)))
      (λ (h : length s ≤ at). end-at y (k ∷ K) h ∙ ap (pre (c ∷ [])) (sym (end-at k K h))) in-or-out

  pub step-bad : (k : Sym) (K : List Sym) → feed (k ∷ K) (get_or s at 0) ≡ off → run (drop at s) (k ∷ K) at ≡ bad at
  step-bad k K e = ⊎_elim (λ (h : at < length s). run_at (k ∷ K) h ∙ ap (fed_to (drop (at + 1) s) at) e) (λ (h : length s ≤ at). end-at k K h) in-or-out

  -- a byte that a test takes and 0 does not is inside the text
  pub inside : (p : ℕ → Bool) → p 0 ≡ false → p (get_or s at 0) ≡ true → at < length s
  inside p e f = ⊎_elim (λ h. h) (λ (h : length s ≤ at). differ (sym e ∙ ap p (sym (get_or-eq_default s 0 h)) ∙ f)) in-or-out

pub record Goes (s : List ℕ) (i : ℕ) (X : List Sym → List Sym) (j : ℕ) (Y : List Sym → List Sym) (o : List Code) : Type 0 where
  pub goes : (k : Sym) (K : List Sym) → run (drop i s) (X (k ∷ K)) i ≡ pre o (run (drop j s) (Y (k ∷ K)) j)

pub goes-goes : {s : List ℕ} {i j m : ℕ} {X Y Z : List Sym → List Sym} {o x : List Code} → Goes s i X j Y o → Goes s j Y m Z x → Goes s i X m Z (o ++ x)
goes-goes {s} {m} {Z} {o} {x} a b =
    record { goes = λ k K. a.goes k K ∙ ap (pre o) (b.goes k K) ∙ pre-pre o x (run (drop m s) (Z (k ∷ K)) m) }

-- with more to come behind
pub goes-under : {s : List ℕ} {i j : ℕ} {X Y : List Sym → List Sym} {o : List Code} (y : Sym) (Z : List Sym → List Sym) → Goes s i X j Y o
    → Goes s i (λ K. X (y ∷ Z K)) j (λ K. Y (y ∷ Z K)) o
goes-under y Z a = record { goes = λ k K. a.goes y (Z (k ∷ K)) }

pub goes-bad : {s : List ℕ} {i j p : ℕ} {X Y : List Sym → List Sym} {o : List Code} → Goes s i X j Y o → SaysBad Y s j p → SaysBad X s i p
goes-bad {o} a b = record { stops = λ k K. a.goes k K ∙ ap (pre o) (b.stops k K) }

-- ---- the symbols

module _ (s : List ℕ) (n : ℕ) where
  abbrev b₀ : ℕ
  b₀ = get_or s n 0

  pub byte-in : (c : ℕ) → eqb 0 c ≡ false → eqb b₀ c ≡ true → n < length s
  byte-in c z e = inside s n (λ x. eqb x c) z e

  takes : (X Y : List Sym → List Sym) (c : ℕ) (o : List Code) (G : List Sym → Fed) → ((K : List Sym) → feed (X K) b₀ ≡ cond (eqb b₀ c) (to (Y K) o) (G K))
      → eqb 0 c ≡ false → eqb b₀ c ≡ true → Goes s n X (n + 1) Y o
  takes X Y c o G q z e = record {
    goes = λ k K. step-to s n (X (k ∷ K)) (Y (k ∷ K)) o (byte-in c z e) (q (k ∷ K) ∙ ap (λ (t : Bool). cond t (to (Y (k ∷ K)) o) (G (k ∷ K))) e);
  }

  passes : (y : Sym) (c : ℕ) (d : Code) (F : List Sym → Fed) → ((K : List Sym) → feed (y ∷ K) b₀ ≡ cond (eqb b₀ c) (F K) (emit d (feed K b₀)))
      → eqb b₀ c ≡ false → Goes s n (λ K. y ∷ K) n here (d ∷ [])
  passes y c d F q e = record {
    goes = λ k K. step_past s n y k K d (q (k ∷ K) ∙ ap (λ (t : Bool). cond t (F (k ∷ K)) (emit d (feed (k ∷ K) b₀))) e);
  }

  wants : (y : Sym) (c : ℕ) (F : List Sym → Fed) → ((K : List Sym) → feed (y ∷ K) b₀ ≡ cond (eqb b₀ c) (F K) off) → eqb b₀ c ≡ false → SaysBad (λ K. y ∷ K) s n n
  wants y c F q e = record { stops = λ k K. step-bad s n y (k ∷ K) (q (k ∷ K) ∙ ap (λ (t : Bool). cond t (F (k ∷ K)) off) e) }

  pub emits : (c : Code) → Goes s n (λ K. s_emit c ∷ K) n here (c ∷ [])
  unfolding feed
  emits c = record { goes = λ k K. step_past s n (s_emit c) k K c refl }

  pub star-on : eqb b₀ star_mark ≡ true → Goes s n (λ K. s_star ∷ K) (n + 1) here (c_again ∷ [])
  unfolding feed
  star-on = takes (λ K. s_star ∷ K) here star_mark (c_again ∷ []) (λ K. emit c_once (feed K b₀)) (λ K. refl) refl

  pub star-no : eqb b₀ star_mark ≡ false → Goes s n (λ K. s_star ∷ K) n here (c_once ∷ [])
  unfolding feed
  star-no = passes s_star star_mark c_once (λ K. to K (c_again ∷ [])) (λ K. refl)

  pub slash-on : eqb b₀ slash_mark ≡ true → Goes s n (λ K. s_slash ∷ K) (n + 1) (λ K. s_intr ∷ s_emit c_until ∷ K) []
  unfolding feed
  slash-on = takes (λ K. s_slash ∷ K) (λ K. s_intr ∷ s_emit c_until ∷ K) slash_mark [] (λ K. emit c_plain (feed K b₀)) (λ K. refl) refl

  pub slash-no : eqb b₀ slash_mark ≡ false → Goes s n (λ K. s_slash ∷ K) n here (c_plain ∷ [])
  unfolding feed
  slash-no = passes s_slash slash_mark c_plain (λ K. to (s_intr ∷ s_emit c_until ∷ K) []) (λ K. refl)

  pub close-on : eqb b₀ close_mark ≡ true → Goes s n (λ K. s_close ∷ K) (n + 1) here (c_group ∷ [])
  unfolding feed
  close-on = takes (λ K. s_close ∷ K) here close_mark (c_group ∷ []) (λ K. off) (λ K. refl) refl

  pub close-no : eqb b₀ close_mark ≡ false → SaysBad (λ K. s_close ∷ K) s n n
  unfolding feed
  close-no = wants s_close close_mark (λ K. to K (c_group ∷ [])) (λ K. refl)

  pub brace-on : eqb b₀ unbrace_mark ≡ true → Goes s n (λ K. s_brace ∷ K) (n + 1) here []
  unfolding feed
  brace-on = takes (λ K. s_brace ∷ K) here unbrace_mark [] (λ K. off) (λ K. refl) refl

  pub brace-no : eqb b₀ unbrace_mark ≡ false → SaysBad (λ K. s_brace ∷ K) s n n
  unfolding feed
  brace-no = wants s_brace unbrace_mark (λ K. to K []) (λ K. refl)

  pub colon-on : eqb b₀ colon_mark ≡ true → Goes s n (λ K. s_colon ∷ K) (n + 1) (λ K. item_q (s_emit c_treated ∷ K)) []
  unfolding feed
  colon-on = takes (λ K. s_colon ∷ K) (λ K. item_q (s_emit c_treated ∷ K)) colon_mark [] (λ K. emit c_event (feed K b₀)) (λ K. refl) refl

  pub colon-no : eqb b₀ colon_mark ≡ false → Goes s n (λ K. s_colon ∷ K) n here (c_event ∷ [])
  unfolding feed
  colon-no = passes s_colon colon_mark c_event (λ K. to (item_q (s_emit c_treated ∷ K)) []) (λ K. refl)

  pub bars-no : eqb b₀ bar_mark ≡ false → Goes s n (λ K. s_bars ∷ K) n here (c_single ∷ [])
  unfolding feed
  bars-no = passes s_bars bar_mark c_single (λ K. to (s_bar ∷ K) []) (λ K. refl)

  pub chain-no : (j : Join) → eqb b₀ bar_mark ≡ false → Goes s n (λ K. s_chain j ∷ K) n here (c_last ∷ [])
  unfolding feed
  chain-no bar = passes (s_chain bar) bar_mark c_last (λ K. to (chain_q bar (s_emit c_next ∷ K)) []) (λ K. refl)
  chain-no bars = passes (s_chain bars) bar_mark c_last (λ K. to (s_second ∷ K) []) (λ K. refl)

  pub sep-no : eqb b₀ bar_mark ≡ false → SaysBad (λ K. s_sep ∷ K) s n n
  unfolding feed
  sep-no = wants s_sep bar_mark (λ K. to (s_next ∷ K) []) (λ K. refl)

  -- ---- the bytes with which an atom or an interruption begins

  pub open-on : eqb b₀ open_mark ≡ true → Goes s n (λ K. s_atom ∷ K) (n + 1) (λ K. body_q (s_close ∷ K)) []
  unfolding feed begin
  open-on = takes (λ K. s_atom ∷ K) (λ K. body_q (s_close ∷ K)) open_mark []
      (λ K. cond (is_module b₀) (to K (c_named (b₀ - 97) ∷ [])) (cond (eqb b₀ one_mark) (to K (c_never ∷ [])) off)) (λ K. refl) refl

  pub module-on : eqb b₀ open_mark ≡ false → is_module b₀ ≡ true → Goes s n (λ K. s_atom ∷ K) (n + 1) here (c_named (b₀ - 97) ∷ [])
  unfolding feed begin
  module-on d e = record { goes = λ k K. step-to s n (s_atom ∷ k ∷ K) (k ∷ K) (c_named (b₀ - 97) ∷ []) (inside s n is_module refl e) (rw (d, e)) }

  pub one_on : eqb b₀ open_mark ≡ false → is_module b₀ ≡ false → eqb b₀ one_mark ≡ true → Goes s n (λ K. s_atom ∷ K) (n + 1) here (c_never ∷ [])
  unfolding feed begin
  one_on d m e = record { goes = λ k K. step-to s n (s_atom ∷ k ∷ K) (k ∷ K) (c_never ∷ []) (byte-in one_mark refl e) (rw (d, m, e)) }

  begin-no : (K : List Sym) (f : Fed) → eqb b₀ open_mark ≡ false → is_leaf b₀ ≡ false → begin K b₀ f ≡ f
  unfolding begin
  begin-no K f d e = ap (λ (t : Bool). cond t (to (body_q (s_close ∷ K)) []) (cond (is_module b₀) (to K (c_named (b₀ - 97) ∷ [])) (cond (eqb b₀ one_mark) (to K (c_never ∷ [])) f))) d ∙ go (eqb b₀ one_mark) (is_module b₀) e
    where
      go : (x y : Bool) → x || y ≡ false → cond y (to K (c_named (b₀ - 97) ∷ [])) (cond x (to K (c_never ∷ [])) f) ≡ f
      go true y q = differ (sym q)
      go false true q = differ (sym q)
      go false false q = refl

  pub atom-no : eqb b₀ open_mark ≡ false → is_leaf b₀ ≡ false → SaysBad (λ K. s_atom ∷ K) s n n
  unfolding feed
  atom-no d e = record { stops = λ k K. step-bad s n s_atom (k ∷ K) (begin-no (k ∷ K) off d e) }

  starts-no : starts b₀ ≡ false → (eqb b₀ open_mark ≡ false) × (is_leaf b₀ ≡ false)
  starts-no = go (eqb b₀ open_mark)
    where
      go : (x : Bool) → x || is_leaf b₀ ≡ false → (x ≡ false) × (is_leaf b₀ ≡ false)
      go true e = differ (sym e)
      go false e = (refl, e)

  pub more_no : starts b₀ ≡ false → Goes s n (λ K. s_more ∷ K) n here (c_only ∷ [])
  unfolding feed
  more_no e = let z = starts-no e in
      record { goes = λ k K. step_past s n s_more k K c_only (begin-no (s_star ∷ s_slash ∷ s_more ∷ s_emit c_then ∷ k ∷ K) (emit c_only (feed (k ∷ K) b₀)) z.0 z.1) }

  -- what stands beside an atom's first byte does not matter
  begin-same : (K : List Sym) (f g : Fed) → starts b₀ ≡ true → begin K b₀ f ≡ begin K b₀ g
  unfolding begin
  begin-same K f g = go (eqb b₀ open_mark) (is_module b₀) (eqb b₀ one_mark)
    where
      go : (x y z : Bool) → x || (z || y) ≡ true
          → cond x (to (body_q (s_close ∷ K)) []) (cond y (to K (c_named (b₀ - 97) ∷ [])) (cond z (to K (c_never ∷ [])) f))
          ≡ cond x (to (body_q (s_close ∷ K)) []) (cond y (to K (c_named (b₀ - 97) ∷ [])) (cond z (to K (c_never ∷ [])) g))
      go true y z e = refl
      go false true z e = refl
      go false false true e = refl
      go false false false e = differ e

  pub more-on : starts b₀ ≡ true → Goes s n (λ K. s_more ∷ K) n (λ K. sequence_q (s_emit c_then ∷ K)) []
  unfolding feed
  more-on e = record {
    goes = λ k K. let L : List Sym = s_star ∷ s_slash ∷ s_more ∷ s_emit c_then ∷ k ∷ K in
        step_same s n s_more s_atom (k ∷ K) L (begin-same L (emit c_only (feed (k ∷ K) b₀)) off e) ∙ sym (pre-nil (run (drop n s) (s_atom ∷ L) n));
  }

  pub open-brace : eqb b₀ brace_mark ≡ true → Goes s n (λ K. s_intr ∷ K) (n + 1) (λ K. s_intr ∷ s_sep ∷ K) []
  unfolding feed begin_i
  open-brace = takes (λ K. s_intr ∷ K) (λ K. s_intr ∷ s_sep ∷ K) brace_mark []
      (λ K. cond (is_event b₀) (to (s_colon ∷ K) (c_letter (b₀ - 65) ∷ [])) off) (λ K. refl) refl

  pub event-on : eqb b₀ brace_mark ≡ false → is_event b₀ ≡ true → Goes s n (λ K. s_intr ∷ K) (n + 1) (λ K. s_colon ∷ K) (c_letter (b₀ - 65) ∷ [])
  unfolding feed begin_i
  event-on d e = record { goes = λ k K. step-to s n (s_intr ∷ k ∷ K) (s_colon ∷ k ∷ K) (c_letter (b₀ - 65) ∷ []) (inside s n is_event refl e) (rw (d, e)) }

  pub intr-no : eqb b₀ brace_mark ≡ false → is_event b₀ ≡ false → SaysBad (λ K. s_intr ∷ K) s n n
  unfolding feed begin_i
  intr-no d e = record { stops = λ k K. step-bad s n s_intr (k ∷ K) (rw (d, e)) }

  -- ---- the halves of a join

  bar-first : eqb b₀ bar_mark ≡ true → Goes s n (λ K. s_bars ∷ K) (n + 1) (λ K. s_bar ∷ K) []
  unfolding feed
  bar-first = takes (λ K. s_bars ∷ K) (λ K. s_bar ∷ K) bar_mark [] (λ K. emit c_single (feed K b₀)) (λ K. refl) refl

  bar-second : eqb b₀ bar_mark ≡ true → Goes s n (λ K. s_bar ∷ K) (n + 1) (λ K. body_q (s_emit c_beside ∷ K)) []
  unfolding feed
  bar-second = takes (λ K. s_bar ∷ K) (λ K. body_q (s_emit c_beside ∷ K)) bar_mark [] (λ K. off) (λ K. refl) refl

  bar-missing : eqb b₀ bar_mark ≡ false → SaysBad (λ K. s_bar ∷ K) s n n
  unfolding feed
  bar-missing = wants s_bar bar_mark (λ K. to (body_q (s_emit c_beside ∷ K)) []) (λ K. refl)

  chain_first : eqb b₀ bar_mark ≡ true → Goes s n (λ K. s_chain bars ∷ K) (n + 1) (λ K. s_second ∷ K) []
  unfolding feed
  chain_first = takes (λ K. s_chain bars ∷ K) (λ K. s_second ∷ K) bar_mark [] (λ K. emit c_last (feed K b₀)) (λ K. refl) refl

  chain_second : eqb b₀ bar_mark ≡ true → Goes s n (λ K. s_second ∷ K) (n + 1) (λ K. chain_q bars (s_emit c_next ∷ K)) []
  unfolding feed
  chain_second = takes (λ K. s_second ∷ K) (λ K. chain_q bars (s_emit c_next ∷ K)) bar_mark [] (λ K. off) (λ K. refl) refl

  chain-missing : eqb b₀ bar_mark ≡ false → SaysBad (λ K. s_second ∷ K) s n n
  unfolding feed
  chain-missing = wants s_second bar_mark (λ K. to (chain_q bars (s_emit c_next ∷ K)) []) (λ K. refl)

  chain-bar : eqb b₀ bar_mark ≡ true → Goes s n (λ K. s_chain bar ∷ K) (n + 1) (λ K. chain_q bar (s_emit c_next ∷ K)) []
  unfolding feed
  chain-bar = takes (λ K. s_chain bar ∷ K) (λ K. chain_q bar (s_emit c_next ∷ K)) bar_mark [] (λ K. emit c_last (feed K b₀)) (λ K. refl) refl

  sep-first : eqb b₀ bar_mark ≡ true → Goes s n (λ K. s_sep ∷ K) (n + 1) (λ K. s_next ∷ K) []
  unfolding feed
  sep-first = takes (λ K. s_sep ∷ K) (λ K. s_next ∷ K) bar_mark [] (λ K. off) (λ K. refl) refl

  sep-second : eqb b₀ bar_mark ≡ true → Goes s n (λ K. s_next ∷ K) (n + 1) (λ K. chain_q bars (s_emit (c_braces bars) ∷ s_brace ∷ K)) []
  unfolding feed
  sep-second = takes (λ K. s_next ∷ K) (λ K. chain_q bars (s_emit (c_braces bars) ∷ s_brace ∷ K)) bar_mark []
      (λ K. begin_i (s_chain bar ∷ s_emit (c_braces bar) ∷ s_brace ∷ K) b₀ off) (λ K. refl) refl

  sep-single : eqb b₀ bar_mark ≡ false → Goes s n (λ K. s_next ∷ K) n (λ K. chain_q bar (s_emit (c_braces bar) ∷ s_brace ∷ K)) []
  unfolding feed
  sep-single e = record {
    goes = λ k K. let L : List Sym = s_chain bar ∷ s_emit (c_braces bar) ∷ s_brace ∷ k ∷ K in
        step_same s n s_next s_intr (k ∷ K) L (ap (λ (t : Bool). cond t (to (chain_q bars (s_emit (c_braces bars) ∷ s_brace ∷ k ∷ K)) []) (begin_i L b₀ off)) e)
        ∙ sym (pre-nil (run (drop n s) (s_intr ∷ L) n));
  }

-- ---- a join, from its first bar on

module _ (s : List ℕ) (n : ℕ) (e : eqb (get_or s n 0) bar_mark ≡ true) where
  pub bars-on : eqb (get_or s (n + 1) 0) bar_mark ≡ true → Goes s n (λ K. s_bars ∷ K) (n + 1 + 1) (λ K. body_q (s_emit c_beside ∷ K)) []
  bars-on d = goes-goes (bar-first s n e) (bar-second s (n + 1) d)

  pub bars-half : eqb (get_or s (n + 1) 0) bar_mark ≡ false → SaysBad (λ K. s_bars ∷ K) s n (n + 1)
  bars-half d = goes-bad (bar-first s n e) (bar-missing s (n + 1) d)

  -- the first join of a chain tells the kind of the others
  pub sep-on : (both : Bool) → eqb (get_or s (n + 1) 0) bar_mark ≡ both
      → Goes s n (λ K. s_sep ∷ K) (n + length (join_text (join_of both))) (λ K. chain_q (join_of both) (s_emit (c_braces (join_of both)) ∷ s_brace ∷ K)) []
  sep-on true d = subst (λ (m : ℕ). Goes s n (λ K. s_sep ∷ K) m (λ K. chain_q bars (s_emit (c_braces bars) ∷ s_brace ∷ K)) []) (omega arith)
      (goes-goes (sep-first s n e) (sep-second s (n + 1) d))
  sep-on false d = goes-goes (sep-first s n e) (sep-single s (n + 1) d)

  pub chain-on : (both : Bool) → both && not (eqb (get_or s (n + 1) 0) bar_mark) ≡ false
      → Goes s n (λ K. s_chain (join_of both) ∷ K) (n + length (join_text (join_of both))) (λ K. chain_q (join_of both) (s_emit c_next ∷ K)) []
  chain-on true d = subst (λ (m : ℕ). Goes s n (λ K. s_chain bars ∷ K) m (λ K. chain_q bars (s_emit c_next ∷ K)) []) (omega arith)
      (goes-goes (chain_first s n e) (chain_second s (n + 1) (not-false (eqb (get_or s (n + 1) 0) bar_mark) d)))
  chain-on false d = chain-bar s n e

  pub chain-half : (both : Bool) → both && not (eqb (get_or s (n + 1) 0) bar_mark) ≡ true → SaysBad (λ K. s_chain (join_of both) ∷ K) s n (n + 1)
  chain-half true d = goes-bad (chain_first s n e) (chain-missing s (n + 1) (not-true (eqb (get_or s (n + 1) 0) bar_mark) d))
  chain-half false d = differ d
