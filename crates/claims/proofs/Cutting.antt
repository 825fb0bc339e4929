-- The lines of a file are what document 01 says, and so are key and value of a line (the specs' `Lines`). Assumes nothing.
--     lines-exactly         `lines` are the cut of the bytes, and there is no other
--     key-value             a text with a space is its key, the space and its value
--     one_key               and no other key and value are
use Prim.Native.Nat.{ℕ, ◌+◌}
use mathlib.Core.Path.{◌≡◌, refl, sym, ap, ap₂, subst, ◌∙◌}
use mathlib.Core.Bool.{Bool, true, false, cond}
use mathlib.Core.List.{List, [], ◌∷◌, ◌++◌}
use mathlib.Core.Logic.{◌↔◌}
use native.Mathlib.Omega.{arith}
use borrow.Author.Tests.{eqb-true}
use lib.Dec.{T, eqb, eqb_refl}
use lib.ListN.{length}
use Rattle.paper.specs.Lists.{has}
use Rattle.paper.specs.Bytes.{line_end, space}
use Rattle.paper.specs.File.{Line, line, in_front, lines, key, value}
use Rattle.paper.proofs.Stays.{T_true}
use Rattle.laws.proofs.Letters.{false-not, has_here, has_there}
use Rattle.coding.proofs.Letters.{by-or}
use Rattle.coding.proofs.Found.{holds}
use Rattle.claims.specs.Lines.{Cut, no_bytes, ended_line, last_line, Split}
use Rattle.claims.proofs.Keys.{not_T}

-- a byte x in a list that begins with b
not-either : (x b : ℕ) (bs : List ℕ) → eqb b x ≡ false → (T (has x bs) → ⊥) → T (has x (b ∷ bs)) → ⊥
unfolding has
not-either x b bs f g t = by-or (eqb x b) (has x bs) t (λ h. false-not (eqb b x) f (same x b h)) g
  where
    same : (x b : ℕ) → T (eqb x b) → T (eqb b x)
    same x b h = subst (λ (y : ℕ). T (eqb y x)) (eqb-true x b (T_true (eqb x b) h)) (eqb_refl x)

not_first : (x b : ℕ) (bs : List ℕ) → (T (has x (b ∷ bs)) → ⊥) → eqb b x ≡ false
not_first x b bs f = not_T (eqb b x) (λ h. f (has_here x b bs (subst (λ (y : ℕ). T (eqb x y)) (sym (eqb-true b x (T_true (eqb b x) h))) (eqb_refl x))))

not-rest : (x b : ℕ) (bs : List ℕ) → (T (has x (b ∷ bs)) → ⊥) → T (has x bs) → ⊥
not-rest x b bs f h = f (has_there x b bs h)

-- ---- `lines` cut the bytes

-- a byte more at the front of the first line
cut-front : (b at : ℕ) (bs : List ℕ) (ls : List Line) → eqb b line_end ≡ false → Cut (at + 1) bs ls → Cut at (b ∷ bs) (in_front false at b ls)
cut-front b at bs ls q no_bytes = last_line b [] (not-either line_end b [] q (λ h. unfold has in h))
cut-front b at bs ls q (ended_line {bs = more} {ls = after} t f c) =
    ended_line (b ∷ t) (not-either line_end b t q f)
    (subst (λ (k : ℕ). Cut k more after) (let z : at + 1 + length t + 1 ≡ at + length (b ∷ t) + 1 = omega arith in z) c)
cut-front b at bs ls q (last_line c t f) = last_line b (c ∷ t) (not-either line_end b (c ∷ t) q f)

lines_cut : (at : ℕ) (bs : List ℕ) → Cut at bs (lines at bs)
unfolding lines
lines_cut at [] = no_bytes
lines_cut at (b ∷ bs) = go (eqb b line_end) refl (lines_cut (at + 1) bs)
  where
    go : (c : Bool) → eqb b line_end ≡ c → Cut (at + 1) bs (lines (at + 1) bs) → Cut at (b ∷ bs) (in_front c at b (lines (at + 1) bs))
    go true q h =
        subst (λ (x : ℕ). Cut at (x ∷ bs) (line at [] true ∷ lines (at + 1) bs)) (sym (eqb-true b line_end q))
        (ended_line [] (λ t. unfold has in t)
        (subst (λ (k : ℕ). Cut k bs (lines (at + 1) bs)) (let z : at + 1 ≡ at + 0 + 1 = omega arith in z) h))
    go false q h = cut-front b at bs (lines (at + 1) bs) q h

-- ---- and nothing else does

cut-ended : (at : ℕ) (t bs : List ℕ) → (T (has line_end t) → ⊥) → lines at (t ++ (line_end ∷ bs)) ≡ line at t true ∷ lines (at + length t + 1) bs
unfolding lines
cut-ended at [] bs f =
    ap (λ (c : Bool). in_front c at line_end (lines (at + 1) bs)) (T_true (eqb line_end line_end) (eqb_refl line_end))
    ∙ ap (λ (k : ℕ). line at [] true ∷ lines k bs) (let z : at + 1 ≡ at + 0 + 1 = omega arith in z)
cut-ended at (b ∷ t) bs f =
    ap₂ (λ (c : Bool) (ls : List Line). in_front c at b ls) (not_first line_end b t f) (cut-ended (at + 1) t bs (not-rest line_end b t f))
    ∙ ap (λ (k : ℕ). line at (b ∷ t) true ∷ lines k bs) (let z : at + 1 + length t + 1 ≡ at + length (b ∷ t) + 1 = omega arith in z)

cut-last : (at b : ℕ) (t : List ℕ) → (T (has line_end (b ∷ t)) → ⊥) → lines at (b ∷ t) ≡ line at (b ∷ t) false ∷ []
unfolding lines
cut-last at b [] f = ap (λ (c : Bool). in_front c at b []) (not_first line_end b [] f)
cut-last at b (c ∷ t) f =
    ap₂ (λ (x : Bool) (ls : List Line). in_front x at b ls) (not_first line_end b (c ∷ t) f) (cut-last (at + 1) c t (not-rest line_end b (c ∷ t) f))

cut-lines : (at : ℕ) (bs : List ℕ) (ls : List Line) → Cut at bs ls → lines at bs ≡ ls
unfolding lines
cut-lines at bs ls no_bytes = refl
cut-lines at bs ls (ended_line {bs = more} {ls = after} t f c) =
    cut-ended at t more f ∙ ap (λ (xs : List Line). line at t true ∷ xs) (cut-lines (at + length t + 1) more after c)
cut-lines at bs ls (last_line b t f) = cut-last at b t f

pub lines-exactly : (at : ℕ) (bs : List ℕ) (ls : List Line) → (lines at bs ≡ ls) ↔ Cut at bs ls
lines-exactly at bs ls = (λ e. subst (Cut at bs) e (lines_cut at bs), cut-lines at bs ls)

-- ---- key and value

has-further : (x b : ℕ) (bs : List ℕ) → eqb b x ≡ false → T (has x (b ∷ bs)) → T (has x bs)
has-further x b bs q t = go (has x bs) refl
  where
    go : (c : Bool) → has x bs ≡ c → T (has x bs)
    go true e = holds (has x bs) e
    go false e = absurd (not-either x b bs q (false-not (has x bs) e) t)

pub key-value : (text : List ℕ) → T (has space text) → Split text (key text) (value text)
unfolding key value
key-value [] t = absurd (unfold has in t)
key-value (b ∷ bs) t = go (eqb b space) refl (key-value bs)
  where
    go : (c : Bool) → eqb b space ≡ c → (T (has space bs) → Split bs (key bs) (value bs)) → Split (b ∷ bs) (cond c [] (b ∷ key bs)) (cond c bs (value bs))
    go true q f = record { is = ap (λ (x : ℕ). x ∷ bs) (eqb-true b space q); before = λ h. unfold has in h }
    go false q f =
        let s = f (has-further space b bs q t) in
        record { is = ap (λ (xs : List ℕ). b ∷ xs) s.is; before = not-either space b (key bs) q s.before }

key-of : (k v : List ℕ) → (T (has space k) → ⊥) → key (k ++ (space ∷ v)) ≡ k
unfolding key
key-of [] v f = ap (λ (c : Bool). cond c [] (space ∷ key v)) (T_true (eqb space space) (eqb_refl space))
key-of (b ∷ k) v f =
    ap₂ (λ (c : Bool) (xs : List ℕ). cond c [] (b ∷ xs)) (not_first space b k f) (key-of k v (not-rest space b k f))

value_of : (k v : List ℕ) → (T (has space k) → ⊥) → value (k ++ (space ∷ v)) ≡ v
unfolding value
value_of [] v f = ap (λ (c : Bool). cond c v (value v)) (T_true (eqb space space) (eqb_refl space))
value_of (b ∷ k) v f =
    ap (λ (c : Bool). cond c (k ++ (space ∷ v)) (value (k ++ (space ∷ v)))) (not_first space b k f) ∙ value_of k v (not-rest space b k f)

pub one_key : (text k v : List ℕ) → Split text k v → (key text ≡ k) × (value text ≡ v)
one_key text k v s = (ap key s.is ∙ key-of k v s.before, ap value s.is ∙ value_of k v s.before)
