-- Why Basic's compile refuses a file that it refuses (`Reasons`: Reason). Basic reads as Adaptive does, and then has two checks more, so its refusal is
-- one of Adaptive's at the same place, or No. 15 or 16 where Adaptive's checks are all clear; and there the file contains that construct.
-- Assumes nothing.
use Prim.Native.Nat.{ℕ, ◌+◌}
use mathlib.Core.Path.{◌≡◌, refl, sym, ap, subst, ◌∙◌}
use mathlib.Core.Bool.{Bool, true, false, ◌||◌}
use mathlib.Core.List.{List, [], ◌∷◌, ◌++◌}
use mathlib.Core.Logic.{◌⊎◌, inl, inr, ⊎_elim}
use mathlib.Core.Option.{Option, none, some}
use native.Mathlib.Omega.{arith}
use lib.Dec.{ltb}
use lib.ListN.{length}
use borrow.Author.Tests.{ltb-true}
use Rattle.paper.specs.Lists.{bytes}
use Rattle.paper.specs.Grammar.{Sequence}
use Rattle.paper.specs.Parse.{Parsed, program, stops, parse}
use Rattle.paper.specs.File.{Answer, refused, accepted, unless, and_then, where_if, Value, Read, nothing_read, lines, read_lines}
use Rattle.paper.specs.Limits.{braces_joined}
use Rattle.paper.specs.Reaction.{Program, State}
use Rattle.paper.specs.Discovery.{discovered}
use Rattle.paper.specs.Refusals.{Edition, basic, adaptive, most_bytes, line_of, program_of, programmed, with_program, reading, any_too_large, has_too_many, discovering}
use Rattle.paper.specs.Calls.{Compiled, output_bytes, work_bytes, cleared, compiled_states, compiled_program, compiled}
use Rattle.paper.proofs.Choices.{clash}
use Rattle.laws.proofs.Parsing.{parse-program}
use Rattle.laws.proofs.Ordered.{Check, check, checks, first, programmed-first}
use Rattle.laws.proofs.Exact.{number-17, number-18}
use Rattle.compiler.proofs.Whole.{by-room}
use Rattle.claims.specs.Reasons.{LineAt, FugitiveLine, JoinedAt, Reason, short_output, short_work, as_adaptive, has_fugitive, has_joined, too_many, too_large}
use Rattle.claims.proofs.Where.{fugitive-stands, program-stands}
use Rattle.claims.proofs.Joints.{joined-stands}

-- ---- of two lists of checks, one behind the other

first_either : {A : Type 0} (a : A) (n p : ℕ) (cs ds : List Check) → first (cs ++ ds) a ≡ refused n p
    → (first cs a ≡ refused n p) ⊎ ((first cs a ≡ accepted a) × (first ds a ≡ refused n p))
unfolding first
first_either a n p [] ds h = inr (refl, h)
first_either a n p (c ∷ cs) ds h = by c.place h (λ k. first_either a n p cs ds k)
  where
    by : (o : Option ℕ) → unless o c.number (first (cs ++ ds) a) ≡ refused n p
        → (first (cs ++ ds) a ≡ refused n p → (first cs a ≡ refused n p) ⊎ ((first cs a ≡ accepted a) × (first ds a ≡ refused n p)))
        → (unless o c.number (first cs a) ≡ refused n p) ⊎ ((unless o c.number (first cs a) ≡ accepted a) × (first ds a ≡ refused n p))
    by none z f = f z
    by (some k) z f = inl z

-- ---- Basic's two checks more

abbrev more : Read → ℕ → Sequence → List Check
more r at s = check 15 (line_of r.fugitive) ∷ check 16 (braces_joined at s) ∷ []

-- what was read of a file, as far as its program's tree
record Opened (file : List ℕ) (r : Read) (v : Value) (s : Sequence) : Type 0 where
  short : ltb most_bytes (length file) ≡ false
  read : read_lines nothing_read (lines 0 file) ≡ accepted r
  its : r.program ≡ some v
  tree : parse v.is ≡ program s

-- Adaptive accepts, and one of the two refuses
record Beyond (file : List ℕ) (n p : ℕ) : Type 0 where
  r : Read
  v : Value
  s : Sequence
  opened : Opened file r v s
  accepts : reading parse adaptive file ≡ accepted (program_of r v.is s)
  refuses : first (more r v.at s) (program_of r v.is s) ≡ refused n p

module _ (file : List ℕ) (n p : ℕ) where
  abbrev Differs : Type 0
  Differs = (reading parse adaptive file ≡ refused n p) ⊎ Beyond file n p

  read-on : (e : Edition) (r : Read) (v : Value) (s : Sequence) → Opened file r v s → reading parse e file ≡ programmed e r v (program s)
  unfolding reading with_program
  read-on e r v s o = rw (o.short, o.read, o.its, o.tree)

  by-tree : (r : Read) (v : Value) (s : Sequence) → Opened file r v s → programmed basic r v (program s) ≡ refused n p → Differs
  by-tree r v s o h =
      let q = program_of r v.is s in
      let i = read-on adaptive r v s o ∙ programmed-first adaptive r v s in
      ⊎_elim (λ k. inl (i ∙ k)) (λ k. inr (record { r = r; v = v; s = s; opened = o; accepts = i ∙ k.0; refuses = k.1 }))
      (first_either q n p (checks adaptive r v.at v.is s) (more r v.at s) (sym (programmed-first basic r v s) ∙ h))

  by-parse : (r : Read) (v : Value) (x : Parsed) → ltb most_bytes (length file) ≡ false → read_lines nothing_read (lines 0 file) ≡ accepted r → r.program ≡ some v → parse v.is ≡ x
      → programmed basic r v x ≡ refused n p → Differs
  unfolding reading with_program programmed
  by-parse r v (stops k) i j m o h = inl (rw (i, j, m, o) h)
  by-parse r v (program s) i j m o h = by-tree r v s (record { short = i; read = j; its = m; tree = o }) h

  by_value : (r : Read) (o : Option Value) → ltb most_bytes (length file) ≡ false → read_lines nothing_read (lines 0 file) ≡ accepted r → r.program ≡ o
      → with_program parse basic (length file) r o ≡ refused n p → Differs
  unfolding reading with_program
  by_value r none i j m h = inl (rw (i, j, m) h)
  by_value r (some v) i j m h = by-parse r v (parse v.is) i j m refl h

  by_lines : (a : Answer Read) → ltb most_bytes (length file) ≡ false → read_lines nothing_read (lines 0 file) ≡ a
      → and_then a (λ r. with_program parse basic (length file) r r.program) ≡ refused n p → Differs
  unfolding reading
  by_lines (refused k at) i j h = inl (rw (i, j) h)
  by_lines (accepted r) i j h = by_value r r.program i j refl h

  by_length : (b : Bool) → ltb most_bytes (length file) ≡ b
      → unless (where_if b 0) 2 (and_then (read_lines nothing_read (lines 0 file)) (λ r. with_program parse basic (length file) r r.program)) ≡ refused n p → Differs
  unfolding reading
  by_length true i h = inl (rw i h)
  by_length false i h = by_lines (read_lines nothing_read (lines 0 file)) i refl h

  editions-differ : reading parse basic file ≡ refused n p → Differs
  unfolding reading
  editions-differ h = by_length (ltb most_bytes (length file)) refl h

-- ---- and there the construct stands

fugitive-line : (file : List ℕ) (r : Read) → read_lines nothing_read (lines 0 file) ≡ accepted r → (o : Option Value) → r.fugitive ≡ o → (p : ℕ) → line_of o ≡ some p → FugitiveLine file p
unfolding bytes
fugitive-line file r h none e p q = clash (cc)
fugitive-line file r h (some v) e p q =
    let y : v.line_at ≡ p = cc in
    subst (FugitiveLine file) y (record { value = v.is; line = (fugitive-stands file r h v e).line_is })

joined_at : (file : List ℕ) (r : Read) (v : Value) (s : Sequence) → Opened file r v s → (p : ℕ) → braces_joined v.at s ≡ some p → JoinedAt file p
unfolding bytes
joined_at file r v s o p h =
    let l = program-stands file r o.read v o.its in
    let e = l.value_at in
    let at : v.at ≡ v.line_at + 8 = omega arith in
    let j = joined-stands v.at s p h in
    let d = j.1 in
    record {
      begins = v.line_at;
      tree = s;
      line = subst (λ (xs : List ℕ). LineAt file v.line_at (bytes "program " ++ xs)) (parse-program v.is s o.tree) l.line_is;
      inside = j.0;
      joint = j.2;
      place = omega arith;
      first = ap (λ (k : ℕ). braces_joined k s) (sym at) ∙ h;
    }

-- No. 17 or 18, at place 0
discovering-refuses : (q : Program) (n p : ℕ) → discovering q ≡ refused n p → (p ≡ 0) × ((n ≡ 17) ⊎ (n ≡ 18))
unfolding discovering
discovering-refuses q n p h = by (has_too_many (discovered q)) (any_too_large (discovered q).seen) h
  where
    by : (a b : Bool) → unless (where_if a 0) 17 (unless (where_if b 0) 18 (accepted (discovered q).seen)) ≡ refused n p → (p ≡ 0) × ((n ≡ 17) ⊎ (n ≡ 18))
    by true b z = (cc, inl (cc))
    by false true z = (cc, inr (cc))
    by false false z = clash (cc)

-- ---- every refusal of Basic's compile

module _ (file output work : List ℕ) where
  abbrev Its : ℕ → ℕ → Type 0
  Its = Reason file output work

  moved : (m n k p : ℕ) → m ≡ n → k ≡ p → Its m k → Its n p
  moved m n k p e d r = subst (λ (x : ℕ). Its x p) e (subst (Its m) d r)

  beyond-reason : (n p : ℕ) → Beyond file n p → Its n p
  unfolding first
  beyond-reason n p b = by (line_of b.r.fugitive) (braces_joined b.v.at b.s) refl refl b.refuses
    where
      q : Program
      q = program_of b.r b.v.is b.s

      by : (x y : Option ℕ) → line_of b.r.fugitive ≡ x → braces_joined b.v.at b.s ≡ y → unless x 15 (unless y 16 (accepted q)) ≡ refused n p → Its n p
      by (some k) y e d z =
          moved 15 n k p (cc) (cc) (has_fugitive q b.accepts (fugitive-line file b.r b.opened.read b.r.fugitive refl k e))
      by none (some k) e d z = moved 16 n k p (cc) (cc) (has_joined q b.accepts (joined_at file b.r b.v b.s b.opened k d))
      by none none e d z = clash (cc)

  reading-reason : (n p : ℕ) → reading parse basic file ≡ refused n p → Its n p
  reading-reason n p h = ⊎_elim (λ k. as_adaptive k) (beyond-reason n p) (editions-differ file n p h)

  states-reason : (q : Program) → reading parse basic file ≡ accepted q → (n p : ℕ) → discovering q ≡ refused n p → Its n p
  states-reason q i n p h =
      let d = discovering-refuses q n p h in
      let given : (m : ℕ) → n ≡ m → discovering q ≡ refused m 0 =
      λ m e. h ∙ (ap (λ (x : ℕ). refused x p) e ∙ ap (λ (x : ℕ). refused m x) d.0)
      in
      ⊎_elim
      (λ (e : n ≡ 17). moved 17 n 0 p (sym e) (sym d.0) (too_many q i ((number-17 q).0 (given 17 e))))
      (λ (e : n ≡ 18).
      let l = (number-18 q).0 (given 18 e) in
      moved 18 n 0 p (sym e) (sym d.0) (too_large q i l.0 l.1.0 l.1.1 l.1.2))
      d.1

  by-states : (q : Program) → reading parse basic file ≡ accepted q → (a : Answer (List State)) → discovering q ≡ a
      → ((compiled_states q a output (cleared work)).number ≡ 0 → ⊥) → Its (compiled_states q a output (cleared work)).number (compiled_states q a output (cleared work)).place
  by-states q i (refused n p) d h = states-reason q i n p d
  by-states q i (accepted ss) d h = absurd (h refl)

  by-program : (a : Answer Program) → reading parse basic file ≡ a
      → ((compiled_program a output (cleared work)).number ≡ 0 → ⊥) → Its (compiled_program a output (cleared work)).number (compiled_program a output (cleared work)).place
  by-program (refused n p) i h = reading-reason n p i
  by-program (accepted q) i h = by-states q i (discovering q) refl h

  too_short : (a b : Bool) → ltb (length output) output_bytes ≡ a → ltb (length work) work_bytes ≡ b → (a || b) ≡ true → Its 1 0
  too_short true b e d z = short_output (ltb-true (length output) output_bytes e)
  too_short false true e d z = short_work (ltb-true (length work) work_bytes d)
  too_short false false e d z = clash (cc)

  abbrev Explained : Compiled → Type 0
  Explained c = (c.number ≡ 0 → ⊥) → Its c.number c.place

  pub compile-explained : Explained (compiled parse basic file output work)
  compile-explained = by (ltb (length output) output_bytes || ltb (length work) work_bytes) refl
    where
      by : (b : Bool) → (ltb (length output) output_bytes || ltb (length work) work_bytes) ≡ b → Explained (compiled parse basic file output work)
      by true i =
          subst Explained (sym (by-room basic file output work true i))
          (λ h. too_short (ltb (length output) output_bytes) (ltb (length work) work_bytes) refl refl i)
      by false i =
          subst Explained (sym (by-room basic file output work false i)) (by-program (reading parse basic file) refl)
