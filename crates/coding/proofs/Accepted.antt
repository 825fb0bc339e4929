-- A file that was accepted has a program that fits (`Fit`): its text is the print of a tree of at most 96 tokens, so its table is one of nodes and its
-- room is small; the modules that its term uses stand in the text, and no ninth of them does. Assumes nothing.
--     Accepted p            where the program p came from: what the lines gave, the text's value and its tree, with no condition of No. 9 to 14
--     accepted-fit          so it fits
use Prim.Native.Nat.{ℕ, ◌≤◌, ◌<◌}
use mathlib.Core.Bool.{Bool, true, false, ◌&&◌, ◌||◌}
use mathlib.Core.List.{List, ◌∷◌, []}
use mathlib.Core.Option.{Option, none, some}
use mathlib.Core.Path.{◌≡◌, refl, sym, ap, subst, ◌∙◌}
use native.Mathlib.Omega.{arith}
use lib.Dec.{T, eqb, ltb, eqb→eq, eqb_refl}
use lib.ListN.{length}
use borrow.Author.Tests.{le-leb}
use Rattle.paper.specs.Lists.{has, keep, below}
use Rattle.paper.specs.Bytes.{dot_mark, slash_mark}
use Rattle.paper.specs.Grammar.{Sequence, module_byte, print_s, printed}
use Rattle.paper.specs.Parse.{Parsed, program, stops, parse}
use Rattle.paper.specs.File.{Answer, refused, accepted, unless, and_then, where_if, Value, Read, nothing_read, lines, read_lines}
use Rattle.paper.specs.Limits.{tokens}
use Rattle.paper.specs.Term.{Term, term_s}
use Rattle.paper.specs.Reaction.{Program}
use Rattle.paper.specs.Refusals.{adaptive, most_bytes, program_of, programmed, with_program, reading}
use Rattle.paper.proofs.Choices.{clash}
use Rattle.laws.specs.Names.{uses, uses_i, nowhere, uses_module}
use Rattle.laws.specs.Nodes.{Nodes, Apart, kind, letter, count}
use Rattle.laws.specs.Placed.{Tree, leaf, size, placed_s}
use Rattle.laws.proofs.Names.{or-in-left, or-in-right, or-each, or-both}
use Rattle.laws.proofs.Ordered.{checks, Clear, programmed-first, first-accepts}
use Rattle.laws.proofs.Parsing.{parse-program}
use Rattle.laws.proofs.Tokens.{room-below, few-tokens}
use Rattle.stars.specs.Nodes.{is_star as is_star_code, is_join, sharing}
use Rattle.letters.proofs.Few.{ninth-few}
use Rattle.stars.proofs.Least.{fold}
use Rattle.joins.proofs.Uses.{is_alpha, sequence-uses}
use Rattle.nodes.specs.Made.{Made, made}
use Rattle.nodes.specs.ByTerm.{made_of}
use Rattle.nodes.proofs.ByTerm.{made-of}
use Rattle.nodes.proofs.Choice.{by-eq}
use Rattle.nodes.proofs.Means.{Meaning, a_term, an_intr, Means, is_mod, is_one, is_seq, is_par, is_star, is_act, is_event, is_treat, is_either, is_both, means-S}
use Rattle.nodes.proofs.Laws.{made-root, made-stands, size_below}
use Rattle.nodes.proofs.Parts.{made-module}
use Rattle.nodes.proofs.Table.{lettered}
use Rattle.coding.specs.Units.{IsTerm}
use Rattle.coding.proofs.Letters.{has_first, kept-below, below-kept}
use Rattle.coding.proofs.Fit.{Fit}

-- ---- where the program came from

pub record Accepted (p : Program) : Type 0 where
  pub read : Read
  pub value : Value
  pub tree : Sequence
  pub text : value.is ≡ printed tree
  pub clear : Clear (checks adaptive read value.at value.is tree)
  pub is : program_of read value.is tree ≡ p

program-accepted : (r : Read) (v : Value) (p : Program) (x : Parsed) → parse v.is ≡ x → programmed adaptive r v x ≡ accepted p → Accepted p
unfolding programmed
program-accepted r v p (stops k) q e = clash (cc)
program-accepted r v p (program s) q e =
    let h = (first-accepts (program_of r v.is s) p (checks adaptive r v.at v.is s)).0 (sym (programmed-first adaptive r v s) ∙ e) in
    record { read = r; value = v; tree = s; text = parse-program v.is s q; clear = h.0; is = h.1 }

value-accepted : (n : ℕ) (r : Read) (o : Option Value) (p : Program) → with_program parse adaptive n r o ≡ accepted p → Accepted p
unfolding with_program
value-accepted n r none p e = clash (cc)
value-accepted n r (some v) p e = program-accepted r v p (parse v.is) refl e

lines-accepted : (n : ℕ) (a : Answer Read) (p : Program) → and_then a (λ r. with_program parse adaptive n r r.program) ≡ accepted p → Accepted p
lines-accepted n (refused k at) p e = clash (cc)
lines-accepted n (accepted r) p e = value-accepted n r r.program p e

pub reading-accepted : (file : List ℕ) (p : Program) → reading parse adaptive file ≡ accepted p → Accepted p
unfolding reading
reading-accepted file p e = go (ltb most_bytes (length file)) e
  where
    go : (b : Bool)
        → unless (where_if b 0) 2 (and_then (read_lines nothing_read (lines 0 file)) (λ r. with_program parse adaptive (length file) r r.program)) ≡ accepted p
        → Accepted p
    go true q = clash (cc)
    go false q = lines-accepted (length file) (read_lines nothing_read (lines 0 file)) p q

-- ---- a module that the term uses stands in the text

module _ (m : ℕ) where
  abbrev uses_m : Meaning → Bool
  uses_m (a_term x) = uses_module m x
  uses_m (an_intr i) = uses_i (eqb m) nowhere i

  abbrev Used : Tree → Bool
  Used t = fold (sharing (module_byte m)) t

  -- of two parts, and of their join
  either-used : (a b y z e : Bool) → (T a → T y) → (T b → T z) → T (a || b) → T (y || z || e)
  either-used a b y z e f g t = or-in-left (y || z) e (or-both a b y z f g t)

  leaf-used : (p : ℕ) → T (Used (leaf (module_byte m) p))
  unfolding fold
  leaf-used p =
      let c = module_byte m in or-in-right (is_star_code c && false || is_join c && false) (eqb c c) (eqb_refl c)

  means-used : {t : Tree} {v : Meaning} → Means t v → T (uses_m v) → T (Used t)
  unfolding uses fold
  means-used (is_mod {p = p} {m = n} h) t = subst (λ (k : ℕ). T (Used (leaf (module_byte k) p))) (eqb→eq m n t) (leaf-used p)
  means-used is_one t = absurd t
  means-used (is_seq {t = a} {u = b} {x = x} {y = y} f g) t = either-used (uses_m (a_term x)) (uses_m (a_term y)) (Used a) (Used b) _ (λ h. means-used f h) (λ h. means-used g h) t
  means-used (is_par {t = a} {u = b} {x = x} {y = y} f g) t = either-used (uses_m (a_term x)) (uses_m (a_term y)) (Used a) (Used b) _ (λ h. means-used f h) (λ h. means-used g h) t
  means-used (is_star {t = a} f) t = or-in-left (Used a || false) _ (or-in-left (Used a) false (means-used f t))
  means-used (is_act {t = a} {u = b} {x = x} {i = i} f g) t =
      or-each (uses_m (an_intr i)) (uses_m (a_term x)) (Used a || Used b || eqb (module_byte m) slash_mark) (λ h. or-in-left (Used a || Used b) _ (or-in-right (Used a) (Used b) (means-used g h)))
      (λ h. or-in-left (Used a || Used b) _ (or-in-left (Used a) (Used b) (means-used f h))) t
  means-used (is_event h) t = absurd t
  means-used (is_treat {t = a} {u = b} f g) t = or-in-left (Used a || Used b) _ (or-in-right (Used a) (Used b) (means-used g t))
  means-used (is_either {t = a} {u = b} {i = i} {j = j} f g) t = either-used (uses_m (an_intr i)) (uses_m (an_intr j)) (Used a) (Used b) _ (λ h. means-used f h) (λ h. means-used g h) t
  means-used (is_both {t = a} {u = b} {i = i} {j = j} f g) t = either-used (uses_m (an_intr i)) (uses_m (an_intr j)) (Used a) (Used b) _ (λ h. means-used f h) (λ h. means-used g h) t

  module-printed : m < 26 → (at : ℕ) (s : Sequence) → T (uses_module m (term_s s)) → T (has (module_byte m) (printed s))
  unfolding printed
  module-printed h at s t =
      let alpha : is_alpha (module_byte m) ≡ true = rw (le-leb 97 (module_byte m) (omega arith), le-leb (module_byte m) 122 (omega arith)) in
      has_first (module_byte m) (print_s s) (dot_mark ∷ []) (subst T (sym (sequence-uses (module_byte m) alpha at s)) (means-used (means-S s at) t))

-- ---- what it is to the coding

-- a table of nodes with the term t as a node, whose modules are among ms
record Noded (ms : List ℕ) (t : Term) (P : List ℕ) : Type 0 where
  nodes : Nodes P
  apart : Apart P
  root : IsTerm P t
  owned : (i : ℕ) → i < count P → kind P i ≡ 0 → T (has (letter P i) ms)

module _ (at : ℕ) (s : Sequence) (few : length (tokens at (printed s)) ≤ 96) where
  small : size (placed_s at s) ≤ 189
  small = size_below at s few

  module-letter : (i : ℕ) → i < count (made (placed_s at s)).table → kind (made (placed_s at s)).table i ≡ 0 → letter (made (placed_s at s)).table i < 26
  unfolding lettered
  module-letter i h k =
      let t = (made-stands at s small).table_of in
      let o : (i ≡ 0 → ⊥) = λ z. let y = ap (kind (made (placed_s at s)).table) z ∙ t.zeroth in omega (arith, k) in
      let l = t.letters i (by-eq i 0 (λ z. absurd (o z)) (λ d. omega arith)) h in
      rw k at l

  made-noded : Noded (keep (λ n. has (module_byte n) (printed s)) (below 26)) (term_s s) (made (placed_s at s)).table
  made-noded =
      let r = made-root at s small in
      record {
        nodes = r.nodes;
        apart = r.apart;
        root = ((made (placed_s at s)).node, (r.below, (r.a_term, r.its_term)));
        owned =
            λ i h k.
            let a = letter (made (placed_s at s)).table i in
            let b = module-letter i h k in
            below-kept (λ n. has (module_byte n) (printed s)) 26 a b (module-printed a b at s (made-module at s small i h k));
      }

  -- the same of the table as the term makes it
  term-noded : Noded (keep (λ n. has (module_byte n) (printed s)) (below 26)) (term_s s) (made_of (term_s s)).table
  term-noded =
      subst (Noded (keep (λ n. has (module_byte n) (printed s)) (below 26)) (term_s s)) (ap (λ (m : Made). m.table) (made-of at s)) made-noded

program-fit : (r : Read) (at : ℕ) (v : List ℕ) (s : Sequence) → v ≡ printed s → Clear (checks adaptive r at v s) → Fit (program_of r v s)
unfolding program_of Clear
program-fit r at v s e c =
    let few : length (tokens at (printed s)) ≤ 96 = subst (λ (w : List ℕ). length (tokens at w) ≤ 96) e (few-tokens at v c.0) in
    let n : Noded (keep (λ n. has (module_byte n) v) (below 26)) (term_s s) (made_of (term_s s)).table = rw e (term-noded at s few) in
    record {
      nodes = n.nodes;
      apart = n.apart;
      root = n.root;
      owned = n.owned;
      letters = kept-below (λ k. has (module_byte k) v) 26;
      few_modules = ninth-few 97 at v c.1.1.1.1.1.0;
      few_events = ninth-few 65 at v c.1.1.1.1.1.1.0;
      light = omega (arith, room-below at s, few);
    }

pub accepted-fit : (file : List ℕ) (p : Program) → reading parse adaptive file ≡ accepted p → Fit p
accepted-fit file p e =
    let a = reading-accepted file p e in
    subst Fit a.is (program-fit a.read a.value.at a.value.is a.tree a.text a.clear)
