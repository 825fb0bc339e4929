-- The parts of a word's terms, unit by unit: each unit adds its own part and those of its node, and takes none away.
-- Assumes nothing.
use Prim.Native.Nat.{ℕ, suc, ◌+◌, ◌≤◌, ◌<◌}
use mathlib.Core.List.{List, [], ◌∷◌}
use mathlib.Core.Logic.{◌⊎◌, ⊎_elim}
use mathlib.Core.Path.{◌≡◌, refl, sym, ap, ◌∙◌}
use native.Mathlib.Numerals.{add-one}
use native.Mathlib.Omega.{arith}
use lib.ListN.{length, drop, get_or, drop_of_length-le}
use lib.Seq.{drop-cons}
use Rattle.paper.specs.Term.{Term, parts}
use Rattle.paper.specs.Refusals.{parts_of}
use Rattle.laws.specs.Nodes.{count}
use Rattle.words.specs.declared.Unit.{Unit as Given}
use Rattle.words.specs.declared.Unit.TheVariants.{Sequence, Act}
use Rattle.words.specs.Unit.{unit_mark}
use Rattle.words.specs.Word.{Mark, u_seq, u_star, u_act, u_wait, u_one, u_par, u_mod, mark, apply, terms, Fine, Right}
use Rattle.words.proofs.Marks.{by-lt, mark-star, mark-one, mark-par, mark-mod}
use Rattle.rewrite.specs.Steps.{left_of, state, Stands}
use Rattle.parts.specs.Parts.{capped, node_parts, Counted, unit_parts, all_parts, Meant}
use Rattle.parts.proofs.Rows.{term-parts, intr-parts}

-- ---- what a unit adds, from the counts of the nodes

unit_node : (P : List ℕ) (j : ℕ) (k : Given) → (k ≡ Sequence j) ⊎ (k ≡ Act j) → Meant P (unit_mark k) → (j < count P) × (suc (node_parts P j) ≡ unit_parts P (unit_mark k))
unfolding Fine unit_parts
unit_node P j k e m =
    ⊎_elim
    (λ q. let f : Fine P (u_seq j) m.after = rw q at m.fine in rw q (f.1.0, ap suc (term-parts P j f.1.1)))
    (λ q. let f : Fine P (u_act j) m.after = rw q at m.fine in rw q (f.1.0, ap suc (intr-parts P j f.1.1.0)))
    e

wait-node : (P : List ℕ) (j : ℕ) → Meant P (u_wait j) → (j < count P) × (suc (suc (node_parts P j)) ≡ unit_parts P (u_wait j))
unfolding Fine unit_parts
wait-node P j m = (m.fine.0, ap (λ (n : ℕ). suc (suc n)) (intr-parts P j m.fine.1))

module _ {P ns : List ℕ} {j : ℕ} (t : Counted P ns) where
  place : j < count P → (j < 192) × (j < length ns)
  place h = (omega (arith, t.table.nodes.few), omega (arith, t.places))

  pub unit_place : (k : Given) → (k ≡ Sequence j) ⊎ (k ≡ Act j) → Meant P (unit_mark k) → (j < 192) × (j < length ns)
  unit_place k e m = place (unit_node P j k e m).0

  pub unit_adds : (k : Given) → (k ≡ Sequence j) ⊎ (k ≡ Act j) → Meant P (unit_mark k) → capped (1 + get_or ns j 0) ≡ capped (unit_parts P (unit_mark k))
  unit_adds k e m = let n = unit_node P j k e m in omega (arith, t.counts j n.0, n.1)

  pub wait-place : Meant P (u_wait j) → (j < 192) × (j < length ns)
  wait-place m = place (wait-node P j m).0

  pub wait-adds : Meant P (u_wait j) → capped (2 + get_or ns j 0) ≡ capped (unit_parts P (u_wait j))
  wait-adds m = let n = wait-node P j m in omega (arith, t.counts j n.0, n.1)

pub star-adds : (P : List ℕ) (u : ℕ) → 192 ≤ u → u < 384 → 1 ≡ capped (unit_parts P (mark u))
unfolding unit_parts
star-adds P u l h = rw (mark-star u l h)

-- `1`, `||` and a module
pub leaf-adds : (P : List ℕ) (u : ℕ) → 768 ≤ u → 1 ≡ capped (unit_parts P (mark u))
unfolding unit_parts
leaf-adds P u h =
    by-lt u 769 (λ l. let q : u ≡ 768 = omega arith in rw (q, mark-one)) λ l.
    by-lt u 770 (λ g. let q : u ≡ 769 = omega arith in rw (q, mark-par)) λ g.
    rw (mark-mod u g)

-- ---- the parts of the terms
parts-unit : (P : List ℕ) (k : Mark) (st : List Term) → Fine P k st → all_parts (apply P k st) ≡ unit_parts P k + all_parts st
unfolding all_parts apply Fine parts unit_parts
parts-unit P (u_seq j) [] f = absurd (omega arith)
parts-unit P (u_seq j) (x ∷ st) f = omega arith
parts-unit P (u_star j) [] f = absurd (omega arith)
parts-unit P (u_star j) (x ∷ st) f = omega arith
parts-unit P (u_act j) [] f = absurd (omega arith)
parts-unit P (u_act j) (x ∷ st) f = omega arith
parts-unit P (u_wait j) st f = omega arith
parts-unit P u_one st f = omega arith
parts-unit P u_par [] f = absurd (omega arith)
parts-unit P u_par (x ∷ []) f = absurd (omega arith)
parts-unit P u_par (x ∷ y ∷ st) f = omega arith
parts-unit P (u_mod a) st f = omega arith

-- the loop of `parts_of`, before the i-th unit of the word U: n and the parts from there on are all of them
pub record Summed (P U : List ℕ) (n i : ℕ) : Type 0 where
  pub within : i ≤ length U
  pub right : Right P (drop i U)
  pub small : n ≤ 8193
  pub so_far : capped (n + all_parts (terms P (drop i U))) ≡ capped (all_parts (terms P U))

pub summed-start : {P U : List ℕ} → Right P U → Summed P U 0 0
summed-start r = record { within = omega arith; right = r; small = omega arith; so_far = omega arith }

module _ {P U : List ℕ} {n i : ℕ} (g : Summed P U n i) (h : i < length U) where
  abbrev unit : ℕ
  unit = get_or U i 0

  cons : drop i U ≡ unit ∷ drop (i + 1) U
  cons = drop-cons U i 0 h ∙ ap (λ (k : ℕ). unit ∷ drop k U) (sym (add-one i))

  split : Right P (drop (i + 1) U) × Fine P (mark unit) (terms P (drop (i + 1) U))
  unfolding Right
  split = rw cons at g.right

  pub summed-meant : {m : Mark} → m ≡ mark unit → Meant P m
  summed-meant e = record { after = terms P (drop (i + 1) U); fine = rw e split.1 }

  adds : all_parts (terms P (drop i U)) ≡ unit_parts P (mark unit) + all_parts (terms P (drop (i + 1) U))
  unfolding terms
  adds = rw cons (parts-unit P (mark unit) (terms P (drop (i + 1) U)) split.1)

  pub summed-next : {m : Mark} {q k : ℕ} → m ≡ mark unit → q ≡ capped (unit_parts P m) → k ≡ capped (n + q) → Summed P U k (i + 1)
  summed-next d e f = record {
    within = omega arith;
    right = split.0;
    small = omega arith;
    so_far = omega (arith, g.so_far, adds, ap (unit_parts P) d);
  }

-- a state has one term at most, so its parts are those of what is left
parts-left : (ts : List Term) → length ts ≤ 1 → all_parts ts ≡ parts_of (left_of ts)
unfolding all_parts
parts-left [] h = refl
parts-left (t ∷ []) h = omega arith
parts-left (t ∷ u ∷ ts) h = absurd (omega arith)

none_left : (P S : List ℕ) (i : ℕ) → length S ≤ i → all_parts (terms P (drop i S)) ≡ 0
unfolding all_parts terms
none_left P S i h = rw (drop_of_length-le S h)

pub summed-end : {P S : List ℕ} {s n i : ℕ} → Stands P S s → Summed P (drop s S) n i → length (drop s S) ≤ i → n ≡ capped (parts_of (state P S s))
summed-end {P} {S} {s} {n} {i} st g h =
    omega (arith, g.small, g.so_far, none_left P (drop s S) i h, parts-left (terms P (drop s S)) st.single)
