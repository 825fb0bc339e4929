-- The program as a table of nodes: four columns of 192 in one list of 768 numbers, node i at i, i + 192, i + 384, i + 576.
--     kind, left, right, letter     the columns. Kinds: 0 module, 1 `1`, 2 sequence, 3 `||`, 4 star, 5 `/`, 6 event, 7 event with treatment (its letter,
--                           and the treatment on the right), 8 `|` and 9 `||` between interruptions. What a node has no use for is 0
--     count P               how many nodes there are: it stands where node 0 would have its letter
--     tree P i, intr P i    the term, or the interruption, of node i; parts stand below their node, so i itself is fuel enough
--     Nodes P               what is asked of a table: node 0 is `1`, parts below their node, each of the right sort
--     Apart P               no two nodes have the same tree, so equal trees are equal numbers
-- Assumes nothing.
use Rattle.std.specs.Prelude.{ℕ, zero, suc, ◌+◌, ◌-◌, ◌≤◌, ◌<◌, cond, List, ◌≡◌, eqb, get_or, length}
use Rattle.paper.specs.Term.{Term, Intr, Mod, One, Seq, Par, Star, Act, Event, Treat, Either, Both}

abbrev pub kind : List ℕ → ℕ → ℕ
kind P i = get_or P i 0

abbrev pub left : List ℕ → ℕ → ℕ
left P i = get_or P (i + 192) 0

abbrev pub right : List ℕ → ℕ → ℕ
right P i = get_or P (i + 384) 0

abbrev pub letter : List ℕ → ℕ → ℕ
letter P i = get_or P (i + 576) 0

abbrev pub count : List ℕ → ℕ
count P = get_or P 576 0

-- a term of its kind, letter and parts; any other kind is `1`
unfoldable pub as_term : ℕ → ℕ → Term → Term → Intr → Term
as_term k a x y i =
    cond (eqb k 0) (Mod a)
    (cond (eqb k 2) (Seq x y) (cond (eqb k 3) (Par x y) (cond (eqb k 4) (Star x) (cond (eqb k 5) (Act x i) One))))

-- an interruption of its kind, letter and parts; any other kind is a plain event
unfoldable pub as_intr : ℕ → ℕ → Term → Intr → Intr → Intr
as_intr k a t i j = cond (eqb k 7) (Treat a t) (cond (eqb k 8) (Either i j) (cond (eqb k 9) (Both i j) (Event a)))

unfoldable mutual
  pub tree_from : ℕ → List ℕ → ℕ → Term
  tree_from zero P i = One
  tree_from (suc f) P i =
      as_term (kind P i) (letter P i) (tree_from f P (left P i)) (tree_from f P (right P i)) (intr_from f P (right P i))

  pub intr_from : ℕ → List ℕ → ℕ → Intr
  intr_from zero P i = Event (letter P i)
  intr_from (suc f) P i =
      as_intr (kind P i) (letter P i) (tree_from f P (right P i)) (intr_from f P (left P i)) (intr_from f P (right P i))

unfoldable pub tree : List ℕ → ℕ → Term
tree P i = tree_from i P i

unfoldable pub intr : List ℕ → ℕ → Intr
intr P i = intr_from i P i

pub record Nodes (P : List ℕ) : Type 0 where
  pub long : length P ≡ 768
  pub some : 1 ≤ count P
  pub few : count P ≤ 192
  pub zeroth : kind P 0 ≡ 1
  pub lower : (i : ℕ) → left P i ≤ i - 1
  pub righter : (i : ℕ) → right P i ≤ i - 1
  pub letters : (i : ℕ) → letter P i < 256
  pub of_seq : (i : ℕ) → i < count P → kind P i ≡ 2 → (kind P (left P i) ≤ 5) × (kind P (right P i) ≤ 5)
  pub of_par : (i : ℕ) → i < count P → kind P i ≡ 3 → (kind P (left P i) ≤ 5) × (kind P (right P i) ≤ 5)
  pub of_star : (i : ℕ) → i < count P → kind P i ≡ 4 → kind P (left P i) ≤ 5
  pub of_act : (i : ℕ) → i < count P → kind P i ≡ 5 → (kind P (left P i) ≤ 5) × (5 < kind P (right P i))
  pub of_treat : (i : ℕ) → i < count P → kind P i ≡ 7 → kind P (right P i) ≤ 5
  pub of_either : (i : ℕ) → i < count P → kind P i ≡ 8 → (5 < kind P (left P i)) × (5 < kind P (right P i))
  pub of_both : (i : ℕ) → i < count P → kind P i ≡ 9 → (5 < kind P (left P i)) × (5 < kind P (right P i))

pub record Apart (P : List ℕ) : Type 0 where
  pub terms : (i j : ℕ) → i < count P → j < count P → kind P i ≤ 5 → kind P j ≤ 5 → tree P i ≡ tree P j → i ≡ j
  pub intrs : (i j : ℕ) → i < count P → j < count P → 5 < kind P i → 5 < kind P j → intr P i ≡ intr P j → i ≡ j
