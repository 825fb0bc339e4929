-- What the functions on words ask, and what they leave.
--     Table P               a table of nodes that the functions work on
--     Cols P j k l q a      k, l, q, a are the columns of node j
--     node_of P j           node j, by its columns; `Says P j n`: those of node j say n
--     Put D N e r u         the unit u stands in front of place e, at r, and what follows is kept
--     Faced D N e r i       `/` with the interruption i stands in front of the word at e, or in the place of its `1`
--     Asks P j e n          node j is a term's, and its word has room below e in a list of n
--     Drawn P D N e r t     the word of t stands from r up to e, and is no longer than the room of t
--     Src P S s             a term's word starts at place s; `top P S s` is that term, `under P S s` are the terms after it
--     Past P S s r          r is past that word
--     Agree b x y           b says whether the two lists are the same
--     Made P D N e r k ρ    what is left, ρ, stands from r up to e, and takes at most k units; nothing left is r = e
-- Assumes nothing.
use Rattle.std.specs.Prelude.{ℕ, ◌+◌, ◌≤◌, ◌<◌, Bool, true, false, cond, List, [], ◌∷◌, ◌⊎◌, ◌≡◌, eqb, length, drop, get_or}
use Rattle.paper.specs.Term.{Term, Left, gone, still}
use Rattle.laws.specs.Nodes.{Nodes, Apart, kind, left, right, letter, count, tree}
use Rattle.laws.specs.Weight.{room}
use Rattle.program.specs.declared.Node.{Node}
use Rattle.program.specs.declared.Node.TheVariants.{Module, One, Sequence, Par, Star, Act, Event, Treat, Either, Both}
use Rattle.words.specs.Word.{Holds, Right, hd, tl, terms}

-- parts below their node, equal trees are equal numbers, and each module is one of a to z
pub record Table (P : List ℕ) : Type 0 where
  pub nodes : Nodes P
  pub apart : Apart P
  pub named : (i : ℕ) → i < count P → kind P i ≡ 0 → letter P i < 26

abbrev pub Cols : List ℕ → ℕ → ℕ → ℕ → ℕ → ℕ → Type 0
Cols P j k l q a = (k ≡ kind P j) × ((l ≡ left P j) × ((q ≡ right P j) × (a ≡ letter P j)))

-- a kind that is none is read as an event: of a term's nodes none is such
unfoldable pub node_of : List ℕ → ℕ → Node
node_of P j =
    cond (eqb (kind P j) 0) (Module (letter P j))
    (cond (eqb (kind P j) 1) One
    (cond (eqb (kind P j) 2) (Sequence (left P j) (right P j))
    (cond (eqb (kind P j) 3) (Par (left P j) (right P j))
    (cond (eqb (kind P j) 4) (Star (left P j))
    (cond (eqb (kind P j) 5) (Act (left P j) (right P j))
    (cond (eqb (kind P j) 7) (Treat (letter P j) (right P j))
    (cond (eqb (kind P j) 8) (Either (left P j) (right P j)) (cond (eqb (kind P j) 9) (Both (left P j) (right P j)) (Event (letter P j))))))))))

abbrev pub Says : List ℕ → ℕ → Node → Type 0
Says P j (Module a) = (kind P j ≡ 0) × (letter P j ≡ a)
Says P j One = kind P j ≡ 1
Says P j (Sequence x y) = (kind P j ≡ 2) × (left P j ≡ x) × (right P j ≡ y)
Says P j (Par x y) = (kind P j ≡ 3) × (left P j ≡ x) × (right P j ≡ y)
Says P j (Star x) = (kind P j ≡ 4) × (left P j ≡ x)
Says P j (Act x i) = (kind P j ≡ 5) × (left P j ≡ x) × (right P j ≡ i)
Says P j (Event e) = (5 < kind P j) × (letter P j ≡ e)
Says P j (Treat e t) = (kind P j ≡ 7) × (letter P j ≡ e) × (right P j ≡ t)
Says P j (Either i k) = (kind P j ≡ 8) × (left P j ≡ i) × (right P j ≡ k)
Says P j (Both i k) = (kind P j ≡ 9) × (left P j ≡ i) × (right P j ≡ k)

abbrev pub Put : List ℕ → List ℕ → ℕ → ℕ → ℕ → Type 0
Put D D' e r u = (r + 1 ≡ e) × (drop r D' ≡ u ∷ drop e D)

abbrev pub Faced : List ℕ → List ℕ → ℕ → ℕ → ℕ → Type 0
Faced D D' e r i =
    ((get_or D e 0 ≡ 768) × ((r ≡ e) × (drop r D' ≡ (576 + i) ∷ drop (e + 1) D)))
    ⊎ ((get_or D e 0 ≡ 768 → ⊥) × ((r + 1 ≡ e) × (drop r D' ≡ (384 + i) ∷ drop e D)))

pub record Asks (P : List ℕ) (j e n : ℕ) : Type 0 where
  pub table : Table P
  pub here : j < count P
  pub term : kind P j ≤ 5
  pub space : room (tree P j) ≤ e
  pub top : e ≤ n

pub record Drawn (P D D' : List ℕ) (e r : ℕ) (t : Term) : Type 0 where
  pub held : Holds P D D' r e (t ∷ [])
  pub fits : e ≤ r + room t

pub record Src (P S : List ℕ) (s : ℕ) : Type 0 where
  pub right : Right P (drop s S)
  pub deep : 1 ≤ length (terms P (drop s S))

abbrev pub top : List ℕ → List ℕ → ℕ → Term
top P S s = hd (terms P (drop s S))

abbrev pub under : List ℕ → List ℕ → ℕ → List Term
under P S s = tl (terms P (drop s S))

pub record Past (P S : List ℕ) (s r : ℕ) : Type 0 where
  pub held : Holds P S S s r (top P S s ∷ [])
  pub next : terms P (drop r S) ≡ under P S s
  pub right : Right P (drop r S)

unfoldable pub Agree : Bool → List ℕ → List ℕ → Type 0
Agree true x y = x ≡ y
Agree false x y = x ≡ y → ⊥

-- what is left, as a list
abbrev pub rest : Left → List Term
rest gone = []
rest (still x) = x ∷ []

pub record Made (P D D' : List ℕ) (e r k : ℕ) (ρ : Left) : Type 0 where
  pub held : Holds P D D' r e (rest ρ)
  pub fits : e ≤ r + k
