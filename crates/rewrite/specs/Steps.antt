-- Rewriting a state's word: what is asked, and what is left.
--     letter_of l            the letter of the rules that an argument names
--     Works P S s e n       the term at s of the word S can be rewritten in front of place e in a list of n
--     Hits P i e n          the interruption i can be hit in front of place e in a list of n; `room_i` is the units that this may take
--     SeqOn, StarOn, ActOn, ParOn       how a join goes on: whatever is left of its parts, in front of place e from a on, what is left of the join
--                           stands there afterwards, from r on
--     leaf P u              the term of a unit without parts
--     state P W s           what the word from place s on says: the term, or nothing left
--     Stands P W s          a state's word of 96 places stands from place s on: right, at most one term, its room at most 96
-- Assumes nothing.
use Rattle.std.specs.Prelude.{ℕ, ◌+◌, ◌≤◌, ◌<◌, max, List, [], ◌∷◌, ◌≡◌, length, drop}
use Rattle.paper.specs.Term.{Term, Intr, Left, One, Seq, Star, Act, gone, still}
use Rattle.paper.specs.Rewriting.{Letter, completion, occurrence, seq_l, par_l, act_l, star_l}
use Rattle.laws.specs.Nodes.{kind, count, intr}
use Rattle.laws.specs.Weight.{room, weight_i, weight_l}
use Rattle.words.specs.Word.{Right, hd, mark, apply, terms}
use Rattle.words.specs.Pieces.{Table, Src, top, Made}
use Rattle.rewrite.specs.declared.Letter.{Letter as Given}
use Rattle.rewrite.specs.declared.Letter.TheVariants.{Completion, Occurrence}

abbrev pub letter_of : Given → Letter
letter_of (Completion m) = completion m
letter_of (Occurrence e) = occurrence e

pub record Works (P S : List ℕ) (s e n : ℕ) : Type 0 where
  pub table : Table P
  pub src : Src P S s
  pub space : room (top P S s) ≤ e
  pub top : e ≤ n

abbrev pub room_i : Intr → ℕ
room_i i = max 1 (weight_i i)

pub record Hits (P : List ℕ) (i e n : ℕ) : Type 0 where
  pub table : Table P
  pub here : i < count P
  pub event : 5 < kind P i
  pub space : room_i (intr P i) ≤ e
  pub top : e ≤ n

abbrev pub SeqOn : List ℕ → List ℕ → List ℕ → ℕ → ℕ → ℕ → Term → Type 0
SeqOn P D D' e a r y =
    (D₀ : List ℕ) (x : Term) (ρ : Left) → Made P D₀ D e a (room x) ρ → Made P D₀ D' e r (room (Seq x y)) (seq_l ρ y)

abbrev pub StarOn : List ℕ → List ℕ → List ℕ → ℕ → ℕ → ℕ → Term → Type 0
StarOn P D D' e a r x =
    (D₀ : List ℕ) (ρ : Left) → Made P D₀ D e a (room x) ρ → Made P D₀ D' e r (room (Star x)) (star_l ρ x)

abbrev pub ActOn : List ℕ → List ℕ → List ℕ → ℕ → ℕ → ℕ → ℕ → Type 0
ActOn P D D' e a r i =
    (D₀ : List ℕ) (x : Term) (ρ : Left) → (x ≡ One → ⊥) → Made P D₀ D e a (room x) ρ → Made P D₀ D' e r (room (Act x (intr P i))) (act_l ρ (intr P i))

abbrev pub ParOn : List ℕ → List ℕ → ℕ → ℕ → ℕ → ℕ → Type 0
ParOn D D' e b a r =
    (P D₀ D₁ : List ℕ) (m n : ℕ) (ρ σ : Left) → Made P D₀ D₁ e b n σ → Made P D₁ D b a m ρ → Made P D₀ D' e r (m + n + 1) (par_l ρ σ)

abbrev pub leaf : List ℕ → ℕ → Term
leaf P u = hd (apply P (mark u) [])

abbrev pub left_of : List Term → Left
left_of [] = gone
left_of (t ∷ ts) = still t

abbrev pub state : List ℕ → List ℕ → ℕ → Left
state P W s = left_of (terms P (drop s W))

pub record Stands (P W : List ℕ) (s : ℕ) : Type 0 where
  pub right : Right P (drop s W)
  pub single : length (terms P (drop s W)) ≤ 1
  pub light : max 1 (weight_l (state P W s)) ≤ 96
  pub long : length W ≡ 96
  pub within : s ≤ 96
