-- The word of a state as it stands in a list of 96 places (`rewrite`, `Steps`: Stands), from place s on: it is the word of what it says (`stands_word`), and
-- where the word of what is left stands, it says that and can be rewritten (`word_stands`). Assumes nothing.
use Prim.Native.Nat.{ℕ, ◌≤◌, ◌<◌}
use mathlib.Core.List.{List, [], ◌∷◌}
use mathlib.Core.Path.{◌≡◌, refl, sym, ap, ◌∙◌}
use native.Mathlib.Omega.{arith}
use lib.Dec.{T}
use lib.ListN.{length, drop}
use Rattle.paper.specs.Lists.{has}
use Rattle.paper.specs.Term.{Term, Left, gone, still}
use Rattle.laws.specs.Nodes.{Nodes, Apart}
use Rattle.laws.specs.Weight.{weight_l}
use Rattle.words.specs.Word.{Right, mark, terms}
use Rattle.words.specs.Pieces.{rest}
use Rattle.words.proofs.Determined.{filled}
use Rattle.rewrite.specs.Steps.{left_of, state, Stands}
use Rattle.coding.specs.Units.{word_l, OverL}
use Rattle.coding.proofs.Words.{over-says, right-word}

-- a word that says nothing is none
pub silent : (P us : List ℕ) → terms P us ≡ [] → us ≡ []
unfolding terms
silent P [] e = refl
silent P (u ∷ us) e = absurd (filled P (mark u) (terms P us) e)

pub left_word : (P us : List ℕ) → Nodes P → Apart P → Right P us → (ts : List Term) → length ts ≤ 1 → terms P us ≡ ts → word_l P (left_of ts) ≡ us
unfolding word_l
left_word P us ns ap' r [] h e = sym (silent P us e)
left_word P us ns ap' r (t ∷ []) h e = right-word P ns ap' us t (record { ok = r; term = e })
left_word P us ns ap' r (t ∷ u ∷ ts) h e = absurd (omega arith)

pub stands_word : (P W : List ℕ) (s : ℕ) → Nodes P → Apart P → Stands P W s → word_l P (state P W s) ≡ drop s W
stands_word P W s ns ap' st = left_word P (drop s W) ns ap' st.right (terms P (drop s W)) st.single refl

-- what the word of r says
pub word_l-says : (P ms : List ℕ) → Nodes P → ((m : ℕ) → T (has m ms) → m < 26) → (r : Left) → OverL P ms r → Right P (word_l P r) × (terms P (word_l P r) ≡ rest r)
unfolding OverL word_l Right terms
word_l-says P ms ns small gone o = (tt, refl)
word_l-says P ms ns small (still t) o = let w = over-says P ms ns small t o in (w.ok, w.term)

pub left-rest : (r : Left) → left_of (rest r) ≡ r
left-rest gone = refl
left-rest (still t) = refl

rest-short : (r : Left) → length (rest r) ≤ 1
rest-short gone = omega arith
rest-short (still t) = omega arith

pub word_stands : (P ms W : List ℕ) (s : ℕ) (r : Left) → Nodes P → ((m : ℕ) → T (has m ms) → m < 26) → OverL P ms r → weight_l r ≤ 96
    → drop s W ≡ word_l P r → length W ≡ 96 → s ≤ 96 → Stands P W s × (state P W s ≡ r)
word_stands P ms W s r ns small o w e l h =
    let says = word_l-says P ms ns small r o in
    let t : terms P (drop s W) ≡ rest r = ap (terms P) e ∙ says.1 in
    let q : state P W s ≡ r = ap left_of t ∙ left-rest r in (
      record { right = rw e says.0; single = rw t (rest-short r); light = rw q (omega arith); long = l; within = h },
      q,
    )
