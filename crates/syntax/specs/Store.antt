-- The three lists that the readers write a tree to, node by node, and how many nodes have been counted.
--     Store                 the lists `code`, `left` and `place`, and the next free place in them
--     Room S                each list has 192 places
--     node S c l p          one node more: its code c, the place l of its left part in the lists, its place p in the text
--     writes S t            all nodes of the tree t more, in postorder
-- A store past the end of a list changes nothing (`set`), and is counted all the same. Assumes nothing.
use Rattle.std.specs.Prelude.{ℕ, ◌+◌, List, ◌≡◌, length, set}
use Rattle.std.proofs.lemmas.List.Edits.{sets}
use Rattle.laws.specs.Placed.{Tree, size, codes, lefts, places}

pub record Store : Type 0 where
  pub code : List ℕ
  pub left : List ℕ
  pub place : List ℕ
  pub free : ℕ

pub record Room (S : Store) : Type 0 where
  pub code : length S.code ≡ 192
  pub left : length S.left ≡ 192
  pub place : length S.place ≡ 192

abbrev pub store : List ℕ → List ℕ → List ℕ → ℕ → Store
store c l p f = record { code = c; left = l; place = p; free = f }

abbrev pub node : Store → ℕ → ℕ → ℕ → Store
node S c l p = store (set S.code S.free c) (set S.left S.free l) (set S.place S.free p) (S.free + 1)

abbrev pub writes : Store → Tree → Store
writes S t =
    store (sets S.code S.free (codes t)) (sets S.left S.free (lefts S.free t)) (sets S.place S.free (places t))
    (S.free + size t)
