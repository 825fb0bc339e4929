-- Words of units: the walk of what runs in a term, in prefix order. What lies right of that walk is a part of the program, and its node stands for it.
--     Mark                  what a unit says: `Seq y`, `Star s`, `Act i`, `Wait i`, `One`, `Par`, `Mod m`
--     mark u                the unit as a number: below 192 `Seq`, 384 `Star`, 576 `Act`, 768 `Wait`; 768 `One`, 769 `Par`, from 770 on `Mod`
--     arity k               how many of the terms after it the unit takes
--     terms P w             the terms that a word says, read from its end: each unit takes its parts from the terms after it
--     Right P w             each unit of the word may stand where it does
--     Holds P B N a b ts    from place a up to b the list N holds a right word that says ts, and from b on it is the list B
--     any_runs m ts, any_armed e ts       the module m runs, the event e is armed, in one of the terms
--     arms P e u            the unit u arms the event e
-- The numbers from 796 on are no unit: they are left for a later mark. Assumes nothing.
use Rattle.std.specs.Prelude.{ℕ, ◌+◌, ◌-◌, ◌≤◌, ◌<◌, Bool, false, ◌||◌, cond, List, [], ◌∷◌, ◌++◌, ◌≡◌, eqb, ltb, length, drop}
use Rattle.paper.specs.Term.{Term, Mod, One, Seq, Par, Star, Act}
use Rattle.paper.specs.Running.{runs, armed, heads}
use Rattle.laws.specs.Nodes.{kind, left, count, tree, intr}

-- x followed by node y; the starred node s, before the walk of its part; x / node i; `1` / node i, always in this one unit; `1`; x || y; a module
pub data Mark : Type 0 where
  u_seq : ℕ → Mark
  u_star : ℕ → Mark
  u_act : ℕ → Mark
  u_wait : ℕ → Mark
  u_one : Mark
  u_par : Mark
  u_mod : ℕ → Mark

unfoldable pub mark : ℕ → Mark
mark u =
    cond (ltb u 192) (u_seq u)
    (cond (ltb u 384) (u_star (u - 192))
    (cond (ltb u 576) (u_act (u - 384))
    (cond (ltb u 768) (u_wait (u - 576)) (cond (eqb u 768) u_one (cond (eqb u 769) u_par (u_mod (u - 770)))))))

-- how many terms it takes
abbrev pub arity : Mark → ℕ
arity (u_seq j) = 1
arity (u_star j) = 1
arity (u_act j) = 1
arity (u_wait j) = 0
arity u_one = 0
arity u_par = 2
arity (u_mod a) = 0

-- total, so that no word is stuck: a right word never asks for what is not there
abbrev pub hd : List Term → Term
hd [] = One
hd (x ∷ st) = x

abbrev pub tl : List Term → List Term
tl [] = []
tl (x ∷ st) = st

-- what a unit makes of the terms after it
unfoldable pub apply : List ℕ → Mark → List Term → List Term
apply P (u_seq j) st = Seq (hd st) (tree P j) ∷ tl st
apply P (u_star j) st = Star (hd st) ∷ tl st
apply P (u_act j) st = Act (hd st) (intr P j) ∷ tl st
apply P (u_wait j) st = Act One (intr P j) ∷ st
apply P u_one st = One ∷ st
apply P u_par st = Par (hd st) (hd (tl st)) ∷ tl (tl st)
apply P (u_mod a) st = Mod a ∷ st

unfoldable pub terms : List ℕ → List ℕ → List Term
terms P [] = []
terms P (u ∷ us) = apply P (mark u) (terms P us)

-- a unit that may stand before these terms: its parts are there, its node is of its sort, a star's part is the node's, `1/i` is never `Act`
unfoldable pub Fine : List ℕ → Mark → List Term → Type 0
Fine P (u_seq j) st = (1 ≤ length st) × ((j < count P) × (kind P j ≤ 5))
Fine P (u_star j) st = (1 ≤ length st) × ((j < count P) × ((kind P j ≡ 4) × (hd st ≡ tree P (left P j))))
Fine P (u_act j) st = (1 ≤ length st) × ((j < count P) × ((5 < kind P j) × (hd st ≡ One → ⊥)))
Fine P (u_wait j) st = (j < count P) × (5 < kind P j)
Fine P u_one st = Unit {0}
Fine P u_par st = 2 ≤ length st
Fine P (u_mod a) st = a < 26

unfoldable pub Right : List ℕ → List ℕ → Type 0
Right P [] = Unit {0}
Right P (u ∷ us) = Right P us × Fine P (mark u) (terms P us)

pub record Holds (P before now : List ℕ) (a b : ℕ) (ts : List Term) : Type 0 where
  pub word : List ℕ
  pub is : drop a now ≡ word ++ drop b before
  pub ok : Right P word
  pub says : terms P word ≡ ts
  pub long : b ≡ a + length word

unfoldable pub any_runs : ℕ → List Term → Bool
any_runs m [] = false
any_runs m (t ∷ ts) = runs m t || any_runs m ts

unfoldable pub any_armed : ℕ → List Term → Bool
any_armed e [] = false
any_armed e (t ∷ ts) = armed e t || any_armed e ts

unfoldable pub arms : List ℕ → ℕ → Mark → Bool
arms P e (u_seq j) = false
arms P e (u_star j) = false
arms P e (u_act j) = heads e (intr P j)
arms P e (u_wait j) = heads e (intr P j)
arms P e u_one = false
arms P e u_par = false
arms P e (u_mod a) = false
