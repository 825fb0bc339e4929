-- The tree of a placed program means the program's term. `Means` says what a tree of each shape means, so that what is shown of trees goes by it and
-- not by the seven sorts of the grammar.
--     Meaning               a term, or an interruption
--     Means t v             the tree t means v
--     Under u v, PartOf u v     u is one of the parts of v; or a part of one, or v itself
--     means-S               the placed tree of a program means its term
-- Assumes nothing.
use Prim.Native.Nat.{ℕ, ◌+◌, ◌<◌}
use lib.Dec.{ltb→lt}
use Rattle.paper.specs.Bytes.{one_mark, slash_mark, colon_mark, bar_mark}
use Rattle.paper.specs.Grammar.{Join, bar, bars, Sequence, Item, Starred, Atom, Body, Interruption, Chain, only, then, plain, until, once, again, named, never, group, single, beside, event, treated, braces, last, next}
use Rattle.paper.specs.Term.{Term, Intr, Mod, One, Seq, Par, Star, Act, Event, Treat, Either, Both, joined, term_s, term_i, term_t, term_a, term_b, term_n, term_c}
use Rattle.laws.specs.Placed.{Tree, leaf, star, join, seq_code, either_code, both_code, join_code, placed_s, placed_i, placed_t, placed_a, placed_b, placed_n, placed_c}

pub data Meaning : Type 0 where
  a_term : Term → Meaning
  an_intr : Intr → Meaning

pub data Means : Tree → Meaning → Type 0 where
  is_mod : {p m : ℕ} → m < 26 → Means (leaf (97 + m) p) (a_term (Mod m))
  is_one : {p : ℕ} → Means (leaf one_mark p) (a_term One)
  is_seq : {p : ℕ} {t u : Tree} {x y : Term} → Means t (a_term x) → Means u (a_term y) → Means (join seq_code p t u) (a_term (Seq x y))
  is_par : {p : ℕ} {t u : Tree} {x y : Term} → Means t (a_term x) → Means u (a_term y) → Means (join bar_mark p t u) (a_term (Par x y))
  is_star : {p : ℕ} {t : Tree} {x : Term} → Means t (a_term x) → Means (star p t) (a_term (Star x))
  is_act : {p : ℕ} {t u : Tree} {x : Term} {i : Intr} → Means t (a_term x) → Means u (an_intr i) → Means (join slash_mark p t u) (a_term (Act x i))
  is_event : {p e : ℕ} → e < 26 → Means (leaf (65 + e) p) (an_intr (Event e))
  is_treat : {p e : ℕ} {t u : Tree} {x : Term} → Means t (an_intr (Event e)) → Means u (a_term x) → Means (join colon_mark p t u) (an_intr (Treat e x))
  is_either : {p : ℕ} {t u : Tree} {i j : Intr} → Means t (an_intr i) → Means u (an_intr j) → Means (join either_code p t u) (an_intr (Either i j))
  is_both : {p : ℕ} {t u : Tree} {i j : Intr} → Means t (an_intr i) → Means u (an_intr j) → Means (join both_code p t u) (an_intr (Both i j))

-- u is one of the parts of v; a treatment's are its event and what is done
pub data Under : Meaning → Meaning → Type 0 where
  of_seq₁ : {x y : Term} → Under (a_term x) (a_term (Seq x y))
  of_seq₂ : {x y : Term} → Under (a_term y) (a_term (Seq x y))
  of_par₁ : {x y : Term} → Under (a_term x) (a_term (Par x y))
  of_par₂ : {x y : Term} → Under (a_term y) (a_term (Par x y))
  under_star : {x : Term} → Under (a_term x) (a_term (Star x))
  of_act₁ : {x : Term} {i : Intr} → Under (a_term x) (a_term (Act x i))
  of_act₂ : {x : Term} {i : Intr} → Under (an_intr i) (a_term (Act x i))
  of_treat₁ : {e : ℕ} {x : Term} → Under (an_intr (Event e)) (an_intr (Treat e x))
  of_treat₂ : {e : ℕ} {x : Term} → Under (a_term x) (an_intr (Treat e x))
  of_either₁ : {i j : Intr} → Under (an_intr i) (an_intr (Either i j))
  of_either₂ : {i j : Intr} → Under (an_intr j) (an_intr (Either i j))
  of_both₁ : {i j : Intr} → Under (an_intr i) (an_intr (Both i j))
  of_both₂ : {i j : Intr} → Under (an_intr j) (an_intr (Both i j))

-- or a part of its parts, or v itself
pub data PartOf : Meaning → Meaning → Type 0 where
  itself : {v : Meaning} → PartOf v v
  inside : {u v w : Meaning} → Under u v → PartOf w u → PartOf w v

is-joined : (j : Join) {p : ℕ} {t u : Tree} {m n : Intr} → Means t (an_intr m) → Means u (an_intr n) → Means (join (join_code j) p t u) (an_intr (joined j m n))
is-joined bar f g = is_either f g
is-joined bars f g = is_both f g

mutual
  unfolding placed_s term_s

  pub means-S : (s : Sequence) (at : ℕ) → Means (placed_s at s) (a_term (term_s s))
  means-S (only i) at = means-I i at
  means-S (then i s) at = is_seq (means-I i at) (means-S s _)

  means-I : (i : Item) (at : ℕ) → Means (placed_i at i) (a_term (term_i i))
  means-I (plain t) at = means-T t at
  means-I (until t n) at = is_act (means-T t at) (means-N n _)

  means-T : (t : Starred) (at : ℕ) → Means (placed_t at t) (a_term (term_t t))
  means-T (once a) at = means-A a at
  means-T (again a) at = is_star (means-A a at)

  means-A : (a : Atom) (at : ℕ) → Means (placed_a at a) (a_term (term_a a))
  means-A (named m h) at = is_mod (ltb→lt m 26 h)
  means-A never at = is_one
  means-A (group b) at = means-B b _

  means-B : (b : Body) (at : ℕ) → Means (placed_b at b) (a_term (term_b b))
  means-B (single s) at = means-S s at
  means-B (beside s b) at = is_par (means-S s at) (means-B b _)

  means-N : (n : Interruption) (at : ℕ) → Means (placed_n at n) (an_intr (term_n n))
  means-N (event e h) at = is_event (ltb→lt e 26 h)
  means-N (treated e h i) at = is_treat (is_event (ltb→lt e 26 h)) (means-I i _)
  means-N (braces j n c) at = is-joined j (means-N n _) (means-C j c _)

  means-C : (j : Join) (c : Chain) (at : ℕ) → Means (placed_c j at c) (an_intr (term_c j c))
  means-C j (last n) at = means-N n _
  means-C j (next n c) at = is-joined j (means-N n _) (means-C j c _)
