-- The table that a program's tree makes is that of its term: node by node, each code stands for the kind of node that the term has there.
--     grown-of              a tree that means v makes in any table what v makes
--     made-of               so a program's text makes what its term makes
-- Assumes nothing.
use Prim.Native.Nat.{ℕ, ◌+◌, ◌-◌}
use mathlib.Core.List.{List}
use mathlib.Core.Path.{◌≡◌, refl}
use native.Mathlib.Omega.{arith}
use Rattle.paper.specs.Grammar.{Sequence}
use Rattle.paper.specs.Term.{term_s}
use Rattle.laws.specs.Placed.{Tree, placed_s}
use Rattle.nodes.specs.Made.{Made, code_kind, node_by, grown, start, made}
use Rattle.nodes.specs.ByTerm.{grown_t, grown_i, made_of}
use Rattle.nodes.proofs.Codes.{module-kind, event-kind}
use Rattle.nodes.proofs.Means.{Meaning, a_term, an_intr, Means, is_mod, is_one, is_seq, is_par, is_star, is_act, is_event, is_treat, is_either, is_both, means-S}

abbrev grown_of : List ℕ → Meaning → Made
grown_of P (a_term x) = grown_t P x
grown_of P (an_intr i) = grown_i P i

pub grown-of : {t : Tree} {v : Meaning} → Means t v → (P : List ℕ) → grown P t ≡ grown_of P v
unfolding grown code_kind node_by grown_t
grown-of (is_mod {p} {m} h) P =
    let e : 97 + m - 97 ≡ m = omega arith in
    rw (module-kind (97 + m) (omega arith) (omega arith), e)
grown-of is_one P = refl
grown-of (is_seq {t = t} f g) P = rw (grown-of g (grown P t).table, grown-of f P)
grown-of (is_par {t = t} f g) P = rw (grown-of g (grown P t).table, grown-of f P)
grown-of (is_star f) P = rw (grown-of f P)
grown-of (is_act {t = t} f g) P = rw (grown-of g (grown P t).table, grown-of f P)
grown-of (is_event {p} {e} h) P =
    let d : 65 + e - 65 ≡ e = omega arith in
    rw (event-kind (65 + e) (omega arith) (omega arith), d)
grown-of (is_treat {t = t} f g) P = rw (grown-of g (grown P t).table, grown-of f P)
grown-of (is_either {t = t} f g) P = rw (grown-of g (grown P t).table, grown-of f P)
grown-of (is_both {t = t} f g) P = rw (grown-of g (grown P t).table, grown-of f P)

pub made-of : (at : ℕ) (q : Sequence) → made (placed_s at q) ≡ made_of (term_s q)
made-of at q = grown-of (means-S q at) start
