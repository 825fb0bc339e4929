-- Where the machine of `Parse` stands: a stack is a program with a hole, and the text and the codes so far are those in front of the hole. Any tree
-- of the hole's sort fills it to a program, so every text so far begins a program.
--     Sort, Tree σ          the sorts of trees, and the trees of the sort σ
--     text_of, code_of        a tree's text, and its codes
--     Hole σ p              a program with a hole for a tree of the sort σ, at the place p
--     State L v o           the text v has been read, o written, and the stack is L
--     Begun v               a program begins with v
-- Assumes nothing.
use Prim.Native.Nat.{ℕ}
use mathlib.Core.List.{List, [], ◌∷◌, ◌++◌, append_assoc, append-nil}
use mathlib.Core.Path.{◌≡◌, refl, sym, ap, ◌∙◌}
use lib.Dec.{T, ltb}
use Rattle.paper.specs.Bytes.{dot_mark, slash_mark, one_mark, colon_mark, open_mark, close_mark, brace_mark, bar_mark, unbrace_mark}
use Rattle.paper.specs.Grammar.{Join, bar, bars, Sequence, Item, Starred, Atom, Body, Interruption, Chain, only, then, plain, until, once, never, group, single, beside, event, treated, braces, last, next, event_byte, join_text, print_s, print_i, print_t, print_a, print_b, print_n, print_c, printed, Begins}
use Rattle.paper.specs.Parse.{Code, c_letter, c_until, c_then, c_beside, c_treated, c_next, c_braces, Sym, s_atom, s_star, s_slash, s_more, s_bars, s_bar, s_close, s_intr, s_colon, s_sep, s_next, s_second, s_brace, s_dot, s_chain, s_emit, no_body, no_event, no_chain}
use Rattle.laws.proofs.Posted.{post_s, post_i, post_t, post_a, post_b, post_n, post_c}

pub data Sort : Type 0 where
  sequence_s item_s starred_s atom_s body_s interruption_s : Sort
  chain_s : Join → Sort

abbrev pub Tree : Sort → Type 0
Tree sequence_s = Sequence
Tree item_s = Item
Tree starred_s = Starred
Tree atom_s = Atom
Tree body_s = Body
Tree interruption_s = Interruption
Tree (chain_s j) = Chain

abbrev pub text_of : (σ : Sort) → Tree σ → List ℕ
text_of sequence_s s = print_s s
text_of item_s i = print_i i
text_of starred_s t = print_t t
text_of atom_s a = print_a a
text_of body_s b = print_b b
text_of interruption_s n = print_n n
text_of (chain_s j) c = print_c j c

abbrev pub code_of : (σ : Sort) → Tree σ → List Code
code_of sequence_s s = post_s s
code_of item_s i = post_i i
code_of starred_s t = post_t t
code_of atom_s a = post_a a
code_of body_s b = post_b b
code_of interruption_s n = post_n n
code_of (chain_s j) c = post_c c

-- the text in front of a hole, the codes of the trees in it, and the stack that reads what stands behind the hole
pub record Place : Type 0 where
  pub text : List ℕ
  pub codes : List Code
  pub first : Sym
  pub others : List Sym

abbrev pub stack : Place → List Sym
stack p = p.first ∷ p.others

-- p with a symbol more on the stack, and with more text and codes in front
abbrev pub under : Sym → Place → Place
under y p = record { text = p.text; codes = p.codes; first = y; others = stack p }

abbrev pub after : List ℕ → List Code → Place → Place
after v o p = record { text = p.text ++ v; codes = p.codes ++ o; first = p.first; others = p.others }

-- one line for each way in which a tree stands in a larger one, with what has been read of that
pub data Hole : Sort → Place → Type 0 where
  whole : Hole sequence_s (record { text = []; codes = []; first = s_dot; others = [] })
  in_starred : {p : Place} → Hole starred_s p → Hole atom_s (under s_star p)
  in_item : {p : Place} → Hole item_s p → Hole starred_s (under s_slash p)
  in_sequence : {p : Place} → Hole sequence_s p → Hole item_s (under s_more p)
  in_then : {p : Place} (i : Item) → Hole sequence_s p → Hole sequence_s (under (s_emit c_then) (after (print_i i) (post_i i) p))
  in_body : {p : Place} → Hole body_s p → Hole sequence_s (under s_bars p)
  in_beside : {p : Place} (s : Sequence) → Hole body_s p → Hole body_s (under (s_emit c_beside) (after (print_s s ++ (bar_mark ∷ bar_mark ∷ [])) (post_s s) p))
  in_group : {p : Place} → Hole atom_s p → Hole body_s (under s_close (after (open_mark ∷ []) [] p))
  in_until : {p : Place} (t : Starred) → Hole item_s p → Hole interruption_s (under (s_emit c_until) (after (print_t t ++ (slash_mark ∷ [])) (post_t t) p))
  in_treated : {p : Place} (e : ℕ) → T (ltb e 26) → Hole interruption_s p
      → Hole item_s (under (s_emit c_treated) (after (event_byte e ∷ colon_mark ∷ []) (c_letter e ∷ []) p))
  in_braces : {p : Place} → Hole interruption_s p → Hole interruption_s (under s_sep (after (brace_mark ∷ []) [] p))
  in_chain : {p : Place} (j : Join) → Hole (chain_s j) p → Hole interruption_s (under (s_chain j) (after (join_text j) [] p))
  in_next : {p : Place} (j : Join) (n : Interruption) → Hole (chain_s j) p
      → Hole (chain_s j) (under (s_emit c_next) (after (join_text j ++ print_n n) (post_n n) p))
  in_rest : {p : Place} (j : Join) (n : Interruption) → Hole interruption_s p
      → Hole (chain_s j) (under (s_emit (c_braces j)) (under s_brace (after (brace_mark ∷ print_n n) (post_n n) p)))

-- the program is over, or the machine waits for a tree, or has read a part of one, or has just read one
pub data State : List Sym → List ℕ → List Code → Type 0 where
  over : (s : Sequence) → State [] (printed s) (post_s s)
  at_atom : {p : Place} → Hole atom_s p → State (s_atom ∷ stack p) p.text p.codes
  at_intr : {p : Place} → Hole interruption_s p → State (s_intr ∷ stack p) p.text p.codes
  at_colon : {p : Place} (e : ℕ) → T (ltb e 26) → Hole interruption_s p
      → State (s_colon ∷ stack p) (p.text ++ (event_byte e ∷ [])) (p.codes ++ (c_letter e ∷ []))
  at_bar : {p : Place} (s : Sequence) → Hole body_s p → State (s_bar ∷ stack p) (p.text ++ (print_s s ++ (bar_mark ∷ []))) (p.codes ++ post_s s)
  at_next : {p : Place} (n : Interruption) → Hole interruption_s p
      → State (s_next ∷ stack p) (p.text ++ (brace_mark ∷ (print_n n ++ (bar_mark ∷ [])))) (p.codes ++ post_n n)
  at_second : {p : Place} (n : Interruption) → Hole (chain_s bars) p
      → State (s_second ∷ stack p) (p.text ++ (bar_mark ∷ bar_mark ∷ (print_n n ++ (bar_mark ∷ [])))) (p.codes ++ post_n n)
  behind : {σ : Sort} {p : Place} (t : Tree σ) → Hole σ p → State (stack p) (p.text ++ text_of σ t) (p.codes ++ code_of σ t)

-- ---- what has been read begins a program

-- `Begins v`, as a record
pub record Begun (v : List ℕ) : Type 0 where
  pub rest : List ℕ
  pub all : Sequence
  pub text : v ++ rest ≡ printed all

pub begun-begins : {v : List ℕ} → Begun v → Begins v
begun-begins b = (b.rest, (b.all, b.text))

-- what stands in front of a text that begins a program begins it too
pub begun-front : {u v : List ℕ} (r : List ℕ) → u ≡ v ++ r → Begun u → Begun v
begun-front {v} r e b = record {
  rest = r ++ b.rest;
  all = b.all;
  text = sym (append_assoc v r b.rest) ∙ ap (λ (z : List ℕ). z ++ b.rest) (sym e) ∙ b.text;
}

-- texts and codes without inner brackets
pub ruleset flat = (append_assoc, append-nil)

hole-begun : {σ : Sort} {p : Place} → Hole σ p → (t : Tree σ) → Begun (p.text ++ text_of σ t)
unfolding print_s printed
hole-begun whole s = record { rest = dot_mark ∷ []; all = s; text = refl }
hole-begun (in_starred h) a = hole-begun h (once a)
hole-begun (in_item h) t = hole-begun h (plain t)
hole-begun (in_sequence h) i = hole-begun h (only i)
hole-begun (in_then i h) s = begun-front [] (simp flat) (hole-begun h (then i s))
hole-begun (in_body h) s = hole-begun h (single s)
hole-begun (in_beside s h) b = begun-front [] (simp flat) (hole-begun h (beside s b))
hole-begun (in_group h) b = begun-front (close_mark ∷ []) (simp flat) (hole-begun h (group b))
hole-begun (in_until t h) n = begun-front [] (simp flat) (hole-begun h (until t n))
hole-begun (in_treated e q h) i = begun-front [] (simp flat) (hole-begun h (treated e q i))
hole-begun (in_braces h) n = begun-front (print_c bar no_chain ++ (unbrace_mark ∷ [])) (simp flat) (hole-begun h (braces bar n no_chain))
hole-begun (in_chain j h) n = begun-front [] (simp flat) (hole-begun h (last n))
hole-begun (in_next j n h) c = begun-front [] (simp flat) (hole-begun h (next n c))
hole-begun (in_rest j n h) c = begun-front (unbrace_mark ∷ []) (simp flat) (hole-begun h (braces j n c))

pub state-begun : {L : List Sym} {v : List ℕ} {o : List Code} → State L v o → Begun v
unfolding print_s
state-begun (over s) = record { rest = []; all = s; text = append-nil (printed s) }
state-begun (at_atom h) = begun-front (one_mark ∷ []) refl (hole-begun h never)
state-begun (at_intr h) = begun-front (print_n no_event) refl (hole-begun h no_event)
state-begun (at_colon e q h) = hole-begun h (event e q)
state-begun (at_bar s h) = begun-front (bar_mark ∷ print_b no_body) (simp flat) (hole-begun h (beside s no_body))
state-begun (at_next n h) = begun-front (print_n no_event ++ (unbrace_mark ∷ [])) (simp flat) (hole-begun h (braces bar n no_chain))
state-begun (at_second n h) = begun-front (bar_mark ∷ print_n no_event) (simp flat) (hole-begun h (next n no_chain))
state-begun (behind t h) = hole-begun h t
