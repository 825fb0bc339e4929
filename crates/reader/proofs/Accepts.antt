-- What the arrays and names of an accepted program are: each is found place by place, and is then the definition's (`Reads`). What the node maker, the
-- weights and the names ask holds of a program that passes. Assumes nothing.
use Prim.Native.Nat.{ℕ, zero, suc, ◌+◌, ◌≤◌, ◌<◌}
use mathlib.Core.Path.{◌≡◌, refl, sym, ap, subst, ◌∙◌}
use mathlib.Core.Bool.{Bool, true, false, cond}
use mathlib.Core.List.{List, map}
use mathlib.Core.Option.{none}
use native.Mathlib.Omega.{arith}
use lib.Dec.{ltb}
use lib.ListN.{length, get_or, replicate, get_or-replicate}
use lib.Seq.{slice, ext_get_or}
use borrow.Author.Tests.{ltb-false, ltb-true}
use Rattle.paper.specs.Bytes.{is_module, is_event}
use Rattle.paper.specs.Grammar.{Sequence, printed, module_byte, event_byte}
use Rattle.paper.specs.Parse.{program, parse}
use Rattle.paper.specs.File.{accepted}
use Rattle.paper.specs.Limits.{tokens, over96, ninth}
use Rattle.paper.specs.Term.{term_s}
use Rattle.paper.specs.Refusals.{ascending, fugitive_text, program_of}
use Rattle.paper.specs.Lists.{has, from, below}
use Rattle.letters.specs.Letters.{Tells, TellsFrom, names_of}
use Rattle.letters.specs.declared.Names.{Names}
use Rattle.laws.proofs.Parsing.{parse-program}
use Rattle.laws.proofs.Tokens.{few-tokens}
use Rattle.laws.specs.Nodes.{count}
use Rattle.nodes.specs.Made.{Made}
use Rattle.nodes.specs.ByTerm.{made_of}
use Rattle.nodes.specs.Given.{Postorder, Given, Numbered}
use Rattle.nodes.specs.Weights.{node_weight, Weighable, Weighed}
use Rattle.nodes.proofs.ByTerm.{made-of}
use Rattle.nodes.proofs.Parts.{made-weighable}
use Rattle.text.specs.declared.Lines.{Lines}
use Rattle.text.specs.Spans.{read_of}
use Rattle.reader.specs.declared.Program.{Program}
use Rattle.reader.specs.declared.Verdict.TheVariants.{Accepted}
use Rattle.reader.specs.Reads.{weights_in, kinds_of, ReadsAs}
use Rattle.reader.specs.Stages.{text_of, Fit}
use Rattle.reader.proofs.Slices.{slice-part}
use Rattle.reader.proofs.Listed.{fugitive-tells}
use Rattle.reader.proofs.Fits.{passes-names, written_as, tree_lists, tree-few}

-- an accepted program, field by field
given-same : {r r' : ℕ} {m m' v v' : Names} {f f' : List Bool} → r ≡ r' → m ≡ m' → v ≡ v' → f ≡ f'
    → ◌≡◌ {A = Program} (record { verdict = Accepted; root = r; modules = m; events = v; fugitive = f }) (record { verdict = Accepted; root = r'; modules = m'; events = v'; fugitive = f' })
given-same {r} {r'} {m} {m'} {v} {v'} {f} {f'} a b c d =
    ap (λ (x : ℕ). record { verdict = Accepted; root = x; modules = m; events = v; fugitive = f }) a
    ∙ (ap (λ (x : Names). record { verdict = Accepted; root = r'; modules = x; events = v; fugitive = f }) b
    ∙ (ap (λ (x : Names). record { verdict = Accepted; root = r'; modules = m'; events = x; fugitive = f }) c
    ∙ ap (λ (x : List Bool). record { verdict = Accepted; root = r'; modules = m'; events = v'; fugitive = x }) d))

-- a list by its places
pub get_d-from : {A : Type 0} (f : ℕ → A) (d : A) (k n i : ℕ) → i < n → get_or (map f (from k n)) i d ≡ f (k + i)
unfolding from
get_d-from f d k zero i h = absurd (omega arith)
get_d-from f d k (suc n) zero h = let e : k ≡ k + 0 = omega arith in ap f e
get_d-from f d k (suc n) (suc i) h =
    let e : suc k + i ≡ k + suc i = omega arith in get_d-from f d (suc k) n i (omega arith) ∙ ap f e

pub length_from : {A : Type 0} (f : ℕ → A) (k n : ℕ) → length (map f (from k n)) ≡ n
unfolding from
length_from f k zero = refl
length_from f k (suc n) = ap suc (length_from f (suc k) n)

by-places : {A : Type 0} (d : A) (xs : List A) (n : ℕ) (f : ℕ → A) → length xs ≡ n → ((i : ℕ) → i < n → get_or xs i d ≡ f i) → xs ≡ map f (below n)
unfolding below
by-places d xs n f l h =
    ext_get_or d xs (map f (from 0 n)) (l ∙ sym (length_from f 0 n)) by_place
  where
    by_place : (i : ℕ) → i < length xs → get_or xs i d ≡ get_or (map f (from 0 n)) i d
    by_place i q =
        let e : 0 + i ≡ i = omega arith in
        h i (omega (arith, l)) ∙ (sym (ap f e) ∙ sym (get_d-from f d 0 n i (omega (arith, l))))

zero-at : (i : ℕ) → i < 192 → ◌≡◌ {A = ℕ} (get_or (replicate 192 0) i 0) 0
zero-at i q = let z : ℕ = 0 in get_or-replicate 192 i z z q

pub kinds-are : (fs : List Bool) (es : List ℕ) → length fs ≡ 26 → Tells fs es → fs ≡ kinds_of es
unfolding kinds_of
kinds-are fs es l t = by-places false fs 26 (λ e. has e es) l t

pub weights_are : (P w : List ℕ) → length w ≡ 192 → Weighed P (replicate 192 0) w → w ≡ weights_in P
unfolding weights_in
weights_are P w l h = by-places 0 w 192 (λ i. cond (ltb i (count P)) (node_weight P i) 0) l (λ i q. by-node i q (ltb i (count P)) refl)
  where
    by-node : (i : ℕ) → i < 192 → (t : Bool) → ltb i (count P) ≡ t → get_or w i 0 ≡ cond t (node_weight P i) 0
    by-node i q true e = h.at_nodes i (ltb-true i (count P) e)
    by-node i q false e = h.behind i (ltb-false i (count P) e) ∙ zero-at i q

-- ---- a program that passes

module _ (bs : List ℕ) (ls : Lines) (c l : List ℕ) (n : ℕ) (h : Fit bs ls c l n) where
  clear : (q : Sequence) → parse (text_of bs ls) ≡ program q → (over96 ls.program.at (text_of bs ls) ≡ none) × (ninth is_module ls.program.at (text_of bs ls) ≡ none) × (ninth is_event ls.program.at (text_of bs ls) ≡ none)
  clear q e = passes-names h.edition bs ls h.passes q e

  postorder : (q : Sequence) → parse (text_of bs ls) ≡ program q → Postorder c l n ls.program.at q
  postorder q e =
      let w = written_as bs ls h.taken c l h.places n h.has_tree q e (clear q e).0 in
      record { its_codes = w.are_codes; its_lefts = w.are_lefts }

  pub fit-given : (room : ℕ) → room ≡ 768 → Given c l n room
  fit-given room e =
      let t = h.has_tree in
      let d = tree_lists bs ls h.taken c l h.places n t in
      record {
        at = ls.program.at;
        program = t.tree;
        written = postorder t.tree t.parsed;
        code_long = d.0;
        left_long = d.1;
        few = tree-few bs ls h.taken c l h.places n t (clear t.tree t.parsed).0;
        nodes_long = e;
      }

  few : (q : Sequence) → parse (text_of bs ls) ≡ program q → length (tokens ls.program.at (printed q)) ≤ 96
  few q e =
      subst (λ (v : List ℕ). length (tokens ls.program.at v) ≤ 96) (parse-program (text_of bs ls) q e)
      (few-tokens ls.program.at (text_of bs ls) (clear q e).0)

  pub fit-modules : ninth is_module ls.program.at (slice ls.program.at ls.program.end bs) ≡ none
  fit-modules =
      ap (ninth is_module ls.program.at) (slice-part ls.program.at ls.program.end bs) ∙ (clear h.has_tree.tree h.has_tree.parsed).1

  pub fit-events : ninth is_event ls.program.at (slice ls.program.at ls.program.end bs) ≡ none
  fit-events =
      ap (ninth is_event ls.program.at) (slice-part ls.program.at ls.program.end bs) ∙ (clear h.has_tree.tree h.has_tree.parsed).2

  module _ (P : List ℕ) (root : ℕ) (k : Numbered c l n P root) where
    pub fit-weighable : (room : ℕ) → room ≡ 192 → Weighable P room
    fit-weighable room d =
        let t = h.has_tree in
        subst (λ (i : ℕ). Weighable P i) (sym d)
        (subst (λ (T : List ℕ). Weighable T 192) (sym (k.table_is ls.program.at t.tree (postorder t.tree t.parsed)))
        (made-weighable ls.program.at t.tree (few t.tree t.parsed)))

    module _ (w : List ℕ) (j : length w ≡ 192) (g : Weighed P (replicate 192 0) w) (modules events : Names) (m : modules ≡ names_of (ascending module_byte (slice ls.program.at ls.program.end bs))) (v : events ≡ names_of (ascending event_byte (slice ls.program.at ls.program.end bs))) (fs : List Bool) (a : length fs ≡ 26) (t : TellsFrom 65 fs (slice ls.fugitive.at ls.fugitive.end bs)) where
      pub fit-reads : (q : Sequence) → parse (text_of bs ls) ≡ program q → ReadsAs (accepted (program_of (read_of bs ls) (text_of bs ls) q)) (record { verdict = Accepted; root = root; modules = modules; events = events; fugitive = fs }) P w
      unfolding program_of
      fit-reads q e =
          let s = slice-part ls.program.at ls.program.end bs in
          let d : P ≡ (made_of (term_s q)).table = k.table_is ls.program.at q (postorder q e) ∙ ap (λ (x : Made). x.table) (made-of ls.program.at q) in
          let r : root ≡ (made_of (term_s q)).node = k.root_is ls.program.at q (postorder q e) ∙ ap (λ (x : Made). x.node) (made-of ls.program.at q) in
          record {
            is =
                given-same r (m ∙ ap (λ (x : List ℕ). names_of (ascending module_byte x)) s) (v ∙ ap (λ (x : List ℕ). names_of (ascending event_byte x)) s)
                (kinds-are fs (ascending event_byte (fugitive_text (read_of bs ls).fugitive)) a (fugitive-tells bs ls h.taken fs t));
            its_nodes = d;
            its_weights = weights_are P w j g ∙ ap weights_in d;
          }
