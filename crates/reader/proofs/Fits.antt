-- A text that is a program of at most 96 tokens: the lists hold all its nodes (`tree-written`), so the checks and the node maker get what they ask. One
-- that passes all checks has no 97th token and no ninth name (`passes-tokens`, `passes-modules`, `passes-events`). Assumes nothing.
use Prim.Native.Nat.{ℕ, ◌+◌, ◌≤◌}
use mathlib.Core.Path.{◌≡◌, refl, sym, ap, subst, ◌∙◌}
use mathlib.Core.Bool.{Bool, true, false}
use mathlib.Core.List.{List, ◌++◌}
use mathlib.Core.Option.{Option, none}
use native.Mathlib.Omega.{arith}
use lib.Dec.{ltb}
use lib.ListN.{length, take, drop, replicate, length-replicate, length-take}
use lib.Seq.{slice, sets, sets-eq, length-sets, take-append_seam}
use borrow.Author.Tests.{ltb-false}
use Rattle.paper.specs.Bytes.{is_module, is_event}
use Rattle.paper.specs.Grammar.{Sequence, printed}
use Rattle.paper.specs.Parse.{program, parse}
use Rattle.paper.specs.File.{Answer, refused, accepted, unless, and_then, where_if, nothing_read, lines, read_lines}
use Rattle.paper.specs.Limits.{tokens, over96, too_deep, too_starred, ninth}
use Rattle.paper.specs.Reaction.{Program}
use Rattle.paper.specs.Refusals.{Edition, basic, adaptive, most_bytes, program_of, programmed, for_edition, within_limits, with_letters}
use Rattle.paper.proofs.Choices.{clash}
use Rattle.laws.specs.Placed.{placed_s, codes, lefts, places}
use Rattle.laws.proofs.Ordered.{Clear, checks, programmed-first, first-accepts}
use Rattle.laws.proofs.Parsing.{parse-program}
use Rattle.laws.proofs.Tokens.{few-tokens}
use Rattle.stars.specs.Nodes.{Written}
use Rattle.letters.specs.Found.{found}
use Rattle.letters.specs.declared.Found.{Found}
use Rattle.letters.specs.declared.Found.TheVariants.{At, Nothing}
use Rattle.nodes.proofs.Laws.{size_below}
use Rattle.syntax.proofs.Stores.{length-codes, length-lefts, length-places}
use Rattle.text.specs.declared.Lines.{Lines}
use Rattle.text.specs.Spans.{value_at, program_in, read_of, lines_read}
use Rattle.text.proofs.Parts.{length_part}
use Rattle.text.proofs.Onward.{program-there}
use Rattle.reader.specs.Stages.{Taken, text_of, HasTree, limited, Passes}
use Rattle.reader.proofs.Slices.{slice-part}

long-192 : (z : ℕ) → length (replicate 192 z) ≡ 192
long-192 z = length-replicate 192 z

-- the first places of a list that was written from its start on
written-first : (xs : List ℕ) (n : ℕ) → length xs ≡ n → n ≤ 192 → take n (sets (replicate 192 0) 0 xs) ≡ xs
written-first xs n e h =
    let z : List ℕ = replicate 192 0 in
    ap (take n) (sets-eq xs z 0 (omega (arith, e, long-192 0)))
    ∙ (ap (λ (k : ℕ). take k (xs ++ drop (0 + length xs) z)) (sym e) ∙ take-append_seam xs (drop (0 + length xs) z))

-- No. 2 did not refuse
taken-short : (bs : List ℕ) (ls : Lines) → Taken bs ls → length bs ≤ 1024
unfolding lines_read
taken-short bs ls h = by-long (ltb most_bytes (length bs)) refl h.means
  where
    by-long : (t : Bool) → ltb most_bytes (length bs) ≡ t → accepted (read_of bs ls) ≡ unless (where_if t 0) 2 (and_then (read_lines nothing_read (lines 0 bs)) (λ r. program_in (length bs) r r.program)) → length bs ≤ 1024
    by-long true q e = clash (cc)
    by-long false q e = ltb-false most_bytes (length bs) q

pub text-short : (bs : List ℕ) (ls : Lines) → Taken bs ls → length (take ls.program.end bs) ≤ 65536
text-short bs ls h = omega (arith, length-take ls.program.end bs, taken-short bs ls h)

module _ (bs : List ℕ) (ls : Lines) (h : Taken bs ls) where
  -- the text lies in the file
  text-within : (q : Sequence) → parse (text_of bs ls) ≡ program q → ls.program.at + length (printed q) ≤ most_bytes
  text-within q e =
      let l = h.lie.program.here (program-there bs parse adaptive ls h) in
      omega (arith, taken-short bs ls h, length_part bs ls.program.at ls.program.end (omega arith), ap length (parse-program (text_of bs ls) q e))

  module _ (c l p : List ℕ) (n : ℕ) (t : HasTree bs ls c l p n) where
    tree-tokens : over96 ls.program.at (text_of bs ls) ≡ none → length (tokens ls.program.at (printed t.tree)) ≤ 96
    tree-tokens o =
        subst (λ (v : List ℕ). length (tokens ls.program.at v) ≤ 96) (parse-program (text_of bs ls) t.tree t.parsed)
        (few-tokens ls.program.at (text_of bs ls) o)

    pub tree-few : over96 ls.program.at (text_of bs ls) ≡ none → n ≤ 189
    tree-few o = omega (arith, t.free, size_below ls.program.at t.tree (tree-tokens o))

    pub tree_lists : (length c ≡ 192) × (length l ≡ 192) × (length p ≡ 192)
    tree_lists = (
      ap length t.code ∙ (length-sets (replicate 192 0) 0 (codes (placed_s ls.program.at t.tree)) ∙ long-192 0),
      ap length t.left ∙ (length-sets (replicate 192 0) 0 (lefts 0 (placed_s ls.program.at t.tree)) ∙ long-192 0),
      ap length t.place ∙ (length-sets (replicate 192 0) 0 (places (placed_s ls.program.at t.tree)) ∙ long-192 0),
    )

    tree-written : over96 ls.program.at (text_of bs ls) ≡ none → Written ls.program.at t.tree c l p n
    tree-written o =
        let T = placed_s ls.program.at t.tree in
        let f = tree-few o in
        record {
          are_codes = ap (take n) t.code ∙ written-first (codes T) n (length-codes T ∙ sym t.free) (omega arith);
          are_lefts = ap (take n) t.left ∙ written-first (lefts 0 T) n (length-lefts 0 T ∙ sym t.free) (omega arith);
          are_places = ap (take n) t.place ∙ written-first (places T) n (length-places T ∙ sym t.free) (omega arith);
          within = text-within t.tree t.parsed;
        }

    -- whatever tree the text is said to have
    pub written_as : (q : Sequence) → parse (text_of bs ls) ≡ program q → over96 ls.program.at (text_of bs ls) ≡ none → Written ls.program.at q c l p n
    written_as q e o =
        let d : program t.tree ≡ program q = sym t.parsed ∙ e in
        let s : t.tree ≡ q = cc in
        subst (λ (x : Sequence). Written ls.program.at x c l p n) s (tree-written o)

-- ---- the 97th token

module _ (bs : List ℕ) (ls : Lines) (f : Found) (g : found f ≡ over96 ls.program.at (slice ls.program.at ls.program.end bs)) where
  found-over : found f ≡ over96 ls.program.at (text_of bs ls)
  found-over = g ∙ ap (over96 ls.program.at) (slice-part ls.program.at ls.program.end bs)

  pub no-97th : f ≡ Nothing → over96 ls.program.at (text_of bs ls) ≡ none
  no-97th e = sym found-over ∙ ap found e

pub over-refused : (e : Edition) (bs : List ℕ) (ls : Lines) (q : Sequence) (a : Answer Program) (f : Found) → found f ≡ over96 ls.program.at (slice ls.program.at ls.program.end bs) → (p : ℕ) → f ≡ At p → refused 9 p ≡ limited e bs ls q a
unfolding within_limits
over-refused e bs ls q a f g p d =
    sym (ap (λ (o : Option ℕ). unless o 9 (unless (too_deep ls.program.at (text_of bs ls)) 9 (unless (too_starred ls.program.at q) 9 (with_letters (read_of bs ls) ls.program.at (text_of bs ls) q (for_edition e (read_of bs ls) ls.program.at q a)))))
    (sym (found-over bs ls f g) ∙ ap found d))

-- ---- what passes

module _ (e : Edition) (bs : List ℕ) (ls : Lines) (h : Passes e bs ls) (q : Sequence) (t : parse (text_of bs ls) ≡ program q) where
  passes-clear : Clear (checks e (read_of bs ls) ls.program.at (text_of bs ls) q)
  unfolding programmed
  passes-clear =
      let p = program_of (read_of bs ls) (text_of bs ls) q in
      ((first-accepts p p (checks e (read_of bs ls) ls.program.at (text_of bs ls) q)).0
      (sym (programmed-first e (read_of bs ls) (value_at bs ls.program) q) ∙ h q p t)).0

  clear_first : (f : Edition) → Clear (checks f (read_of bs ls) ls.program.at (text_of bs ls) q) → (over96 ls.program.at (text_of bs ls) ≡ none) × (ninth is_module ls.program.at (text_of bs ls) ≡ none) × (ninth is_event ls.program.at (text_of bs ls) ≡ none)
  unfolding Clear
  clear_first basic c = (c.0, c.1.1.1.1.1.0, c.1.1.1.1.1.1.0)
  clear_first adaptive c = (c.0, c.1.1.1.1.1.0, c.1.1.1.1.1.1.0)

  pub passes-names : (over96 ls.program.at (text_of bs ls) ≡ none) × (ninth is_module ls.program.at (text_of bs ls) ≡ none) × (ninth is_event ls.program.at (text_of bs ls) ≡ none)
  passes-names = clear_first e passes-clear
