-- The tests are together exactly `decode` (`coding`, `Code`): what decodes passes each of them (`passed`), and what passes them all decodes to the
-- state that the bytes say (`decoded`), which the answer is (`taken`). Assumes nothing.
use Prim.Native.Nat.{ℕ, zero, suc, ◌-◌, ◌*◌, ◌/◌, ◌%◌, ◌^◌, ◌≤◌, ◌<◌}
use mathlib.Core.Bool.{Bool, false, cond, ◌||◌}
use mathlib.Core.List.{List, [], ◌∷◌}
use mathlib.Core.Option.{Option, none, some}
use mathlib.Core.Path.{◌≡◌, refl, sym, ap, subst, ◌∙◌}
use native.Mathlib.Nat.{div-eq_of_lt, div-lt_iff_lt-mul}
use native.Mathlib.Omega.{arith}
use lib.Dec.{T, eqb, ltb, eqb→eq, eqb_refl}
use lib.ListN.{length, drop, get_or, take, get_or-eq_default, length-take}
use lib.Pow.{pow_pos}
use lib.Seq.{ext_get_or, get_or-take}
use borrow.Author.Tests.{lt-ltb, le-ltb}
use Rattle.paper.specs.Lists.{has, eq_l}
use Rattle.paper.specs.Term.{Term, Left, gone, still}
use Rattle.paper.specs.Reaction.{Program, State}
use Rattle.paper.proofs.Choices.{clash}
use Rattle.paper.proofs.Equal.{and_left, and_right, and_both, eq_l-refl}
use Rattle.paper.proofs.Stays.{T_true}
use Rattle.laws.specs.Nodes.{Nodes}
use Rattle.laws.specs.Weight.{weight, weight_l}
use Rattle.laws.proofs.Letters.{has_here, has_there}
use Rattle.words.specs.Word.{Mark, u_seq, u_star, u_act, u_wait, u_one, u_par, u_mod, mark, hd, apply, terms, Fine, Right}
use Rattle.words.specs.Pieces.{rest}
use Rattle.words.proofs.Marks.{by-lt}
use Rattle.rewrite.specs.Steps.{left_of, state, Stands}
use Rattle.rewrite.specs.Stored.{stored}
use Rattle.rewrite.specs.declared.Memory.{Memory as Held}
use Rattle.react.specs.States.{Modules, stopped_of, state_of}
use Rattle.coding.specs.Units.{word_l, OverL, owns}
use Rattle.coding.specs.Layout.{unit_in, word_in, mark_in, marks_in, set_number, set_of, marks_of, events_of}
use Rattle.coding.specs.Written.{nodes_of, Written, in_set}
use Rattle.coding.specs.Code.{code, said, codes, decode}
use Rattle.coding.proofs.Bytes.{at-tab, length-tab, at_set, word_back, mark-back, set_back, set-none, marks-small, place_is}
use Rattle.coding.proofs.Letters.{by-or}
use Rattle.coding.proofs.Words.{word_over, over-owns}
use Rattle.coding.proofs.Standing.{silent, left_word}
use Rattle.coding.proofs.Fit.{Fit}
use Rattle.coding.proofs.Coded.{in-complete, code_decode, says, word-short, units_small, said-code, Unused, unused-zero}
use Rattle.walk.specs.Judging.{Sound, Lights}
use Rattle.walk.proofs.Walked.{sound-right}
use Rattle.unpack.specs.Unpacking.{Of, Shaped, Leads, Limited, Remembers, fresh}
use Rattle.unpack.proofs.Letters.{ascends-small, ascends-once, has_get_d, fresh-memory, memory-fresh}
use Rattle.unpack.proofs.Back.{number-back, limit-most, marks-again, events-long, events-at, bytes_back}

pub record Passed (P ms es : List ℕ) (fs : List Bool) (b : List ℕ) : Type 0 where
  pub shaped : Shaped b
  pub set : get_or b 121 0 / 2 ^ length ms ≡ 0
  pub marks : (c : ℕ) → Leads b c → Limited b c (length es)
  pub fresh_is : T (fresh fs (events_of es (marks_in b)))
  pub sound : Sound P ms (word_in b)
  pub single : length (terms P (word_in b)) ≤ 1

-- ---- a word's units may stand exactly where it is right, of the program's modules, and light

lights-back : (P : List ℕ) (m : Mark) (ts : List Term) → Fine P m ts → Lights (apply P m ts) → Lights ts × (weight (hd (apply P m ts)) ≤ 96)
unfolding Fine apply Lights weight
lights-back P (u_seq j) [] f l = absurd (omega arith)
lights-back P (u_seq j) (t ∷ ts) f l = ((omega (arith, l.0), l.1), l.0)
lights-back P (u_star j) [] f l = absurd (omega arith)
lights-back P (u_star j) (t ∷ ts) f l = ((omega (arith, l.0), l.1), l.0)
lights-back P (u_act j) [] f l = absurd (omega arith)
lights-back P (u_act j) (t ∷ ts) f l = ((omega (arith, l.0), l.1), l.0)
lights-back P (u_wait j) ts f l = (l.1, l.0)
lights-back P u_one ts f l = (l.1, l.0)
lights-back P u_par [] f l = absurd (omega arith)
lights-back P u_par (t ∷ []) f l = absurd (omega arith)
lights-back P u_par (t ∷ u ∷ ts) f l = ((omega (arith, l.0), (omega (arith, l.0), l.1)), l.0)
lights-back P (u_mod a) ts f l = (l.1, l.0)

sound-from : (P ms us : List ℕ) → Right P us → T (owns ms us) → Lights (terms P us) → Sound P ms us
unfolding Right owns terms Sound
sound-from P ms [] r o l = tt
sound-from P ms (u ∷ us) r o l =
    let t = ltb u 770 || has (u - 770) ms in
    let k = lights-back P (mark u) (terms P us) r.1 l in (
      sound-from P ms us r.0 (and_right t (owns ms us) o) k.0,
      record { fine = r.1; own = and_left t (owns ms us) o; light = k.1 },
    )

sound-owns : (P ms us : List ℕ) → Sound P ms us → T (owns ms us)
unfolding Sound owns
sound-owns P ms [] s = tt
sound-owns P ms (u ∷ us) s = and_both (ltb u 770 || has (u - 770) ms) (owns ms us) s.1.own (sound-owns P ms us s.0)

sound-light : (P ms us : List ℕ) → Sound P ms us → weight (hd (terms P us)) ≤ 96
unfolding Sound terms weight
sound-light P ms [] s = omega arith
sound-light P ms (u ∷ us) s = s.1.light

left-light : (ts : List Term) → weight (hd ts) ≤ 96 → weight_l (left_of ts) ≤ 96
unfolding weight_l
left-light [] h = omega arith
left-light (t ∷ ts) h = h

rest-light : (r : Left) → weight_l r ≤ 96 → Lights (rest r) × (length (rest r) ≤ 1)
unfolding Lights weight_l
rest-light gone h = (tt, omega arith)
rest-light (still t) h = ((h, tt), omega arith)

-- ---- lists of marks and bits

marks-most : (es xs : List ℕ) → ((e : ℕ) → T (has e xs) → T (has e es)) → (i : ℕ) → get_or (marks_of es xs) i 0 ≤ length es
unfolding marks_of has
marks-most es [] h i = omega arith
marks-most es (x ∷ xs) h zero = omega (arith, place_is es x (h x (has_here x x xs (eqb_refl x))))
marks-most es (x ∷ xs) h (suc i) = marks-most es xs (λ e t. h e (has_there e x xs t)) i

marks-some : (es xs : List ℕ) (i : ℕ) → i < length xs → get_or (marks_of es xs) i 0 ≡ 0 → ⊥
unfolding marks_of
marks-some es [] i h e = omega arith
marks-some es (x ∷ xs) zero h e = omega arith
marks-some es (x ∷ xs) (suc i) h e = marks-some es xs i (omega arith) e

events-known : (es ns : List ℕ) (e : ℕ) → ((i : ℕ) → get_or ns i 0 ≤ length es) → T (has e (events_of es ns)) → T (has e es)
unfolding events_of has
events-known es [] e l t = absurd t
events-known es (zero ∷ ns) e l t = absurd t
events-known es (suc n ∷ ns) e l t =
    by-or (eqb e (get_or es n 0)) (has e (events_of es ns)) t
    (λ h. subst (λ (x : ℕ). T (has x es)) (sym (eqb→eq e (get_or es n 0) h)) (has_get_d es n (let z = l 0 in omega arith)))
    (events-known es ns e (λ i. l (suc i)))

events-none : (es ns : List ℕ) → get_or ns 0 0 ≡ 0 → events_of es ns ≡ []
unfolding events_of
events-none es [] e = refl
events-none es (zero ∷ ns) e = refl
events-none es (suc n ∷ ns) e = absurd (omega arith)

set-empty : (ms : List ℕ) → set_of ms 0 ≡ []
unfolding set_of
set-empty [] = refl
set-empty (m ∷ ms) = set-empty ms

marks-at : (b : List ℕ) (i : ℕ) → i < 8 → get_or (marks_in b) i 0 ≡ mark_in b i
unfolding marks_in
marks-at b i h = at-tab (mark_in b) 8 i h

marks-long : (b : List ℕ) → length (marks_in b) ≡ 8
unfolding marks_in
marks-long b = length-tab (mark_in b) 8

limits : (b : List ℕ) (c n : ℕ) → Limited b c n → (i : ℕ) → get_or (marks_in b) i 0 ≤ cond (ltb i c) n 0
limits b c n l i =
    by-lt i 8 (λ h. rw (marks-at b i h) (l i h))
    (λ h. let z = get_or-eq_default (marks_in b) 0 {n = i} (omega (arith, marks-long b)) in omega arith)

leads : (b : List ℕ) (c : ℕ) → Leads b c → (i : ℕ) → i < c → get_or (marks_in b) i 0 ≡ 0 → ⊥
leads b c a i h e = a.marks i h (sym (marks-at b i (omega (arith, a.few))) ∙ e)

-- the memory that was read
pub memory-is : {b es : List ℕ} {c : ℕ} {m : Held} → Leads b c → Remembers b es c m → length m.events ≡ 8 → events_of es (marks_in b) ≡ stored m
memory-is {b} {es} {c} {m} a r l =
    let n = events-long es (marks_in b) c (omega (arith, a.few, marks-long b)) (leads b c a) (λ h. let k : c < 8 = omega (arith, marks-long b) in marks-at b c k ∙ a.stop k) in
    let k : length (take m.count m.events) ≡ c = simp length-take (omega (arith, r.count_is, a.few)) in
    ext_get_or 0 (events_of es (marks_in b)) (take m.count m.events) (n ∙ sym k)
    (λ i h.
    let u : i < c = omega arith in
    events-at es (marks_in b) i c u (leads b c a)
    ∙ (ap (λ (x : ℕ). get_or es (x - 1) 0) (marks-at b i (omega (arith, a.few)))
    ∙ (sym (r.events_are i u) ∙ sym (get_or-take m.count m.events i 0 (omega (arith, r.count_is))))))

word_none : (P us : List ℕ) (t : Term) → length us ≡ 0 → terms P us ≡ t ∷ [] → ⊥
unfolding terms
word_none P [] t h e = clash (cc)
word_none P (u ∷ us) t h e = omega arith

left-owns : (P ms : List ℕ) → Nodes P → (r : Left) → OverL P ms r → T (owns ms (word_l P r))
unfolding OverL word_l owns
left-owns P ms ns gone o = tt
left-owns P ms ns (still t) o = over-owns P ms ns t o

word-length : (b : List ℕ) → length (word_in b) ≡ get_or b 120 0
unfolding word_in
word-length b = length-tab (unit_in b) (get_or b 120 0)

first-zero : (x : ℕ) → x ≡ 0 → x / 16 % 16 ≡ 0
first-zero x e = omega arith

module _ (q : Program) (fs : List Bool) (fit : Fit q) (mods : Modules q.modules) (evs : Modules q.events) (told : (e : ℕ) → e < 26 → get_or fs e false ≡ has e q.fugitive) (b : List ℕ) (long : length b ≡ 128) (small : (i : ℕ) → get_or b i 0 < 256) where
  abbrev P : List ℕ
  P = nodes_of q

  abbrev ms : List ℕ
  ms = q.modules

  abbrev es : List ℕ
  es = q.events

  -- ---- what decodes passes

  module _ (s : State) (w : Written q s) (e : code q s ≡ b) where
    abbrev u : List ℕ
    u = word_l P s.left

    abbrev k : ℕ
    k = set_number ms s.stopped

    abbrev m : List ℕ
    m = marks_of es s.memory

    known : (x : ℕ) → T (has x s.memory) → T (has x es)
    known x t = (w.memory.1 x t).0

    word : word_in b ≡ u
    unfolding code
    word = ap word_in (sym e) ∙ word_back u k m (units_small q fit s.left w.over) (word-short q fit s.left w.light)

    many : get_or b 120 0 ≡ length u
    many = sym (word-length b) ∙ ap length word

    unused : Unused q s b
    unused = subst (Unused q s) e (unused-zero q fit s w)

    number : get_or b 121 0 ≡ k
    unfolding code
    number = ap (λ (l : List ℕ). get_or l 121 0) (sym e) ∙ at_set u k m

    mark-is : (i : ℕ) → i < 8 → mark_in b i ≡ get_or m i 0
    unfolding code
    mark-is i h = ap (λ (l : List ℕ). mark_in l i) (sym e) ∙ mark-back u k m (marks-small es s.memory fit.few_events known) i h

    stored_is : events_of es (marks_in b) ≡ s.memory
    unfolding said
    stored_is = ap (λ (x : State). x.memory) (ap (said q) (sym e) ∙ said-code q fit s w)

    at_end : (r : Left) → OverL P ms r → length (word_l P r) ≡ 0 → r ≡ gone
    unfolding word_l OverL
    at_end gone o h = refl
    at_end (still t) o h = absurd (word_none P (word_l P (still t)) t h (says q fit (still t) o).1)

    marks-end : (c i : ℕ) → Leads b c → c ≤ i → i < 8 → mark_in b i ≡ 0
    marks-end c i a l h =
        by-lt c (length s.memory)
        (λ d. absurd (marks-some es s.memory c d (sym (mark-is c (omega arith)) ∙ a.stop (omega arith))))
        (λ d. unused.marks i (omega arith) h)

    shape : Shaped b
    shape = record {
      short = omega (arith, many, word-short q fit s.left w.light);
      behind = λ i h l. (unused.units i (omega (arith, many)) l).1;
      spare = (unused.spare 126 (omega arith), unused.spare 127 (omega arith));
      ended =
          λ z.
          let x = w.ended (at_end s.left w.over (sym many ∙ z)) in
          let n : length s.memory ≡ 0 = ap length x.0 in
          let m₀ : get_or b 122 0 / 16 % 16 ≡ 0 = unused.marks 0 (omega arith) (omega arith) in
          let m₁ : get_or b 122 0 / 1 % 16 ≡ 0 = unused.marks 1 (omega arith) (omega arith) in
          (number ∙ (ap (set_number ms) x.1 ∙ set-none ms), omega (arith, small 122));
    }

    word_sound : Sound P ms u × (length (terms P u) ≤ 1)
    word_sound =
        let y = says q fit s.left w.over in
        let l = rest-light s.left w.light in
        (sound-from P ms u y.0 (left-owns P ms fit.nodes s.left w.over) (rw y.1 l.0), rw y.1 l.1)

    code-passed : Passed P ms es fs b
    code-passed = record {
      shaped = shape;
      set = div-eq_of_lt unused.set;
      marks =
          λ c a i h.
          by-lt i c (λ l. rw (lt-ltb i c l, mark-is i h) (marks-most es s.memory known i))
          (λ l. rw (le-ltb i c l) (omega (arith, marks-end c i a l h)));
      fresh_is =
          subst (λ (x : List ℕ). T (fresh fs x)) (sym stored_is)
          (memory-fresh q fs told s.memory (λ x t. (ascends-small 0 x es evs.ascend (known x t)).1) w.memory);
      sound = subst (λ (x : List ℕ). Sound P ms x) (sym word) word_sound.0;
      single = subst (λ (x : List ℕ). length (terms P x) ≤ 1) (sym word) word_sound.1;
    }

  -- ---- what passes decodes

  module _ (p : Passed P ms es fs b) (c : ℕ) (a : Leads b c) where
    limited : (i : ℕ) → get_or (marks_in b) i 0 ≤ cond (ltb i c) (length es) 0
    limited = limits b c (length es) (p.marks c a)

    units : (i : ℕ) → i < 96 → get_or (word_in b) i 0 ≡ unit_in b i
    unfolding word_in
    units i h =
        by-lt i (get_or b 120 0) (λ l. at-tab (unit_in b) (get_or b 120 0) i l)
        (λ l. get_or-eq_default (word_in b) 0 {n = i} (omega (arith, length-tab (unit_in b) (get_or b 120 0))) ∙ sym (p.shaped.behind i l h))

    set-number : set_number ms (set_of ms (get_or b 121 0)) ≡ get_or b 121 0
    set-number =
        let z : get_or b 121 0 < 1 * 2 ^ length ms = (div-lt_iff_lt-mul {k = 2 ^ length ms} {x = get_or b 121 0} {y = 1} (pow_pos (length ms))).0 (omega (arith, p.set)) in
        number-back ms (ascends-once 0 ms mods.ascend) (get_or b 121 0) (omega arith)

    back : code q (said q b) ≡ b
    unfolding code said
    back =
        rw (left_word P (word_in b) fit.nodes fit.apart (sound-right P ms (word_in b) p.sound) (terms P (word_in b)) p.single refl, set-number)
        (bytes_back b (word_in b) (marks_of es (events_of es (marks_in b))) small units
        (λ i h. marks-again es (ascends-once 0 es evs.ascend) (marks_in b) c (leads b c a) limited i ∙ marks-at b i h)
        (word-length b) p.shaped.spare long)

    over-left : (ts : List Term) → terms P (word_in b) ≡ ts → length ts ≤ 1 → OverL P ms (left_of ts)
    unfolding OverL
    over-left [] x h = tt
    over-left (t ∷ []) x h =
        (word_over P ms fit.nodes fit.apart fit.letters (word_in b) t (record { ok = sound-right P ms (word_in b) p.sound; term = x })
        (sound-owns P ms (word_in b) p.sound)).0
    over-left (t ∷ v ∷ ts) x h = absurd (omega arith)

    gone-none : (ts : List Term) → left_of ts ≡ gone → ts ≡ []
    gone-none [] x = refl
    gone-none (t ∷ ts) x = clash (cc)

    set-written : Written q (said q b)
    unfolding said
    set-written = record {
      over = over-left (terms P (word_in b)) refl p.single;
      light = left-light (terms P (word_in b)) (sound-light P ms (word_in b) p.sound);
      memory =
          fresh-memory q fs told (events_of es (marks_in b))
          (λ x t.
          let y = events-known es (marks_in b) x (λ i. limit-most (ltb i c) (get_or (marks_in b) i 0) (length es) (limited i)) t in
          (y, (ascends-small 0 x es evs.ascend y).1))
          p.fresh_is;
      stopped = ap (set_of ms) (sym set-number) ∙ set_back ms (set_of ms (get_or b 121 0));
      ended =
          λ x.
          let n : length (word_in b) ≡ 0 = ap length (silent P (word_in b) (gone-none (terms P (word_in b)) x)) in
          let z = p.shaped.ended (sym (word-length b) ∙ n) in (
            events-none es (marks_in b) (marks-at b 0 (omega arith) ∙ first-zero (get_or b 122 0) z.1),
            ap (set_of ms) z.0 ∙ set-empty ms,
          );
    }

    pub decoded : decode q b ≡ some (said q b)
    unfolding decode codes
    decoded =
        rw (
          T_true (in_set q (said q b)) (in-complete q (said q b) set-written),
          T_true (eq_l (code q (said q b)) b) (subst (λ (x : List ℕ). T (eq_l (code q (said q b)) x)) back (eq_l-refl (code q (said q b)))),
        )

-- ---- the same of what a caller has

nothing : (q : Program) (b : List ℕ) → ((s : State) → decode q b ≡ some s → ⊥) → decode q b ≡ none
nothing q b h = go (decode q b) h
  where
    go : (o : Option State) → ((s : State) → o ≡ some s → ⊥) → o ≡ none
    go none f = refl
    go (some s) f = absurd (f s refl)

module _ {q : Program} {P ms es : List ℕ} {fs : List Bool} (of : Of q P ms es fs) (mods : Modules ms) (evs : Modules es) (b : List ℕ) (long : length b ≡ 128) (small : (i : ℕ) → get_or b i 0 < 256) where
  own-mods : Modules q.modules
  own-mods = subst Modules (sym of.modules_are) mods

  own-evs : Modules q.events
  own-evs = subst Modules (sym of.events_are) evs

  pub passed : (s : State) → decode q b ≡ some s → Passed P ms es fs b
  passed s d =
      let w = code_decode q b s d in
      subst (λ (x : List ℕ). Passed x ms es fs b) of.nodes_are
      (subst (λ (x : List ℕ). Passed (nodes_of q) x es fs b) of.modules_are
      (subst (λ (x : List ℕ). Passed (nodes_of q) q.modules x fs b) of.events_are
      (code-passed q fs of.fit own-mods own-evs of.fugitive_are b long small s w.0 w.1)))

  pub refuses : (Passed P ms es fs b → ⊥) → decode q b ≡ none
  refuses h = nothing q b (λ s d. h (passed s d))

  -- the word stands at the end of W, with this memory and these flags beside it
  module _ (p : Passed P ms es fs b) (c : ℕ) (a : Leads b c) (W : List ℕ) (s : ℕ) (m : Held) (flags : List ℕ) (fills : drop s W ≡ word_in b) (stores : events_of es (marks_in b) ≡ stored m) (stops : stopped_of ms flags ≡ set_of ms (get_or b 121 0)) where
    own : Passed (nodes_of q) q.modules q.events fs b
    own =
        subst (λ (x : List ℕ). Passed x q.modules q.events fs b) (sym of.nodes_are)
        (subst (λ (x : List ℕ). Passed P x q.events fs b) (sym of.modules_are) (subst (λ (x : List ℕ). Passed P ms x fs b) (sym of.events_are) p))

    said-is : said q b ≡ state_of P W ms (record { start = s; memory = m; stopped = flags })
    unfolding said
    said-is =
        let l : left_of (terms (nodes_of q) (word_in b)) ≡ state P W s = rw (of.nodes_are, fills) in
        let e : events_of q.events (marks_in b) ≡ stored m = rw of.events_are stores in
        let t : set_of q.modules (get_or b 121 0) ≡ stopped_of ms flags = rw of.modules_are (sym stops) in
        λ i. record { left = l i; memory = e i; stopped = t i }

    pub takes : decode q b ≡ some (state_of P W ms (record { start = s; memory = m; stopped = flags }))
    takes = decoded q fs of.fit own-mods own-evs of.fugitive_are b long small own c a ∙ ap some said-is

pub stands : {P : List ℕ} (ms W : List ℕ) (s : ℕ) → Sound P ms (drop s W) → length (terms P (drop s W)) ≤ 1 → length W ≡ 96 → s ≤ 96 → Stands P W s
stands {P} ms W s o n l h =
    let w = left-light (terms P (drop s W)) (sound-light P ms (drop s W) o) in
    record { right = sound-right P ms (drop s W) o; single = n; light = omega arith; long = l; within = h }
