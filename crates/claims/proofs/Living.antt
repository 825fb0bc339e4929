-- The live start and step: what a call answers, by its conditions (`begin-ends`, `go-ends`, and `begin-sound`, `go-sound` the other way). The bytes of a live
-- state are those of one state of the written set or of none (`coding`, `Right`). Assumes nothing.
use Prim.Native.Nat.{ℕ, ◌-◌, ◌≤◌, ◌<◌}
use mathlib.Core.Path.{◌≡◌, refl, sym, ap, subst, ◌∙◌}
use mathlib.Core.Bool.{Bool, true, false, cond, ◌&&◌, true≢false}
use mathlib.Core.List.{List, map}
use mathlib.Core.Option.{Option, none, some}
use native.Mathlib.Omega.{arith}
use borrow.Author.Tests.{eqb-true, eqb-false, eq-eqb, ne_eqb, leb-true, le-leb}
use lib.Dec.{T, eqb, leb}
use lib.ListN.{length}
use Rattle.paper.specs.Lists.{chosen, has}
use Rattle.paper.specs.Bytes.{is_module, is_event}
use Rattle.paper.specs.Grammar.{module_byte, event_byte}
use Rattle.paper.specs.Parse.{parse}
use Rattle.paper.specs.File.{Answer, refused, accepted}
use Rattle.paper.specs.Running.{runs_l}
use Rattle.paper.specs.Rewriting.{Letter, completion, occurrence}
use Rattle.paper.specs.Reaction.{Program, State, start_of, possible, reaction}
use Rattle.paper.specs.Table.{flag}
use Rattle.paper.specs.Refusals.{adaptive, program_of, reading}
use Rattle.paper.specs.Calls.{Lived, live_bytes, not_lived, lives_on, begun, stepped, reacted, letter_of, live_start, live_step}
use Rattle.paper.proofs.Choices.{clash}
use Rattle.paper.proofs.Stays.{T_true}
use Rattle.laws.proofs.Letters.{by_cond, false-not}
use Rattle.layout.proofs.Tests.{and_both}
use Rattle.coding.specs.Code.{code, decode, coding}
use Rattle.coding.proofs.Letters.{kept-below}
use Rattle.coding.proofs.Found.{holds}
use Rattle.coding.proofs.Coded.{code_long, decode_code, code_decode}
use Rattle.coding.proofs.Accepted.{accepted-fit}
use Rattle.claims.specs.Faults.{Accepts}
use Rattle.claims.specs.Exactly.{IsLetter, of_module, of_event, Codes, LiveStartRefuses, begin_1, begin_2_to_14, LiveStepRefuses, go_1, go_2_to_14, go_23, go_21, go_22}
use Rattle.claims.proofs.Keys.{not_T}
use Rattle.claims.proofs.Reading.{reading-refused, reading-accepted, refused-reading, accepted-reading}
use Rattle.claims.proofs.Compiling.{reading-within}

-- ---- how a call ends

pub data LiveEnds (live : List ℕ) (x : Lived) (R : ℕ → ℕ → Type 0) : Type 0 where
  refuses : (n p : ℕ) → R n p → x ≡ not_lived n p live → LiveEnds live x R
  goes : (orders bytes : List ℕ) → x ≡ lives_on orders bytes → length bytes ≡ length live → LiveEnds live x R

abbrev pub LiveSound : List ℕ → Lived → (ℕ → ℕ → Type 0) → Type 0
LiveSound live x R = (n p : ℕ) → R n p → (x ≡ not_lived n p live) × (1 ≤ n)

-- ---- a program's letters

and-true-both : (a b : Bool) → a ≡ true → b ≡ true → (a && b) ≡ true
and-true-both a b h k = rw (h, k)

-- whose byte it is
abbrev Own : Program → ℕ → Letter → Type 0
Own q b (completion m) = T (has m q.modules) × (b ≡ module_byte m)
Own q b (occurrence e) = T (has e q.events) × (b ≡ event_byte e)

letter-is : (q : Program) (b : ℕ) (l : Letter) → letter_of q b ≡ some l → Own q b l
unfolding letter_of
letter-is q b l =
    by_cond (λ (o : Option Letter). o ≡ some l → Own q b l) (is_module b && has (b - 97) q.modules) _ _
    (λ t e.
    let w = and_both (is_module b) (has (b - 97) q.modules) t in
    let k = leb-true 97 b (and_both (leb 97 b) (leb b 122) w.0).0 in
    subst (Own q b) (let z : completion (b - 97) ≡ l = cc in z) (holds _ w.1, omega (arith, k)))
    (λ f.
    by_cond (λ (o : Option Letter). o ≡ some l → Own q b l) (is_event b && has (b - 65) q.events) _ _
    (λ t e.
    let w = and_both (is_event b) (has (b - 65) q.events) t in
    let k = leb-true 65 b (and_both (leb 65 b) (leb b 90) w.0).0 in
    subst (Own q b) (let z : occurrence (b - 65) ≡ l = cc in z) (holds _ w.1, omega (arith, k)))
    (λ g e. clash (cc)))

own-letter : (q : Program) (b : ℕ) (l : Letter) → Own q b l → IsLetter q.modules q.events b
own-letter q b (completion m) h = of_module m h.0 h.1
own-letter q b (occurrence e) h = of_event e h.0 h.1

none-letter : (q : Program) (b : ℕ) → (IsLetter q.modules q.events b → ⊥) → (o : Option Letter) → letter_of q b ≡ o → o ≡ none
none-letter q b f none e = refl
none-letter q b f (some l) e = absurd (f (own-letter q b l (letter-is q b l e)))

module _ (file : List ℕ) (q : Program) (a : Accepts adaptive file q) where
  module-small : (m : ℕ) → T (has m q.modules) → m < 26
  unfolding program_of
  module-small m h = kept-below _ 26 m (subst (λ (x : Program). T (has m x.modules)) a.program h)

  event-small : (e : ℕ) → T (has e q.events) → e < 26
  unfolding program_of
  event-small e h = kept-below _ 26 e (subst (λ (x : Program). T (has e x.events)) a.program h)

  of-completion : (b m : ℕ) → T (has m q.modules) → b ≡ module_byte m → letter_of q b ≡ some (completion m)
  unfolding letter_of
  of-completion b m h e =
      let k = module-small m h in
      let z : b - 97 ≡ m = omega arith in
      let t : (is_module b && has (b - 97) q.modules) ≡ true = and-true-both (is_module b) (has (b - 97) q.modules) (and-true-both (leb 97 b) (leb b 122) (le-leb 97 b (omega arith)) (le-leb b 122 (omega arith))) (ap (λ (x : ℕ). has x q.modules) z ∙ T_true (has m q.modules) h) in
      by_cond (λ (o : Option Letter). o ≡ some (completion m)) (is_module b && has (b - 97) q.modules) _ _ (λ y. ap (λ (x : ℕ). some (completion x)) z)
      (λ y. absurd (true≢false (sym t ∙ y)))

  of-occurrence : (b x : ℕ) → T (has x q.events) → b ≡ event_byte x → letter_of q b ≡ some (occurrence x)
  unfolding letter_of
  of-occurrence b x h e =
      let k = event-small x h in
      let z : b - 65 ≡ x = omega arith in
      let t : (is_event b && has (b - 65) q.events) ≡ true = and-true-both (is_event b) (has (b - 65) q.events) (and-true-both (leb 65 b) (leb b 90) (le-leb 65 b (omega arith)) (le-leb b 90 (omega arith))) (ap (λ (x : ℕ). has x q.events) z ∙ T_true (has x q.events) h) in
      by_cond (λ (o : Option Letter). o ≡ some (occurrence x)) (is_module b && has (b - 97) q.modules) _ _
      (λ y. absurd (omega (arith, leb-true 97 b (and_both (leb 97 b) (leb b 122) (and_both (is_module b) (has (b - 97) q.modules) y).0).0)))
      (λ y.
      by_cond (λ (o : Option Letter). o ≡ some (occurrence x)) (is_event b && has (b - 65) q.events) _ _ (λ w. ap (λ (x : ℕ). some (occurrence x)) z)
      (λ w. absurd (true≢false (sym t ∙ w))))

  -- a byte of the program is a letter
  letter-none : (b : ℕ) → IsLetter q.modules q.events b → letter_of q b ≡ none → ⊥
  letter-none b (of_module m h e) z = clash (let y = of-completion b m h e in cc)
  letter-none b (of_event x h e) z = clash (let y = of-occurrence b x h e in cc)

-- ---- start

module _ (file live : List ℕ) where
  start-by : (b : Bool) → eqb (length live) live_bytes ≡ b → (a : Answer Program) → reading parse adaptive file ≡ a
      → live_start parse coding file live ≡ cond b (begun coding a live) (not_lived 1 0 live)
  unfolding live_start
  start-by b q a i =
      ap (λ (b : Bool). cond b (begun coding (reading parse adaptive file) live) (not_lived 1 0 live)) q
      ∙ ap (λ (a : Answer Program). cond b (begun coding a live) (not_lived 1 0 live)) i

  pub begin-sound : LiveSound live (live_start parse coding file live) (LiveStartRefuses file live)
  begin-sound n p (begin_1 f) = (start-by false (ne_eqb (length live) live_bytes f) _ refl, omega arith)
  begin-sound n p (begin_2_to_14 h r) =
      (start-by true (eq-eqb (length live) live_bytes h) (refused n p) (refused-reading adaptive file n p r), omega (arith, (reading-within adaptive file n p r).0))

  pub begin-ends : LiveEnds live (live_start parse coding file live) (LiveStartRefuses file live)
  begin-ends = by (eqb (length live) live_bytes) refl (reading parse adaptive file) refl
    where
      by : (b : Bool) → eqb (length live) live_bytes ≡ b → (a : Answer Program) → reading parse adaptive file ≡ a
          → LiveEnds live (live_start parse coding file live) (LiveStartRefuses file live)
      by false q a i = refuses 1 0 (begin_1 (eqb-false (length live) live_bytes q)) (start-by false q a i)
      by true q (refused n p) i =
          refuses n p (begin_2_to_14 (eqb-true (length live) live_bytes q) (reading-refused adaptive file n p i)) (start-by true q (refused n p) i)
      by true q (accepted p) i =
          goes (map (λ m. flag (runs_l m (start_of p).left)) p.modules) (code p (start_of p)) (start-by true q (accepted p) i)
          (code_long p (start_of p) ∙ sym (eqb-true (length live) live_bytes q))

-- ---- step

module _ (file live : List ℕ) (letter : ℕ) where
  abbrev its : Lived
  its = live_step parse coding file live letter

  abbrev reacts : Program → State → Letter → Bool → Lived
  reacts q s l b = cond b (lives_on (reaction q l s).does (code q (reaction q l s).state)) (not_lived 22 0 live)

  step_by : (b : Bool) → eqb (length live) live_bytes ≡ b → (a : Answer Program) → reading parse adaptive file ≡ a → its ≡ cond b (stepped coding a letter live) (not_lived 1 0 live)
  unfolding live_step
  step_by b q a i =
      ap (λ (b : Bool). cond b (stepped coding (reading parse adaptive file) letter live) (not_lived 1 0 live)) q
      ∙ ap (λ (a : Answer Program). cond b (stepped coding a letter live) (not_lived 1 0 live)) i

  module _ (h : length live ≡ live_bytes) (q : Program) (a : Accepts adaptive file q) where
    coded_by : (o : Option State) → decode q live ≡ o → its ≡ chosen o (λ u. not_lived 23 0 live) (λ s. reacted coding q s letter live)
    coded_by o d =
        step_by true (eq-eqb (length live) live_bytes h) (accepted q) (accepted-reading adaptive file q a)
        ∙ ap (λ (o : Option State). chosen o (λ u. not_lived 23 0 live) (λ s. reacted coding q s letter live)) d

    letter-by : (s : State) → decode q live ≡ some s → (o : Option Letter) → letter_of q letter ≡ o
        → its ≡ chosen o (λ u. not_lived 21 0 live) (λ l. reacts q s l (possible l s))
    unfolding reacted
    letter-by s d o e = coded_by (some s) d ∙ ap (λ (o : Option Letter). chosen o (λ u. not_lived 21 0 live) (λ l. reacts q s l (possible l s))) e

    possible-by : (s : State) → decode q live ≡ some s → (l : Letter) → letter_of q letter ≡ some l → (b : Bool) → possible l s ≡ b → its ≡ reacts q s l b
    possible-by s d l e b p = letter-by s d (some l) e ∙ ap (reacts q s l) p

    -- the state that the bytes code
    coded : (s : State) → Codes q live s → decode q live ≡ some s
    coded s c =
        ap (decode q) (sym c.its_code) ∙ decode_code q (accepted-fit file q (accepted-reading adaptive file q a)) s c.in_set

    coded_none : ((s : State) → Codes q live s → ⊥) → (o : Option State) → decode q live ≡ o → o ≡ none
    coded_none f none d = refl
    coded_none f (some s) d = let w = code_decode q live s d in absurd (f s (record { in_set = w.0; its_code = w.1 }))

  pub go-sound : LiveSound live its (LiveStepRefuses file live letter)
  unfolding possible
  go-sound n p (go_1 f) = (step_by false (ne_eqb (length live) live_bytes f) _ refl, omega arith)
  go-sound n p (go_2_to_14 h r) =
      (step_by true (eq-eqb (length live) live_bytes h) (refused n p) (refused-reading adaptive file n p r), omega (arith, (reading-within adaptive file n p r).0))
  go-sound n p (go_23 {q = q} h a f) = (coded_by h q a none (coded_none h q a f (decode q live) refl), omega arith)
  go-sound n p (go_21 {q = q} {s = s} h a c f) =
      (letter-by h q a s (coded h q a s c) none (none-letter q letter f (letter_of q letter) refl), omega arith)
  go-sound n p (go_22 {q = q} {s = s} h a c m k e f) =
      (possible-by h q a s (coded h q a s c) (completion m) (of-completion file q a letter m k e) false (not_T (runs_l m s.left) f), omega arith)

  abbrev Ended : Type 0
  Ended = LiveEnds live its (LiveStepRefuses file live letter)

  module _ (h : length live ≡ live_bytes) (q : Program) (a : Accepts adaptive file q) (s : State) (d : decode q live ≡ some s) where
    codes : Codes q live s
    codes = let w = code_decode q live s d in record { in_set = w.0; its_code = w.1 }

    -- No. 22, or the reaction
    possible-ends : (l : Letter) → letter_of q letter ≡ some l → (b : Bool) → possible l s ≡ b → Ended
    unfolding possible
    possible-ends l e true p =
        goes (reaction q l s).does (code q (reaction q l s).state) (possible-by h q a s d l e true p) (code_long q (reaction q l s).state ∙ sym h)
    possible-ends (completion m) e false p =
        let w = letter-is q letter (completion m) e in
        refuses 22 0 (go_22 h a codes m w.0 w.1 (false-not (runs_l m s.left) p)) (possible-by h q a s d (completion m) e false p)
    possible-ends (occurrence x) e false p = absurd (true≢false p)

    -- No. 21
    letter-ends : (o : Option Letter) → letter_of q letter ≡ o → Ended
    letter-ends none e = refuses 21 0 (go_21 h a codes (λ i. letter-none file q a letter i e)) (letter-by h q a s d none e)
    letter-ends (some l) e = possible-ends l e (possible l s) refl

  -- No. 23
  code-ends : length live ≡ live_bytes → (q : Program) → Accepts adaptive file q → (o : Option State) → decode q live ≡ o → Ended
  code-ends h q a none d = refuses 23 0 (go_23 h a (λ s c. clash (let z = coded h q a s c in cc))) (coded_by h q a none d)
  code-ends h q a (some s) d = letter-ends h q a s d (letter_of q letter) refl

  pub go-ends : Ended
  go-ends = by (eqb (length live) live_bytes) refl (reading parse adaptive file) refl
    where
      by : (b : Bool) → eqb (length live) live_bytes ≡ b → (a : Answer Program) → reading parse adaptive file ≡ a → Ended
      by false q a i = refuses 1 0 (go_1 (eqb-false (length live) live_bytes q)) (step_by false q a i)
      by true q (refused n p) i =
          refuses n p (go_2_to_14 (eqb-true (length live) live_bytes q) (reading-refused adaptive file n p i)) (step_by true q (refused n p) i)
      by true q (accepted x) i = code-ends (eqb-true (length live) live_bytes q) x (reading-accepted adaptive file x i) (decode x live) refl
