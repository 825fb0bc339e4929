-- A state's turn, letter by letter: what holds after no letter, after one more, and after all; or there are too many states. Assumes nothing.
use Prim.Native.Nat.{ℕ, zero, suc, ◌+◌, ◌≤◌, ◌<◌}
use mathlib.Core.Path.{◌≡◌, sym, ap, subst, ◌∙◌}
use mathlib.Core.Bool.{true, false}
use mathlib.Core.List.{List, [], ◌∷◌, ◌++◌, map, append_assoc, append-nil, map-append}
use native.Mathlib.Omega.{arith}
use lib.ListN.{length, get_or, set, take, drop, length-append, length-map, length-set, take-append-drop}
use lib.Seq.{take-add, take-suc, take-set-le, get_or-set_same, take_all}
use Rattle.paper.specs.Rewriting.{Letter}
use Rattle.paper.specs.Reaction.{Program, State}
use Rattle.paper.specs.Discovery.{Among, here, there, letters, finds}
use Rattle.paper.proofs.Choices.{clash}
use Rattle.react.specs.declared.State.{State as Kept}
use Rattle.react.specs.States.{state_of}
use Rattle.coding.specs.Written.{Written}
use Rattle.coding.specs.Code.{code}
use Rattle.layout.proofs.Ranged.{number-listed, number-front}
use Rattle.engine.specs.Live.{Stated}
use Rattle.discover.specs.declared.Arrived.{Arrived}
use Rattle.discover.specs.Finding.{entered, met, Numbered, Seen, Arrives, Turning, Turns}
use Rattle.discover.proofs.Turning.{finds-append}

-- at most 512 are seen
pub seen_few : (p : Program) (K X : List ℕ) (ss : List State) → Seen p K X ss → length ss ≤ 512
seen_few p K X ss h = omega (arith, h.held.few, length-map ss (code p))

-- states behind the others leave a number
pub numbered-on : (s : State) (ss : List State) (k : ℕ) (more : List State) → Numbered s ss k → Numbered s (ss ++ more) k
numbered-on s ss k more h =
    (number-front s ss more (number-listed s ss (omega (arith, h.0, h.1))) ∙ h.0, omega (arith, h.1, length-append ss more))

-- the next letter is one of them
among-drop : (j : ℕ) (ls : List Letter) (l : Letter) (rest : List Letter) → drop j ls ≡ l ∷ rest → Among l ls
among-drop zero ls l rest e = subst (Among l) (sym e) here
among-drop (suc j) [] l rest e = clash (cc)
among-drop (suc j) (k ∷ ls) l rest e = there (among-drop j ls l rest e)

pub stated-of : (p : Program) (P ms W : List ℕ) (x : Kept) (l : Letter) → Written p (state_of P W ms x) → (j : ℕ) (rest : List Letter) → drop j (letters p) ≡ l ∷ rest → Stated p P ms W x l
stated-of p P ms W x l w j rest e = record { written = w; among = among-drop j (letters p) l rest e }

take_next : {A : Type 0} (j : ℕ) (ls : List A) (l : A) (rest : List A) → drop j ls ≡ l ∷ rest → take (j + 1) ls ≡ take j ls ++ l ∷ []
take_next j ls l rest e = take-add j 1 ls ∙ ap (λ (x : List _). take j ls ++ take 1 x) e

-- one place more, put behind what stands before it
take_put : (F : List ℕ) (i v : ℕ) → i < length F → take (i + 1) (set F i v) ≡ take i F ++ v ∷ []
take_put F i v h =
    let z : i + 1 ≡ suc i = omega arith in
    ap (λ (k : ℕ). take k (set F i v)) z
    ∙ (take-suc (set F i v) i 0 (omega (arith, length-set F i v))
    ∙ (ap (λ (x : List ℕ). x ++ get_or (set F i v) i 0 ∷ []) (take-set-le i F i v (omega arith))
    ∙ ap (λ (y : ℕ). take i F ++ y ∷ []) (get_or-set_same F i v 0 h)))

module _ (p : Program) (s : State) (ss : List State) where
  pub turning-none : (K X E : List ℕ) (at n : ℕ) → Seen p K X ss → length ss ≡ n → Turning p s ss K X E E at 0 n
  unfolding finds
  turning-none K X E at n h e = record {
    seen = subst (Seen p K X) (sym (append-nil ss)) h;
    count_is = sym (ap length (append-nil ss) ∙ e);
    entries_are = λ more. let z : at + 0 ≡ at = omega arith in ap (λ (k : ℕ). take k E) z ∙ sym (append-nil (take at E));
  }

  module _ (K X E F : List ℕ) (at j n : ℕ) (t : Turning p s ss K X E F at j n) (l : Letter) (rest : List Letter) (d : drop j (letters p) ≡ l ∷ rest) where
    abbrev before : List State
    before = met p s (take j (letters p)) ss

    -- the states met by one letter more
    met_next : met p s (take (j + 1) (letters p)) ss ≡ met p s (l ∷ []) before
    met_next =
        ap (λ (ls : List Letter). met p s ls ss) (take_next j (letters p) l rest d) ∙ finds-append p s (take j (letters p)) (l ∷ []) ss

    module _ (K' X' : List ℕ) (a : Arrived) (r : Arrives p s l before K' X' a) where
      pub turning-over : a.over ≡ true → 512 < length (met p s (letters p) ss)
      turning-over o =
          omega (
            arith,
            r.over o,
            ap length met_next,
            ap length (finds-append p s (take (j + 1) (letters p)) (drop (j + 1) (letters p)) ss),
            ap (λ (ls : List Letter). length (met p s ls ss)) (take-append-drop (j + 1) (letters p)),
            length-append (met p s (take (j + 1) (letters p)) ss)
                (finds p s (drop (j + 1) (letters p)) (met p s (take (j + 1) (letters p)) ss)),
          )

      pub turning-next : a.over ≡ false → at + j < length F → Turning p s ss K' X' E (set F (at + j) a.entry) at (j + 1) a.count
      turning-next o h = record {
        seen = subst (Seen p K' X') (sym met_next) (r.seen o);
        count_is = r.count_is o ∙ ap length (sym met_next);
        entries_are = entries;
      }
        where
          now : List State
          now = met p s (take (j + 1) (letters p)) ss

          entries : (more : List State) → take (at + (j + 1)) (set F (at + j) a.entry) ≡ take at E ++ map (entered p (now ++ more) s) (take (j + 1) (letters p))
          entries more =
              let z : at + (j + 1) ≡ at + j + 1 = omega arith in
              let new = finds p s (l ∷ []) before in
              let all : before ++ (new ++ more) ≡ now ++ more = sym (append_assoc before new more) ∙ ap (λ (x : List State). x ++ more) (sym met_next) in
              let old : take (at + j) F ≡ take at E ++ map (entered p (now ++ more) s) (take j (letters p)) =
              t.entries_are (new ++ more) ∙ ap (λ (x : List State). take at E ++ map (entered p x s) (take j (letters p))) all
              in
              let one : a.entry ≡ entered p (now ++ more) s l = r.entry_is o more ∙ ap (λ (x : List State). entered p (x ++ more) s l) (sym met_next) in
              ap (λ (k : ℕ). take k (set F (at + j) a.entry)) z
              ∙ (take_put F (at + j) a.entry h
              ∙ (ap (λ (x : List ℕ). x ++ a.entry ∷ []) old
              ∙ (ap (λ (y : ℕ). (take at E ++ map (entered p (now ++ more) s) (take j (letters p))) ++ y ∷ []) one
              ∙ (append_assoc (take at E) (map (entered p (now ++ more) s) (take j (letters p))) (entered p (now ++ more) s l ∷ [])
              ∙ ap (λ (x : List ℕ). take at E ++ x)
              (sym (map-append (entered p (now ++ more) s) (take j (letters p)) (l ∷ []))
              ∙ ap (map (entered p (now ++ more) s)) (sym (take_next j (letters p) l rest d)))))))

  pub turning-all : (K X E F : List ℕ) (at j n : ℕ) → Turning p s ss K X E F at j n → length (letters p) ≤ j → j ≤ length (letters p) → Turns p s ss K X E F at false n
  turning-all K X E F at j n t h k = record {
    too_many = λ o. clash (cc);
    seen = λ o. subst (λ (ls : List Letter). Seen p K X (met p s ls ss)) every t.seen;
    count_is = λ o. t.count_is ∙ ap (λ (ls : List Letter). length (met p s ls ss)) every;
    entries_are = λ o more.
        let z : j ≡ length (letters p) = omega arith in
        ap (λ (i : ℕ). take (at + i) F) (sym z)
        ∙ (t.entries_are more
        ∙ ap (λ (ls : List Letter). take at E ++ map (entered p (met p s ls ss ++ more) s) ls) every);
  }
    where
      every : take j (letters p) ≡ letters p
      every = take_all j (letters p) h

  pub turns-over : (K X E F : List ℕ) (at n : ℕ) → 512 < length (met p s (letters p) ss) → Turns p s ss K X E F at true n
  turns-over K X E F at n h = record {
    too_many = λ o. h;
    seen = λ o. clash (cc);
    count_is = λ o. clash (cc);
    entries_are = λ o. clash (cc);
  }
